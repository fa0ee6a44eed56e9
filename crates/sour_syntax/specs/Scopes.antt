-- Which variables are in scope where.
use Rattle.std.specs.Prelude.{◌≡◌, ◌-◌, ◌<◌, ℕ, zero, suc, Bool, true, false, List, [], ◌∷◌, ◌++◌, Option, None, Some, length, Contains, replicate, slice_get, slice_set}
use Rattle.std.specs.List.{AllByRecursion}
use Rattle.sour_syntax.specs.declared.literal.VarId.{VarId}
use Rattle.sour_syntax.specs.declared.expression.Simple.{Simple}
use Rattle.sour_syntax.specs.declared.expression.Simple.TheVariants as simple
use Rattle.sour_syntax.specs.declared.expression.Expr.{Expr}
use Rattle.sour_syntax.specs.declared.expression.Expr.TheVariants as expr
use Rattle.sour_syntax.specs.declared.instruction.Instr.{Instr}
use Rattle.sour_syntax.specs.declared.instruction.Instr.TheVariants.{Var, Drop, Assign, ArrayLength, ArrayList, Store, Print, Read, Branch, Goto, Call, Return, Stop, Assume}
use Rattle.sour_syntax.specs.declared.instruction.Line.{Line}
use Rattle.sour_syntax.specs.BodyView.{BodyView}
use Rattle.sour_syntax.specs.Exits.{exit_values}
use Rattle.sour_syntax.specs.Labels.{from_label, first_label, label_at}

-- for each variable of a body, by its number, whether it is in scope
abbrev pub Scope : Type 0
Scope = List Bool

-- the variables of an operand
abbrev pub simple_variables : Simple → List VarId
simple_variables (simple.Lit literal) = []
simple_variables (simple.Var x) = x ∷ []

-- the variables of an expression
abbrev pub variables_of_expr : Expr → List VarId
variables_of_expr (expr.Plain a) = simple_variables a
variables_of_expr (expr.Cell x index) = x ∷ simple_variables index
variables_of_expr (expr.Length a) = simple_variables a
variables_of_expr (expr.Not a) = simple_variables a
variables_of_expr (expr.Binary op a b) = simple_variables a ++ simple_variables b

-- the variables of some expressions, in the order in which they are written
abbrev pub variables_of_each : List Expr → List VarId
variables_of_each [] = []
variables_of_each (e ∷ es) = variables_of_expr e ++ variables_of_each es

-- the variables that must be in scope before an instruction
abbrev pub needed : Instr → List VarId
needed (Var x e) = variables_of_expr e
needed (Drop x) = x ∷ []
needed (Assign x e) = x ∷ variables_of_expr e
needed (ArrayLength x e) = variables_of_expr e
needed (ArrayList x es) = variables_of_each es
needed (Store x index e) = x ∷ simple_variables index ++ variables_of_expr e
needed (Print e) = variables_of_expr e
needed (Read x) = []
needed (Branch e a b) = variables_of_expr e
needed (Goto a) = []
needed (Call x callee es) = simple_variables callee ++ variables_of_each es
needed (Return e) = variables_of_expr e
needed Stop = []
needed (Assume es exit) = variables_of_each es ++ variables_of_each (exit_values exit)

-- the variables that an instruction declares, which must not be in scope before it
abbrev pub declared_by : Instr → List VarId
declared_by (Var x e) = x ∷ []
declared_by (Drop x) = []
declared_by (Assign x e) = []
declared_by (ArrayLength x e) = x ∷ []
declared_by (ArrayList x es) = x ∷ []
declared_by (Store x index e) = []
declared_by (Print e) = []
declared_by (Read x) = []
declared_by (Branch e a b) = []
declared_by (Goto a) = []
declared_by (Call x callee es) = []
declared_by (Return e) = []
declared_by Stop = []
declared_by (Assume es exit) = []

-- the variables that an instruction mentions, in the order in which they are written
abbrev pub mentioned : Instr → List VarId
mentioned (Var x e) = x ∷ variables_of_expr e
mentioned (Drop x) = x ∷ []
mentioned (Assign x e) = x ∷ variables_of_expr e
mentioned (ArrayLength x e) = x ∷ variables_of_expr e
mentioned (ArrayList x es) = x ∷ variables_of_each es
mentioned (Store x index e) = x ∷ simple_variables index ++ variables_of_expr e
mentioned (Print e) = variables_of_expr e
mentioned (Read x) = x ∷ []
mentioned (Branch e a b) = variables_of_expr e
mentioned (Goto a) = []
mentioned (Call x callee es) = x ∷ simple_variables callee ++ variables_of_each es
mentioned (Return e) = variables_of_expr e
mentioned Stop = []
mentioned (Assume es exit) = variables_of_each es ++ variables_of_each (exit_values exit)

-- the scope behind an instruction
abbrev pub scope_after : Instr → Scope → Scope
scope_after (Var x e) scope = slice_set scope x.0 true
scope_after (Drop x) scope = slice_set scope x.0 false
scope_after (Assign x e) scope = scope
scope_after (ArrayLength x e) scope = slice_set scope x.0 true
scope_after (ArrayList x es) scope = slice_set scope x.0 true
scope_after (Store x index e) scope = scope
scope_after (Print e) scope = scope
scope_after (Read x) scope = slice_set scope x.0 true
scope_after (Branch e a b) scope = scope
scope_after (Goto a) scope = scope
scope_after (Call x callee es) scope = slice_set scope x.0 true
scope_after (Return e) scope = scope
scope_after Stop scope = scope
scope_after (Assume es exit) scope = scope

-- the labels that may follow an instruction, where this one is that of the next line
abbrev pub following_labels : Instr → List ℕ → List (List ℕ)
following_labels (Var x e) next = next ∷ []
following_labels (Drop x) next = next ∷ []
following_labels (Assign x e) next = next ∷ []
following_labels (ArrayLength x e) next = next ∷ []
following_labels (ArrayList x es) next = next ∷ []
following_labels (Store x index e) next = next ∷ []
following_labels (Print e) next = next ∷ []
following_labels (Read x) next = next ∷ []
following_labels (Branch e a b) next = a ∷ b ∷ []
following_labels (Goto a) next = a ∷ []
following_labels (Call x callee es) next = next ∷ []
following_labels (Return e) next = []
following_labels Stop next = []
following_labels (Assume es exit) next = next ∷ []

-- the scope at the first line: the parameters
abbrev pub first_scope : BodyView → Scope
first_scope body = replicate body.parameters true ++ replicate (length body.variables - body.parameters) false

-- a scope together with the variable that waits for a result
abbrev pub scope_with : Option ℕ → Scope → Scope
scope_with None scope = scope
scope_with (Some variable) scope = slice_set scope variable true

-- a line at a label, with the lines behind it
pub record IsLineAt (body : BodyView) (label : List ℕ) (line : Line) (rest : List Line) : Type 0 where
  pub stands : from_label label body.lines ≡ line ∷ rest

-- a path of so many instructions leads from the first line to this label, and gives it this scope
abbrev pub HasScope : BodyView → ℕ → List ℕ → Scope → Type 0
HasScope body zero label scope = (label ≡ first_label body.lines) × (scope ≡ first_scope body)
HasScope body (suc count) label scope =
    (from : List ℕ) × (before : Scope) × (line : Line) × (rest : List Line)
    × HasScope body count from before × IsLineAt body from line rest
    × Contains (following_labels line.instr (first_label rest)) label × (scope ≡ scope_after line.instr before)

-- a variable is in a scope, or isn't
abbrev pub IsInScope : Scope → VarId → Type 0
IsInScope scope x = slice_get scope x.0 ≡ Some true

abbrev pub IsOutOfScope : Scope → VarId → Type 0
IsOutOfScope scope x = slice_get scope x.0 ≡ Some false

-- an instruction may stand where this is the scope
pub record IsFine (instr : Instr) (scope : Scope) : Type 0 where
  pub needs : AllByRecursion (IsInScope scope) (needed instr)
  pub declares : AllByRecursion (IsOutOfScope scope) (declared_by instr)

-- each label has one scope whatever path leads to it, and in it the instruction there may stand
pub record HasScopes (body : BodyView) : Type 0 where
  pub one : (m n : ℕ) (label : List ℕ) (scope other : Scope)
      → HasScope body m label scope → HasScope body n label other → scope ≡ other
  pub fine : (count : ℕ) (label : List ℕ) (scope : Scope) (line : Line) (rest : List Line)
      → HasScope body count label scope → IsLineAt body label line rest → IsFine line.instr scope

-- the variables in a scope by their numbers, in ascending order, where the first of the scope has this number
abbrev pub members : ℕ → Scope → List VarId
members x [] = []
members x (true ∷ scope) = record { 0 = x } ∷ members (suc x) scope
members x (false ∷ scope) = members (suc x) scope

-- some path leads to the line at this place, and these are the variables in scope there
pub record HasInScope (body : BodyView) (place : ℕ) (variables : List VarId) : Type 0 where
  pub count : ℕ
  pub scope : Scope
  pub path : HasScope body count (label_at body.lines place) scope
  pub are : variables ≡ members 0 scope

-- no path leads to the line at this place
abbrev pub IsUnreached : BodyView → ℕ → Type 0
IsUnreached body place = (count : ℕ) (scope : Scope) → HasScope body count (label_at body.lines place) scope → ⊥

-- each variable that a line mentions is one of the body's
abbrev pub MentionsItsVariables : BodyView → Type 0
MentionsItsVariables body =
    AllByRecursion (λ line. AllByRecursion (λ x. x.0 < length body.variables) (mentioned line.instr)) body.lines
