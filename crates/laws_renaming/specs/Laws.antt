-- What becomes of an instruction whose parts are mapped, over the definitions alone.
use Rattle.std.specs.Prelude.{◌≡◌, ◌↔◌, ◌<◌, ◌++◌, ℕ, Bool, List, Option, length, map, slice_set}
use Rattle.std.specs.List.{AllByRecursion}
use Rattle.sour_syntax.specs.declared.literal.Value.{Value}
use Rattle.sour_syntax.specs.declared.literal.VarId.{VarId}
use Rattle.sour_syntax.specs.declared.expression.Simple.{Simple}
use Rattle.sour_syntax.specs.declared.expression.Simple.TheVariants as simple
use Rattle.sour_syntax.specs.declared.expression.Expr.{Expr}
use Rattle.sour_syntax.specs.declared.exit.Code.{Code}
use Rattle.sour_syntax.specs.declared.exit.Exit.{Exit}
use Rattle.sour_syntax.specs.declared.instruction.Instr.{Instr}
use Rattle.sour_syntax.specs.Exits.{continuations, exit_values}
use Rattle.sour_syntax.specs.Jumps.{named_labels}
use Rattle.sour_syntax.specs.Limits.{IsShortInstr}
use Rattle.sour_syntax.specs.Literals.{IsLiteral, literals_of}
use Rattle.sour_syntax.specs.Scopes.{Scope, IsInScope, IsOutOfScope, IsFine, simple_variables, variables_of_expr, variables_of_each, declared_by, mentioned, following_labels, scope_after}
use Rattle.sour_syntax.specs.Terminator.{IsTerminator}
use Rattle.sour_semantics.specs.State.{Environment, Heap}
use Rattle.sour_semantics.specs.Evaluation.{operand, eval, eval_each, holds_each}
use Rattle.sour_semantics.specs.Shape.{IsAnchorInstr, IsCallOrReturn}
use Rattle.laws_renaming.specs.Mapping.{Mapping, mapped, same, both, mapped_expr, mapped_exit, mapped_continuation}
use Rattle.laws_renaming.specs.Keeps.{Keeps, KeepsVariables, KeepsLiterals, KeepsAnchor, KeepsShort}
use Rattle.laws_renaming.specs.Renaming.{Renaming, moved, renamed_simple, renaming}

-- to map each part to itself changes nothing
abbrev pub ChangesNothing : Type 0
ChangesNothing = (instr : Instr) → mapped same instr ≡ instr

-- to map the parts and then to map them again is to map them by both at once
abbrev pub GoesInSteps : Type 0
GoesInSteps = (first second : Mapping) (instr : Instr)
    → mapped second (mapped first instr) ≡ mapped (both first second) instr

-- the labels to which it jumps are mapped
abbrev pub MapsLabels : Type 0
MapsLabels = (by : Mapping) (instr : Instr) → named_labels (mapped by instr) ≡ map by.labels (named_labels instr)

-- so are those that may follow it; that of the next line counts only if it is no terminator
abbrev pub MapsFollowing : Type 0
MapsFollowing = (by : Mapping) (next there : List ℕ) (instr : Instr)
    → ((IsTerminator instr → ⊥) → there ≡ by.labels next)
    → following_labels (mapped by instr) there ≡ map by.labels (following_labels instr next)

-- the variables that it declares are mapped
abbrev pub MapsDeclared : Type 0
MapsDeclared = (by : Mapping) (instr : Instr) → declared_by (mapped by instr) ≡ map by.variables (declared_by instr)

-- the scope after it, in a scope that is made out of another one, is made out of the one after the old instruction
abbrev pub MapsScope : Type 0
MapsScope = (by : Mapping) (scopes : Scope → Scope)
    → ((x : VarId) (is : Bool) (scope : Scope)
    → slice_set (scopes scope) (by.variables x).0 is ≡ scopes (slice_set scope x.0 is))
    → (scope : Scope) (instr : Instr) → scope_after (mapped by instr) (scopes scope) ≡ scopes (scope_after instr scope)

-- it is a terminator, or a call or a return, if the old one is
pub record IsOfKind (old new : Instr) : Type 0 where
  pub ends : IsTerminator new ↔ IsTerminator old
  pub calls : IsCallOrReturn new ↔ IsCallOrReturn old

abbrev pub KeepsKind : Type 0
KeepsKind = (by : Mapping) (instr : Instr) → IsOfKind instr (mapped by instr)

-- it may stand in a scope, if the old one may in another and the variables keep whether they are in scope
abbrev pub MayStand : Type 0
MayStand = (by : Mapping) (scope other : Scope) (instr : Instr) → KeepsVariables by (IsInScope scope) (IsInScope other)
    → ((x : VarId) → IsOutOfScope scope x → IsOutOfScope other (by.variables x))
    → IsFine instr scope → IsFine (mapped by instr) other

-- it mentions variables of a body with so many, if the old one does of a body with so many others
abbrev pub MentionsItsOwn : Type 0
MentionsItsOwn = (by : Mapping) (count other : ℕ) (instr : Instr)
    → KeepsVariables by (λ x. x.0 < count) (λ x. x.0 < other)
    → Keeps (λ x. x.0 < count) (λ x. x.0 < other) (mentioned instr) (mentioned (mapped by instr))

-- its literals are those of a program, if the old ones are
abbrev pub HasItsLiterals : Type 0
HasItsLiterals = (by : Mapping) (functions : ℕ) (instr : Instr)
    → KeepsLiterals by (IsLiteral functions) (IsLiteral functions)
    → Keeps (IsLiteral functions) (IsLiteral functions) (literals_of instr) (literals_of (mapped by instr))

-- that of an anchor stays one
abbrev pub StaysAnchor : Type 0
StaysAnchor = (by : Mapping) (instr : Instr) → KeepsAnchor by → IsAnchorInstr instr → IsAnchorInstr (mapped by instr)

-- it stays within the limits
abbrev pub StaysShort : Type 0
StaysShort = (by : Mapping) (instr : Instr) → KeepsShort by → IsShortInstr instr → IsShortInstr (mapped by instr)

-- the values of all maps of an exit are mapped, and the frames that it may make
pub record MapsExit (codes : Code → Code) (values : Expr → Expr) (exit : Exit) : Type 0 where
  pub each : exit_values (mapped_exit codes values exit) ≡ map values (exit_values exit)
  pub frames : continuations (mapped_exit codes values exit)
      ≡ map (mapped_continuation codes values) (continuations exit)

abbrev pub MapsExits : Type 0
MapsExits = (codes : Code → Code) (values : Expr → Expr) (exit : Exit) → MapsExit codes values exit

-- what a mapping of expressions gives in one row is what they give in another
pub record HasValues (row other : Environment) (heap : Heap) (values : Expr → Expr) : Type 0 where
  pub one : (e : Expr) → eval row heap (values e) ≡ eval other heap e
  pub each : (es : List Expr) → eval_each row heap (map values es) ≡ eval_each other heap es
  pub hold : (es : List Expr) → holds_each row heap (map values es) ≡ holds_each other heap es

-- expressions have the same values in both rows, if operands have
abbrev pub KeepsValues : Type 0
KeepsValues = (row other : Environment) (heap : Heap) (variables : VarId → VarId) (operands : Simple → Simple)
    → ((x : VarId) → operand row (simple.Var (variables x)) ≡ operand other (simple.Var x))
    → ((a : Simple) → operand row (operands a) ≡ operand other a)
    → HasValues row other heap (mapped_expr variables operands)

-- a variable has the same value in both rows, and so has each of some
abbrev pub IsAlike : Environment → Environment → VarId → Type 0
IsAlike row other x = operand row (simple.Var x) ≡ operand other (simple.Var x)

abbrev pub HasAlike : Environment → Environment → List VarId → Type 0
HasAlike row other xs = AllByRecursion (IsAlike row other) xs

-- what mentions only variables that have the same values in two rows has the same value in both
pub record AreAlike (row other : Environment) (heap : Heap) : Type 0 where
  pub operands : (a : Simple) → HasAlike row other (simple_variables a) → operand row a ≡ operand other a
  pub values : (e : Expr) → HasAlike row other (variables_of_expr e) → eval row heap e ≡ eval other heap e
  pub each : (es : List Expr) → HasAlike row other (variables_of_each es)
      → eval_each row heap es ≡ eval_each other heap es
  pub hold : (es : List Expr) → HasAlike row other (variables_of_each es)
      → holds_each row heap es ≡ holds_each other heap es

abbrev pub RowsAlike : Type 0
RowsAlike = (row other : Environment) (heap : Heap) → AreAlike row other heap

-- a variable of a row has the same value if another row comes after it, and is set there
pub record IsBefore (row more : Environment) (x : VarId) : Type 0 where
  pub alike : IsAlike (row ++ more) row x
  pub sets : (value : Option Value) → slice_set (row ++ more) x.0 value ≡ slice_set row x.0 value ++ more

abbrev pub RowsBefore : Type 0
RowsBefore = (row more : Environment) (x : VarId) → x.0 < length row → IsBefore row more x

-- the variables of a row that comes after another have the same values, once they are moved, and are set there
pub record IsBehind (by : Renaming) (row more : Environment) : Type 0 where
  pub variables : (x : VarId) → operand (row ++ more) (simple.Var (by.variables x)) ≡ operand more (simple.Var x)
  pub operands : (a : Simple) → operand (row ++ more) (renamed_simple by a) ≡ operand more a
  pub sets : (x : VarId) (value : Option Value)
      → slice_set (row ++ more) (by.variables x).0 value ≡ row ++ slice_set more x.0 value

-- the renaming moves variables behind so many others
abbrev pub Moves : Renaming → ℕ → Type 0
Moves by count = (x : VarId) → by.variables x ≡ moved count x

abbrev pub RowsBehind : Type 0
RowsBehind = (by : Renaming) (row more : Environment) → Moves by (length row) → IsBehind by row more

-- so are those of a scope that comes after another in scope if they were, and are set there
pub record IsScopeBehind (by : Renaming) (scope more : Scope) : Type 0 where
  pub within : (x : VarId) → IsInScope more x → IsInScope (scope ++ more) (by.variables x)
  pub out : (x : VarId) → IsOutOfScope more x → IsOutOfScope (scope ++ more) (by.variables x)
  pub sets : (x : VarId) (is : Bool) → slice_set (scope ++ more) (by.variables x).0 is ≡ scope ++ slice_set more x.0 is

abbrev pub ScopesBehind : Type 0
ScopesBehind = (by : Renaming) (scope more : Scope) → Moves by (length scope) → IsScopeBehind by scope more

-- a renaming keeps literals, anchors and limits, and what is in scope if it renames that to what is
pub record KeepsRenamed (by : Renaming) : Type 0 where
  pub scopes : (scope other : Scope) → ((x : VarId) → IsInScope scope x → IsInScope other (by.variables x))
      → KeepsVariables (renaming by) (IsInScope scope) (IsInScope other)
  pub counts : (count other : ℕ) → ((x : VarId) → x.0 < count → (by.variables x).0 < other)
      → KeepsVariables (renaming by) (λ x. x.0 < count) (λ x. x.0 < other)
  pub literals : (functions : ℕ) → KeepsLiterals (renaming by) (IsLiteral functions) (IsLiteral functions)
  pub anchors : KeepsAnchor (renaming by)
  pub limits : KeepsShort (renaming by)

abbrev pub Renames : Type 0
Renames = (by : Renaming) → KeepsRenamed by
