-- What holds of every bundle.
use Rattle.std.specs.Prelude.{◌≡◌, ◌≤◌, ℕ, List, [], ◌∷◌, ◌++◌, Some, IsTrue, length, nat_eq, slice_get, take, if◌then◌else◌}
use Rattle.std.specs.List.{AllByRecursion}
use Rattle.sour_syntax.specs.declared.expression.Op.{Op}
use Rattle.sour_syntax.specs.declared.expression.Op.TheVariants as op
use Rattle.sour_syntax.specs.declared.expression.Expr.{Expr}
use Rattle.sour_syntax.specs.declared.expression.Expr.TheVariants as expr
use Rattle.sour_syntax.specs.declared.instruction.Instr.{Instr}
use Rattle.sour_syntax.specs.declared.instruction.Instr.TheVariants.{Var, Drop, Assign, ArrayLength, ArrayList, Store, Print, Read, Branch, Goto, Call, Return, Stop, Assume}
use Rattle.sour_syntax.specs.declared.instruction.Line.{Line}
use Rattle.sour_syntax.specs.Body.{IsBody}
use Rattle.sour_syntax.specs.BodyView.{BodyView}
use Rattle.sour_syntax.specs.Exits.{exit_values}
use Rattle.sour_syntax.specs.Limits.{IsShortInstr}
use Rattle.sour_syntax.specs.Program.{ProgramView, NamesDiffer, HasLiterals, BeginsAsWord}
use Rattle.sour_syntax.specs.Scopes.{Scope, HasScope}
use Rattle.sour_syntax.specs.Targets.{text_body, made_body, HasExits}
use Rattle.sour_semantics.specs.State.{BundleView}
use Rattle.sour_semantics.specs.Step.{is_anchor}

-- an operator that never traps and says whether two values are the same
abbrev pub IsEquality : Op → Type 0
IsEquality op.Add = ⊥
IsEquality op.Sub = ⊥
IsEquality op.Mul = ⊥
IsEquality op.Div = ⊥
IsEquality op.Rem = ⊥
IsEquality op.Eq = Unit {0}
IsEquality op.Ne = ⊥
IsEquality op.Lt = ⊥
IsEquality op.Le = ⊥
IsEquality op.Gt = ⊥
IsEquality op.Ge = ⊥
IsEquality op.And = ⊥
IsEquality op.Or = ⊥

-- an expression that compares two operands
abbrev pub IsEqualityTest : Expr → Type 0
IsEqualityTest (expr.Plain a) = ⊥
IsEqualityTest (expr.Cell x index) = ⊥
IsEqualityTest (expr.Length a) = ⊥
IsEqualityTest (expr.Not a) = ⊥
IsEqualityTest (expr.Binary operator a b) = IsEquality operator

-- an expression that is an operand
abbrev pub IsOperand : Expr → Type 0
IsOperand (expr.Plain a) = Unit {0}
IsOperand (expr.Cell x index) = ⊥
IsOperand (expr.Length a) = ⊥
IsOperand (expr.Not a) = ⊥
IsOperand (expr.Binary operator a b) = ⊥

-- an assume that never traps: its predicates compare operands, and its maps hold operands
abbrev pub IsAnchorInstr : Instr → Type 0
IsAnchorInstr (Var x e) = ⊥
IsAnchorInstr (Drop x) = ⊥
IsAnchorInstr (Assign x e) = ⊥
IsAnchorInstr (ArrayLength x e) = ⊥
IsAnchorInstr (ArrayList x es) = ⊥
IsAnchorInstr (Store x index e) = ⊥
IsAnchorInstr (Print e) = ⊥
IsAnchorInstr (Read x) = ⊥
IsAnchorInstr (Branch e a b) = ⊥
IsAnchorInstr (Goto a) = ⊥
IsAnchorInstr (Call x callee es) = ⊥
IsAnchorInstr (Return e) = ⊥
IsAnchorInstr Stop = ⊥
IsAnchorInstr (Assume es exit) = AllByRecursion IsEqualityTest es × AllByRecursion IsOperand (exit_values exit)

-- the instruction enters a function or leaves one; inlining makes several of it, whose labels and variables begin with its label
abbrev pub IsCallOrReturn : Instr → Type 0
IsCallOrReturn (Var x e) = ⊥
IsCallOrReturn (Drop x) = ⊥
IsCallOrReturn (Assign x e) = ⊥
IsCallOrReturn (ArrayLength x e) = ⊥
IsCallOrReturn (ArrayList x es) = ⊥
IsCallOrReturn (Store x index e) = ⊥
IsCallOrReturn (Print e) = ⊥
IsCallOrReturn (Read x) = ⊥
IsCallOrReturn (Branch e a b) = ⊥
IsCallOrReturn (Goto a) = ⊥
IsCallOrReturn (Call x callee es) = Unit {0}
IsCallOrReturn (Return e) = Unit {0}
IsCallOrReturn Stop = ⊥
IsCallOrReturn (Assume es exit) = ⊥

-- a label without the `@` at its front, if it has one
abbrev pub without_at : List ℕ → List ℕ
without_at [] = []
without_at (byte ∷ bytes) = if nat_eq byte 64 then bytes else byte ∷ bytes

-- a name begins with these bytes
abbrev pub BeginsWith : List ℕ → List ℕ → Type 0
BeginsWith front name = (rest : List ℕ) × (name ≡ front ++ rest)

-- a line of a made body has a label by its kind
pub record HasMadeLabel (line : Line) : Type 0 where
  pub begins : BeginsAsWord (without_at line.label)
  pub anchor : IsTrue (is_anchor line.label) → IsAnchorInstr line.instr

-- neither a label nor a variable of the body begins with this label and `/`
pub record IsFreeFor (body : BodyView) (label : List ℕ) : Type 0 where
  pub labels : AllByRecursion (λ line. ¬ BeginsWith (label ++ 47 ∷ []) (without_at line.label)) body.lines
  pub variables : AllByRecursion (λ name. ¬ BeginsWith (label ++ 47 ∷ []) name) body.variables

-- the label has a scope: some path leads to it
abbrev pub HasSomeScope : BodyView → List ℕ → Type 0
HasSomeScope body label = (count : ℕ) × (scope : Scope) × HasScope body count label scope

-- the body takes the parameters of the function of which it is one
pub record TakesParameters (program : ProgramView) (body : BodyView) : Type 0 where
  pub text : BodyView
  pub found : text_body (slice_get program.functions body.function.0) 0 ≡ Some text
  pub count : body.parameters ≡ text.parameters
  pub names : take text.parameters body.variables ≡ take text.parameters text.variables

-- a body of a bundle, before which there are these
pub record IsMadeBody (program : ProgramView) (earlier : List BodyView) (body : BodyView) : Type 0 where
  pub is : IsBody body
  pub takes : TakesParameters program body
  pub differ : NamesDiffer body.variables
  pub literals : HasLiterals (length program.functions) body.lines
  -- each line has a scope
  pub scoped : AllByRecursion (λ line. HasSomeScope body line.label) body.lines
  pub labels : AllByRecursion HasMadeLabel body.lines
  pub free : AllByRecursion (λ line. IsCallOrReturn line.instr → IsFreeFor body line.label) body.lines
  -- an exit leads to an earlier body or to a version of the text
  pub exits : HasExits program.functions earlier body
  pub lines : length body.lines ≤ 4096
  pub few_variables : length body.variables ≤ 1024
  pub instrs : AllByRecursion (λ line. IsShortInstr line.instr) body.lines

-- each is a body of a bundle, where these stand before the first of them
abbrev pub AreMadeBodies : ProgramView → List BodyView → List BodyView → Type 0
AreMadeBodies program earlier [] = Unit {0}
AreMadeBodies program earlier (body ∷ bodies) = IsMadeBody program earlier body × AreMadeBodies program (earlier ++ body ∷ []) bodies

-- a bundle of a function of this program: at least one body and at most 32, of which the last is one of that function
pub record HasShape (program : ProgramView) (bundle : BundleView) : Type 0 where
  pub each : AreMadeBodies program [] bundle.bodies
  pub few : length bundle.bodies ≤ 32
  pub top : BodyView
  pub last : made_body bundle.bodies (length bundle.bodies) ≡ Some top
  pub own : top.function ≡ bundle.function
