-- How a frame goes on after an instruction: what facts along runs rest on.
use Rattle.std.specs.Prelude.{◌≡◌, ℕ, List, Bool, None, Some, Ok, true, false, not, ◌⊎◌, ◌++◌, slice_set, Contains, if◌then◌else◌}
use Rattle.sour_syntax.specs.declared.literal.Literal.TheVariants.{Truth}
use Rattle.sour_syntax.specs.declared.literal.Value.TheVariants.{Plain}
use Rattle.sour_syntax.specs.declared.exit.Exit.{Exit}
use Rattle.sour_syntax.specs.declared.expression.Expr.{Expr}
use Rattle.sour_syntax.specs.declared.expression.Simple.{Simple}
use Rattle.sour_syntax.specs.declared.instruction.Instr.{Instr}
use Rattle.sour_syntax.specs.declared.instruction.Instr.TheVariants.{Var, Drop, Assign, ArrayLength, ArrayList, Store, Print, Read, Branch, Goto, Call, Return, Stop, Assume}
use Rattle.sour_syntax.specs.declared.literal.Value.{Value}
use Rattle.sour_syntax.specs.declared.literal.VarId.{VarId}
use Rattle.sour_syntax.specs.Exits.{continuations}
use Rattle.sour_syntax.specs.Program.{ProgramView}
use Rattle.sour_syntax.specs.Scopes.{following_labels}
use Rattle.sour_syntax.specs.Terminator.{IsTerminator}
use Rattle.sour_semantics.specs.State.{Environment, Heap, Frame, Ending, returned}
use Rattle.sour_semantics.specs.Evaluation.{eval, holds_each}
use Rattle.sour_semantics.specs.Step.{is_anchor, landed_frames}
use Rattle.laws_effects.specs.Effect.{World, Deed, goes, asks, gives, lands, finishes, Effect}

-- the variable has the value of the expression
abbrev pub Gets : VarId → Expr → Environment → Heap → Environment → Type 0
Gets x e environment heap row =
    (value : Value) × (eval environment heap e ≡ Ok value) × (row ≡ slice_set environment x.0 (Some value))

-- the variable has some value
abbrev pub GetsSome : VarId → Environment → Environment → Type 0
GetsSome x environment row = (value : Value) × (row ≡ slice_set environment x.0 (Some value))

-- what an instruction makes of an environment if the frame goes on
abbrev pub Becomes : Instr → Environment → Heap → Environment → Type 0
Becomes (Var x e) environment heap row = Gets x e environment heap row
Becomes (Drop x) environment heap row = row ≡ slice_set environment x.0 None
Becomes (Assign x e) environment heap row = Gets x e environment heap row
Becomes (ArrayLength x e) environment heap row = GetsSome x environment row
Becomes (ArrayList x es) environment heap row = GetsSome x environment row
Becomes (Store x index e) environment heap row = row ≡ environment
Becomes (Print e) environment heap row = row ≡ environment
Becomes (Read x) environment heap row = GetsSome x environment row
Becomes (Branch e a b) environment heap row = row ≡ environment
Becomes (Goto a) environment heap row = row ≡ environment
Becomes (Call x callee es) environment heap row = GetsSome x environment row
Becomes (Return e) environment heap row = ⊥
Becomes Stop environment heap row = ⊥
Becomes (Assume es exit) environment heap row = (row ≡ environment) × (holds_each environment heap es ≡ Ok true)

-- a branch goes to the label that its value says; nothing is said of any other instruction
abbrev pub Takes : Instr → Environment → Heap → List ℕ → Type 0
Takes (Branch e a b) environment heap label =
    (test : Bool) × (eval environment heap e ≡ Ok (Plain (Truth test))) × (label ≡ (if test then a else b))
Takes instr environment heap label = Unit {0}

-- an instruction by itself ends no run with a value
abbrev pub IsOwnEnding : Ending → Type 0
IsOwnEnding (returned value) = ⊥
IsOwnEnding ending = Unit {0}

-- the deed is one that the instruction may do in this frame
abbrev pub IsDeedOf : ProgramView → Frame → Heap → Instr → List ℕ → Deed → Type 0
IsDeedOf program frame heap instr next (goes label environment world) =
    Contains (following_labels instr next) label × Becomes instr frame.environment heap environment
    × Takes instr frame.environment heap label
IsDeedOf program frame heap instr next (asks x f values label) =
    (callee : Simple) × (es : List Expr) × (instr ≡ Call x callee es) × (label ≡ next)
IsDeedOf program frame heap instr next (gives value) = Unit {0}
IsDeedOf program frame heap instr next (lands frames) =
    (es : List Expr) × (exit : Exit) × (instr ≡ Assume es exit)
    × (landed_frames program frame heap (continuations exit) ≡ Ok frames)
IsDeedOf program frame heap instr next (finishes ending) = IsOwnEnding ending

-- bytes, with more after them
abbrev pub Grows : List ℕ → List ℕ → Type 0
Grows old new = (more : List ℕ) × (new ≡ old ++ more)

-- the deed may take a turn or none: what takes none goes to the next line or leaves at an anchor, and it alone writes
abbrev pub IsTurnOf : Frame → World → Instr → List ℕ → Bool → Deed → Type 0
IsTurnOf frame world instr next turn (goes label environment after) =
    (turn ≡ false → (label ≡ next) × (IsTerminator instr → ⊥))
    × ((turn ≡ false) × Grows world.output after.output ⊎ (after.output ≡ world.output))
IsTurnOf frame world instr next turn (asks x f values label) = turn ≡ true
IsTurnOf frame world instr next turn (gives value) = turn ≡ true
IsTurnOf frame world instr next turn (lands frames) = turn ≡ not (is_anchor frame.label)
IsTurnOf frame world instr next turn (finishes ending) = Unit {0}

-- the effect is one of the instruction
pub record IsEffectOf (program : ProgramView) (frame : Frame) (world : World) (instr : Instr) (next : List ℕ)
    (e : Effect) : Type 0 where
  pub does : IsDeedOf program frame world.heap instr next e.deed
  pub takes : IsTurnOf frame world instr next e.turn e.deed
