-- What the code of an instruction does to a moment of a run.
use Rattle.std.specs.Prelude.{◌≡◌, ◌⊎◌, ℕ, ◌+◌, ◌<◌, ◌≤◌, List, [], ◌∷◌, ◌++◌, Bool, true, false, None, Some, Ok, length, get_or, Contains, slice_get, slice_set}
use Rattle.std.specs.List.{AllByRecursion}
use Rattle.sour_syntax.specs.declared.instruction.Instr.{Instr}
use Rattle.sour_syntax.specs.declared.instruction.Instr.TheVariants.{Branch, Goto, Call, Return, Assume}
use Rattle.sour_syntax.specs.declared.instruction.Line.{Line}
use Rattle.sour_syntax.specs.declared.jump.Jump.{Jump}
use Rattle.sour_syntax.specs.declared.literal.Literal.{Literal}
use Rattle.sour_syntax.specs.declared.literal.VarId.{VarId}
use Rattle.sour_syntax.specs.Labels.{label_at}
use Rattle.sour_syntax.specs.Program.{ProgramView}
use Rattle.sour_syntax.specs.Scopes.{IsInScope, needed, mentioned, scope_after}
use Rattle.sour_semantics.specs.State.{Environment, Heap}
use Rattle.sour_semantics.specs.Evaluation.{holds_each}
use Rattle.sour_semantics.specs.Shape.{IsCallOrReturn}
use Rattle.sour_semantics.specs.Step.{text_choice, act}
use Rattle.sour_semantics.specs.Validity.{scope_of}
use Rattle.sour_machine.specs.declared.activation.Waiting.{Waiting}
use Rattle.sour_machine.specs.declared.moment.Moment.{Moment}
use Rattle.sour_machine.specs.declared.report.End.{End}
use Rattle.sour_machine.specs.declared.report.End.TheVariants.{Returned, Stopped, Trapped, Cut, Memory}
use Rattle.sour_machine.specs.Frame.{frame_lines, frame_at, StandsAtLine, StandsWaiting}
use Rattle.sour_machine.specs.Moment.{state_at}

-- each variable that an instruction needs has a value, and each that it mentions has its place
pub record IsReady (instr : Instr) (environment : Environment) : Type 0 where
  pub needs : AllByRecursion (IsInScope (scope_of environment)) (needed instr)
  pub mentions : AllByRecursion (λ x. x.0 < length environment) (mentioned instr)

-- an instruction of this program does to the moment what its meaning does to the state of a run on this input
abbrev pub ActsAs : ProgramView → List Literal → Instr → Moment → Moment → Type 0
ActsAs program input instr old new =
    state_at program input new ≡ act program text_choice (frame_at program old.frame None) instr (label_at (frame_lines program old.frame) (old.frame.place + 1)) (state_at program input old)

-- the run goes on in the same frame at one of these places, with the scope that the instruction leaves of this environment
pub record GoesFurther (instr : Instr) (places : List ℕ) (environment : Environment) (new : Moment) : Type 0 where
  pub place : Contains places new.frame.place
  pub scope : scope_of new.frame.env ≡ scope_after instr (scope_of environment)
  pub row : length new.frame.env ≡ length environment

-- how far an instruction has brought a run that had this environment and may go on at these places, by what ends the run then
abbrev pub ComesTo : Instr → List ℕ → Environment → Moment → End → Type 0
ComesTo instr places environment new Cut = GoesFurther instr places environment new
ComesTo instr places environment new (Returned value) = Unit {0}
ComesTo instr places environment new Stopped = Unit {0}
ComesTo instr places environment new (Trapped trap) = Unit {0}
ComesTo instr places environment new Memory = ⊥

-- the same where the instruction declares a variable
pub record DeclaresFurther (x : VarId) (places : List ℕ) (environment : Environment) (new : Moment) : Type 0 where
  pub place : Contains places new.frame.place
  pub scope : scope_of new.frame.env ≡ slice_set (scope_of environment) x.0 true
  pub row : length new.frame.env ≡ length environment

abbrev pub ComesDeclaring : VarId → List ℕ → Environment → Moment → End → Type 0
ComesDeclaring x places environment new Cut = DeclaresFurther x places environment new
ComesDeclaring x places environment new (Returned value) = Unit {0}
ComesDeclaring x places environment new Stopped = Unit {0}
ComesDeclaring x places environment new (Trapped trap) = Unit {0}
ComesDeclaring x places environment new Memory = ⊥

-- no frame was entered: the frames below are the same, and so is the code of the top one
pub record StaysInFrame (old new : Moment) : Type 0 where
  pub calls : new.calls ≡ old.calls
  pub code : new.frame.code ≡ old.frame.code
  pub below : new.below ≡ old.below

-- a frame was entered: the old one waits at its next line for a result in this variable, and the new one stands at its first line
pub record Enters (program : ProgramView) (x : VarId) (old new : Moment) : Type 0 where
  pub below : new.below ≡ old.below ++ record { frame = record old.frame { place = old.frame.place + 1 }; result = x } ∷ []
  pub stands : StandsAtLine program new.frame None
  pub calls : new.calls ≡ old.calls + 1

-- by what ends the run after a call
abbrev pub EntersOr : ProgramView → VarId → Moment → Moment → End → Type 0
EntersOr program x old new Cut = Enters program x old new
EntersOr program x old new (Returned value) = ⊥
EntersOr program x old new Stopped = ⊥
EntersOr program x old new (Trapped trap) = StaysInFrame old new
EntersOr program x old new Memory = ⊥

-- the result for which a frame waits has its place in the environment
abbrev pub HasPlaces : Waiting → Type 0
HasPlaces waiting = waiting.result.0 < length waiting.frame.env

-- a frame was left, if there was one below it: where each frame below stood at its line, the new top one does, and so does each that is still below
pub record Leaves (program : ProgramView) (old new : Moment) : Type 0 where
  pub top : AllByRecursion (StandsWaiting program) old.below → new.end ≡ Cut → StandsAtLine program new.frame None
  pub below : AllByRecursion (StandsWaiting program) old.below → AllByRecursion (StandsWaiting program) new.below
  pub fewer : length new.below ≤ length old.below
  pub calls : new.calls ≡ old.calls

-- a frame was left by an exit: the new top one stands at its line, and where each frame below stood at its line, each that is below now does
pub record LeavesBy (program : ProgramView) (old new : Moment) : Type 0 where
  pub top : new.end ≡ Cut → StandsAtLine program new.frame None
  pub below : AllByRecursion (StandsWaiting program) old.below → AllByRecursion (StandsWaiting program) new.below
  pub calls : new.calls ≡ old.calls

-- it is an assume whose predicates lead to its exit
abbrev pub LeadsOut : Instr → Environment → Heap → Type 0
LeadsOut (Assume es exit) environment heap = holds_each environment heap es ≡ Ok false
LeadsOut instr environment heap = ⊥

-- what an instruction that enters a frame or leaves one did to the frames
abbrev pub CrossesTo : ProgramView → Instr → Moment → Moment → Type 0
CrossesTo program (Call x callee es) old new = EntersOr program x old new new.end
CrossesTo program (Return e) old new = Leaves program old new
CrossesTo program (Assume es exit) old new = LeavesBy program old new
CrossesTo program instr old new = ⊥

-- the run goes on at a line that enters a frame or leaves one, and has turns left for it
pub record StandsCrossing (program : ProgramView) (budget : ℕ) (moment : Moment) : Type 0 where
  pub going : moment.end ≡ Cut
  pub left : moment.turns < budget
  pub line : Line
  pub found : slice_get (frame_lines program moment.frame) moment.frame.place ≡ Some line
  pub crosses : IsCallOrReturn line.instr ⊎ LeadsOut line.instr moment.frame.env moment.heap

-- the jump at a place
abbrev pub jump_at : List Jump → ℕ → Jump
jump_at jumps place = get_or jumps place (record { first = 0; second = 0 })

-- the instruction goes to a label that it names
abbrev pub jumps_away : Instr → Bool
jumps_away (Branch e a b) = true
jumps_away (Goto a) = true
jumps_away instr = false

-- the turns behind an instruction that was carried out in its frame: one more where it goes to a label
abbrev pub turns_after : Bool → ℕ → ℕ
turns_after false turns = turns
turns_after true turns = turns + 1
