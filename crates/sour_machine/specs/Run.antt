use Rattle.std.specs.Prelude.{◌≡◌, ◌⊎◌, ◌+◌, ℕ, zero, suc, List, ◌∷◌, Bool, true, false, None, ◌&&◌, [], is_none, IsSome, IsTrue, if◌then◌else◌}
use Rattle.sour_syntax.specs.declared.instruction.Instr.{Instr}
use Rattle.sour_syntax.specs.declared.instruction.Instr.TheVariants.{Call}
use Rattle.sour_syntax.specs.declared.instruction.Line.{Line}
use Rattle.sour_syntax.specs.declared.literal.Literal.{Literal}
use Rattle.sour_syntax.specs.Labels.{from_label}
use Rattle.sour_syntax.specs.Program.{ProgramView}
use Rattle.sour_semantics.specs.State.{Frame, State}
use Rattle.sour_semantics.specs.Step.{text_choice, step, lines_of}
use Rattle.sour_semantics.specs.Run.{text_run, TakesTurn, IsAtBudget}
use Rattle.sour_machine.specs.declared.run.Advance.{Advance}
use Rattle.sour_machine.specs.declared.run.Advance.TheVariants.{Ended, MoreTurns, Memory}

-- what contracts see of a run
pub record RunView : Type 0 where
  pub program : ProgramView
  pub input : List Literal
  -- of a run that hasn't entered main yet, the start
  pub state : State
  pub entered : Bool
  -- it has answered that memory was wanting
  pub wanting : Bool
  -- how many frames were entered
  pub calls : ℕ

-- the instruction calls a function
abbrev pub is_call : Instr → Bool
is_call (Call x callee es) = true
is_call instr = false

-- the first of the lines that are left calls a function
abbrev pub first_calls : List Line → Bool
first_calls [] = false
first_calls (line ∷ lines) = is_call line.instr

-- the top frame stands at a call
abbrev pub top_calls : ProgramView → List Frame → Bool
top_calls program [] = false
top_calls program (frame ∷ frames) = first_calls (from_label frame.label (lines_of program frame.code))

-- a step enters a frame where it is a call and the run goes on behind it
abbrev pub entered_by : ProgramView → State → State → ℕ
entered_by program s next = if is_none s.ending && is_none next.ending && top_calls program s.frames then 1 else 0

-- how many frames a run of the text enters in so many steps from a state
abbrev pub count_calls : ProgramView → ℕ → State → ℕ
count_calls program zero s = 0
count_calls program (suc count) s =
    entered_by program s (step program text_choice s) + count_calls program count (step program text_choice s)

-- whether main was entered, by whether it had been before and has been since
abbrev pub main_entered : Bool → Bool → ℕ
main_entered false false = 0
main_entered false true = 1
main_entered true entered = 0

-- the run went on from the one to the other, by steps that enter text versions alone
pub record GoesOn (old new : RunView) : Type 0 where
  pub program : new.program ≡ old.program
  pub input : new.input ≡ old.input
  pub steps : ℕ
  pub reached : text_run old.program steps old.state ≡ new.state
  pub calls : new.calls ≡ old.calls + main_entered old.entered new.entered + count_calls old.program steps old.state
  pub entered : IsTrue old.entered → IsTrue new.entered
  -- no step is taken before main is entered
  pub before_main : new.entered ≡ false → new.state ≡ old.state

-- the run has entered main and stands where a run with this budget rests
pub record IsAtTurns (budget : ℕ) (run : RunView) : Type 0 where
  pub entered : IsTrue run.entered
  pub has_memory : run.wanting ≡ false
  pub rests : IsAtBudget run.program budget run.state

-- what an answer says of a run that was to go on up to this budget
abbrev pub Tells : Advance → ℕ → RunView → Type 0
Tells Ended budget run = IsAtTurns budget run × IsSome run.state.ending
Tells MoreTurns budget run = IsAtTurns budget run × (run.state.ending ≡ None)
Tells Memory budget run = IsTrue run.wanting

-- it has answered that memory was wanting, or it has entered main and has ended or would take a turn
abbrev pub IsAtRest : RunView → Type 0
IsAtRest run =
    IsTrue run.wanting ⊎ (IsTrue run.entered × (IsSome run.state.ending ⊎ TakesTurn run.program run.state))
