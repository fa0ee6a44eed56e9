-- Runs, step by step.
use Rattle.std.proofs.Common.{◌≡◌, ℕ, zero, suc, Option, None, Some, IsSome, refl}
use Rattle.sour_syntax.specs.Program.{ProgramView}
use Rattle.sour_semantics.specs.State.{State, Ending}
use Rattle.sour_semantics.specs.Step.{step, text_choice, unless_ended}
use Rattle.sour_semantics.specs.Run.{text_run}

-- what has ended stays, whatever the next state
pub unless_ended-stays : (ending : Option Ending) (s t : State) → IsSome ending → unless_ended ending t s ≡ s
unless_ended-stays None s t ended = cc
unless_ended-stays (Some ending) s t ended = refl

-- one step more is taken behind the others
pub text_run-suc : (program : ProgramView) (steps : ℕ) (s : State) → text_run program (suc steps) s ≡ step program text_choice (text_run program steps s)
text_run-suc program zero s = refl
text_run-suc program (suc steps) s = text_run-suc program steps (step program text_choice s)
