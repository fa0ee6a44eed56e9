-- Runs by choices.
use Rattle.std.proofs.Common.{◌≡◌, ◌≤◌, List, [], ◌∷◌, Option, None, Some, IsSome, refl, sym, ◌∙◌, subst, ap, arith}
use Rattle.sour_syntax.specs.Program.{ProgramView}
use Rattle.sour_semantics.specs.State.{State, Ending}
use Rattle.sour_semantics.specs.Step.{Choice, step}
use Rattle.sour_semantics.specs.Agreement.{run_by}
use Rattle.sour_semantics.proofs.Runs.{unless_ended-stays}
use Rattle.laws_runs.proofs.StepTurns.{Near-step}

-- a run that has ended stays as it is, whatever the choices
run_by-ended : (program : ProgramView) (choices : List Choice) (s : State) → IsSome s.ending → run_by program choices s ≡ s
run_by-ended program [] s ended = refl
run_by-ended program (choice ∷ choices) s ended =
    let same : step program choice s ≡ s = unless_ended-stays s.ending s _ ended in
    ap (run_by program choices) same ∙ run_by-ended program choices s ended

-- turns never fall along a run
pub turns-run_by : (program : ProgramView) (choices : List Choice) (s : State) → s.turns ≤ (run_by program choices s).turns
turns-run_by program [] s = omega arith
turns-run_by program (choice ∷ choices) s =
    let next : State = step program choice s in
    omega (arith, (Near-step program choice s).least, turns-run_by program choices next)

-- a run that goes on was going on before, by what its ending was
gone_on : (program : ProgramView) (choices : List Choice) (ending : Option Ending) (s : State) → s.ending ≡ ending
    → (run_by program choices s).ending ≡ None → s.ending ≡ None
gone_on program choices None s is going = is
gone_on program choices (Some ending) s is going =
    let Ended : Option Ending → Type 0 = IsSome in
    sym (ap (λ (t : State). t.ending) (run_by-ended program choices s (subst Ended (sym is) refl))) ∙ going

-- a run that goes on was going on before
pub going_before : (program : ProgramView) (choices : List Choice) (s : State) → (run_by program choices s).ending ≡ None → s.ending ≡ None
going_before program choices s going = gone_on program choices s.ending s refl going
