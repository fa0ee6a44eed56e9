use Rattle.std.proofs.Common.{◌≢◌, ◌≤◌, true}
use Rattle.sour_machine.specs.declared.report.End.TheVariants.{Memory}
use Rattle.sour_machine.specs.Moment.{run_at, Stands}
use Rattle.sour_machine.specs.Run.{GoesOn}
use Rattle.sour_machine.proofs.Measure.{turns_before}
use Rattle.sour_machine.proofs.advance.advance.Given as goal

abbrev pub invariant-loop-moment : goal.invariant-loop-moment
invariant-loop-moment l = record {
  goes_on : GoesOn (run_at l.program l.input true l.initial.moment) (run_at l.program l.input true l.moment);
  within : l.moment.turns ≤ l.budget;
  has_memory : l.moment.end ≢ Memory;
  stands : Stands l.program l.input l.moment;
}

abbrev pub decreases-loop-moment : goal.decreases-loop-moment
decreases-loop-moment l = turns_before l.budget l.moment
