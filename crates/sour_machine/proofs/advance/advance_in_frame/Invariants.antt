use Rattle.std.proofs.Common.{◌≡◌, ◌≢◌, ◌≤◌, true, length}
use Rattle.sour_machine.specs.declared.report.End.TheVariants.{Memory}
use Rattle.sour_machine.specs.Moment.{run_at, Stands}
use Rattle.sour_machine.specs.Run.{GoesOn}
use Rattle.sour_machine.proofs.Measure.{before}
use Rattle.sour_machine.proofs.advance.advance_in_frame.Given as goal

abbrev pub invariant-loop-moment : goal.invariant-loop-moment
invariant-loop-moment l = record {
  goes_on : GoesOn (run_at l.program l.input true l.initial.moment) (run_at l.program l.input true l.moment);
  code : l.moment.frame.code ≡ l.initial.moment.frame.code;
  within : l.moment.turns ≤ l.budget;
  turns : l.initial.moment.turns ≤ l.moment.turns;
  has_memory : l.moment.end ≢ Memory;
  stands : Stands l.program l.input l.moment;
}

abbrev pub decreases-loop-moment : goal.decreases-loop-moment
decreases-loop-moment l = before l.budget (length l.lines) l.moment
