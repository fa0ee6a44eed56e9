use Rattle.std.proofs.Common.{None, map}
use Rattle.std.specs.List.{AllByRecursion}
use Rattle.sour_syntax.specs.Exits.{extra_continuation}
use Rattle.sour_semantics.specs.Step.{landed_frames}
use Rattle.sour_machine.specs.Frame.{frame_at, waiting_at, StandsWaiting}
use Rattle.sour_machine.proofs.LeavingLaws.{AreLanded}
use Rattle.sour_machine.proofs.leaving.land_extras.Given as goal

abbrev pub invariant-loop-number : goal.invariant-loop-number
invariant-loop-number l = record {
  so_far : AreLanded l.program (frame_at l.program l.frame None) l.heap l.extras (landed_frames l.program (frame_at l.program l.frame None) l.heap (map extra_continuation l.extras)) (map (waiting_at l.program) l.made.items) l.number;
  stand : AllByRecursion (StandsWaiting l.program) l.made.items;
}
