use Rattle.sour_syntax.specs.Exits.{continuations}
use Rattle.sour_semantics.specs.Step.{landed_frames}
use Rattle.sour_machine.proofs.LeavingLaws.{AreLanded}
use Rattle.sour_machine.proofs.landing.frames_of.Given as goal

abbrev pub invariant-loop-extra : goal.invariant-loop-extra
invariant-loop-extra l = AreLanded l.program l.frame l.heap l.exit.extras (landed_frames l.program l.frame l.heap (continuations l.exit)) l.frames.items l.extra-index
