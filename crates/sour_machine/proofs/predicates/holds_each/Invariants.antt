use Rattle.std.proofs.Common.{◌≡◌, drop}
use Rattle.sour_semantics.specs.Evaluation.{holds_each}
use Rattle.sour_machine.proofs.predicates.holds_each.Given as goal

abbrev pub invariant-loop-e : goal.invariant-loop-e
invariant-loop-e l = holds_each l.env l.heap l.es ≡ holds_each l.env l.heap (drop l.e-index l.es)
