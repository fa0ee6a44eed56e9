use Rattle.sour_semantics.specs.Evaluation.{eval_each}
use Rattle.sour_machine.proofs.EachValue.{IsBehind}
use Rattle.sour_machine.proofs.evaluations.values_of.Given as goal

abbrev pub invariant-loop-e : goal.invariant-loop-e
invariant-loop-e l = IsBehind (λ value. value) l.env l.heap l.es (eval_each l.env l.heap l.es) l.values.items l.e-index
