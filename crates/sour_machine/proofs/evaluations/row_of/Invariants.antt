use Rattle.std.proofs.Common.{Some}
use Rattle.sour_semantics.specs.Evaluation.{eval_each}
use Rattle.sour_machine.specs.Operands.{row_of}
use Rattle.sour_machine.proofs.EachValue.{IsBehind}
use Rattle.sour_machine.proofs.evaluations.row_of.Given as goal

abbrev pub invariant-loop-e : goal.invariant-loop-e
invariant-loop-e l = IsBehind Some l.env l.heap l.es (row_of (eval_each l.env l.heap l.es)) l.row l.e-index
