use Rattle.std.proofs.Common.{◌≡◌, length}
use Rattle.sour_syntax.specs.Exits.{bound_names, bound_values}
use Rattle.sour_semantics.specs.Evaluation.{eval_each}
use Rattle.sour_machine.specs.Leaving.{bound_row}
use Rattle.sour_machine.proofs.LeavingLaws.{IsBoundOnto}
use Rattle.sour_machine.proofs.leaving.bound_row.Given as goal

abbrev pub invariant-loop-bind : goal.invariant-loop-bind
invariant-loop-bind l = record {
  so_far : IsBoundOnto l.env l.heap l.binds (bound_row l.count (bound_names l.binds) (eval_each l.env l.heap (bound_values l.binds))) l.row l.bind-index;
  row : length l.row ≡ l.count;
}
