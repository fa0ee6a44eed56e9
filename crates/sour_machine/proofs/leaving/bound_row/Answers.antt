use Rattle.sour_syntax.specs.Scopes.{IsInScope}
use Rattle.sour_syntax.proofs.EachExpression.{bind_at}
use Rattle.sour_semantics.specs.Validity.{scope_of}
use Rattle.sour_machine.proofs.LeavingLaws.{name_within}
use Rattle.sour_machine.proofs.leaving.bound_row.Goals as goal

pub eval-requires : goal.eval-requires
eval-requires c = bind_at (IsInScope (scope_of c.args.env.now)) c.args.binds.now c.loop-bind.bind-index _ c.loop-bind-test.true c.requires.values

pub set-requires : goal.set-requires
set-requires c = name_within c.loop-bind.row c.args.count c.args.binds.now c.loop-bind.bind-index _ c.loop-bind-test.true c.requires.names c.loop-bind.invariant.row
