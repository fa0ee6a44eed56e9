use Rattle.sour_syntax.proofs.EachExpression.{each_at}
use Rattle.sour_syntax.specs.Scopes.{IsInScope}
use Rattle.sour_semantics.specs.Validity.{scope_of}
use Rattle.sour_machine.proofs.predicates.holds_each.Goals as goal

pub eval-requires : goal.eval-requires
eval-requires c = each_at (IsInScope (scope_of c.args.env.now)) c.args.es.now c.loop-e.e-index _ c.loop-e-test.true c.requires
