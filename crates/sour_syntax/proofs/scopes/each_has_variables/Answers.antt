use Rattle.std.proofs.Common.{refl, subst, take_all, arith}
use Rattle.std.specs.List.{AllByRecursion}
use Rattle.sour_syntax.specs.Scopes.{IsInScope}
use Rattle.sour_syntax.proofs.EachExpression.{OfExpression, each_joined, each_at}
use Rattle.sour_syntax.proofs.scopes.each_has_variables.Goals as goal

pub returns-then-not-has_variables : goal.returns-then-not-has_variables
returns-then-not-has_variables c = (
  (λ no. cc),
  λ all. c.if-not-has_variables.ensures.1 (each_at (IsInScope c.args.scope.now) c.args.es.now c.loop-e.e-index _ c.loop-e-test.true all),
)

pub returns : goal.returns
returns c = (
  (λ yes. each_joined (IsInScope c.args.scope.now) c.args.es.now (subst (AllByRecursion (OfExpression (IsInScope c.args.scope.now))) (take_all _ _ (omega arith)) c.loop-e.invariant)),
  λ all. refl,
)
