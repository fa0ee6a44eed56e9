use Rattle.std.proofs.Common.{refl, subst, take_all, arith}
use Rattle.std.specs.List.{AllByRecursion}
use Rattle.sour_syntax.specs.Scopes.{IsInScope}
use Rattle.sour_syntax.proofs.EachExpression.{OfBind, binds_joined, bind_at}
use Rattle.sour_syntax.proofs.scopes.map_has_variables.Goals as goal

pub returns-then-not-has_variables : goal.returns-then-not-has_variables
returns-then-not-has_variables c = (
  (λ no. cc),
  λ all. c.if-not-has_variables.ensures.1 (bind_at (IsInScope c.args.scope.now) c.args.binds.now c.loop-bind.bind-index _ c.loop-bind-test.true all),
)

pub returns : goal.returns
returns c = (
  (λ yes. binds_joined (IsInScope c.args.scope.now) c.args.binds.now (subst (AllByRecursion (OfBind (IsInScope c.args.scope.now))) (take_all _ _ (omega arith)) c.loop-bind.invariant)),
  λ all. refl,
)
