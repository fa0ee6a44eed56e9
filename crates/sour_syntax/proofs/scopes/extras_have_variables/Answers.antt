use Rattle.std.proofs.Common.{List, sym, refl, subst, take_all, arith}
use Rattle.std.specs.List.{AllByRecursion}
use Rattle.sour_syntax.specs.declared.exit.Bind.{Bind}
use Rattle.sour_syntax.specs.Exits.{bound_values}
use Rattle.sour_syntax.specs.Scopes.{IsInScope, variables_of_each}
use Rattle.sour_syntax.proofs.EachExpression.{OfExtra, extras_joined, extra_at}
use Rattle.sour_syntax.proofs.scopes.extras_have_variables.Goals as goal

pub returns-then-not-map_has_variables : goal.returns-then-not-map_has_variables
returns-then-not-map_has_variables c = (
  (λ no. cc),
  λ all.
      c.if-not-map_has_variables.ensures.1
      (subst (λ (binds : List Bind). AllByRecursion (IsInScope c.args.scope.now) (variables_of_each (bound_values binds))) (sym c.as_slice.ensures) (subst (OfExtra (IsInScope c.args.scope.now)) (sym c.extra-item.is) (extra_at (IsInScope c.args.scope.now) c.args.extras.now c.loop-extra.extra-index c.extra-item.result c.loop-extra-test.true all))),
)

pub returns : goal.returns
returns c = (
  (λ yes. extras_joined (IsInScope c.args.scope.now) c.args.extras.now (subst (AllByRecursion (OfExtra (IsInScope c.args.scope.now))) (take_all _ _ (omega arith)) c.loop-extra.invariant)),
  λ all. refl,
)
