use Rattle.std.proofs.Common.{◌↔◌, IsTrue, List, subst}
use Rattle.std.specs.List.{AllByRecursion}
use Rattle.sour_syntax.specs.declared.exit.Bind.{Bind}
use Rattle.sour_syntax.specs.declared.exit.Extra.{Extra}
use Rattle.sour_syntax.specs.Exits.{bound_values, extras_values}
use Rattle.sour_syntax.specs.Scopes.{variables_of_each, IsInScope}
use Rattle.sour_syntax.proofs.EachExpression.{values_then, values_else}
use Rattle.sour_syntax.proofs.scopes.exit_has_variables.Goals as goal

pub returns-then-map_has_variables : goal.returns-then-map_has_variables
returns-then-map_has_variables c =
    values_then (IsInScope c.args.scope.now) (bound_values c.args.exit.now.map) (extras_values c.args.exit.now.extras) c.map_has_variables.result c.extras_have_variables.result c.if-map_has_variables.true
    (subst (λ (binds : List Bind). IsTrue c.map_has_variables.result ↔ AllByRecursion (IsInScope c.args.scope.now) (variables_of_each (bound_values binds))) c.as_slice.ensures c.map_has_variables.ensures)
    (subst (λ (extras : List Extra). IsTrue c.extras_have_variables.result ↔ AllByRecursion (IsInScope c.args.scope.now) (variables_of_each (extras_values extras))) c.as_slice-then-map_has_variables.ensures c.extras_have_variables.ensures)

pub returns-else-map_has_variables : goal.returns-else-map_has_variables
returns-else-map_has_variables c =
    values_else (IsInScope c.args.scope.now) (bound_values c.args.exit.now.map) (extras_values c.args.exit.now.extras) c.map_has_variables.result c.if-map_has_variables.false
    (subst (λ (binds : List Bind). IsTrue c.map_has_variables.result ↔ AllByRecursion (IsInScope c.args.scope.now) (variables_of_each (bound_values binds))) c.as_slice.ensures c.map_has_variables.ensures)
