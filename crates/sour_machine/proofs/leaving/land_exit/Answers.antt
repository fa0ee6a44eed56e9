use Rattle.std.proofs.Common.{List, sym, subst}
use Rattle.sour_syntax.specs.declared.exit.Bind.{Bind}
use Rattle.sour_syntax.specs.declared.exit.Extra.{Extra}
use Rattle.sour_syntax.specs.Exits.{bound_values, extras_values}
use Rattle.sour_syntax.specs.Scopes.{IsInScope}
use Rattle.sour_syntax.proofs.EachExpression.{values_split}
use Rattle.sour_semantics.specs.Validity.{scope_of}
use Rattle.sour_machine.specs.Scope.{HasValuesOfEach}
use Rattle.sour_machine.specs.Leaving.{LeavesForEach}
use Rattle.sour_machine.proofs.KeptPlaces.{LeavesFor-top, LeavesForEach-extras}
use Rattle.sour_machine.proofs.leaving.land_exit.Goals as goal

pub land-requires-clause-leaves : goal.land-requires-clause-leaves
land-requires-clause-leaves c = LeavesFor-top c.args.program.now c.args.frame.now c.requires.stands.0 c.args.exit.now c.requires.stands.1

pub land_extras-requires-clause-leaves : goal.land_extras-requires-clause-leaves
land_extras-requires-clause-leaves c =
    subst (LeavesForEach c.args.program.now c.args.frame.now) (sym c.as_slice.ensures)
    (LeavesForEach-extras c.args.program.now c.args.frame.now c.requires.stands.0 c.args.exit.now c.requires.stands.1)

pub land-requires-clause-values : goal.land-requires-clause-values
land-requires-clause-values c =
    let env = c.args.frame.now.env in
    let exit = c.args.exit.now in
    let Has : List Bind → Type 0 = λ binds. HasValuesOfEach env (bound_values binds) in
    subst Has (sym c.as_slice-binds.ensures) (values_split (IsInScope (scope_of env)) (bound_values exit.map) (extras_values exit.extras) c.requires.values).0

pub land_extras-requires-clause-values : goal.land_extras-requires-clause-values
land_extras-requires-clause-values c =
    let env = c.args.frame.now.env in
    let exit = c.args.exit.now in
    let Has : List Extra → Type 0 = λ extras. HasValuesOfEach env (extras_values extras) in
    subst Has (sym c.as_slice.ensures) (values_split (IsInScope (scope_of env)) (bound_values exit.map) (extras_values exit.extras) c.requires.values).1
