use Rattle.sour_scope.proofs.OutlineLaws.{extra_is}
use Rattle.sour_scope.proofs.exit_numbers.extra_of.Goals as goal

pub returns-clause-ok : goal.returns-clause-ok
returns-clause-ok c =
    extra_is c.args.outline.now c.args.names.now c.in_ok-function.function c.in_ok-function.number c.in_ok-function.version.now c.args.raw
    c.in_ok-result.result c.in_ok-map.map c.in_ok-function.ensures.function c.in_ok-function.ensures.version c.in_ok-function.ensures.found
    c.in_ok-result.ensures.ok (rw c.as_slice.ensures at c.in_ok-map.ensures.ok)
