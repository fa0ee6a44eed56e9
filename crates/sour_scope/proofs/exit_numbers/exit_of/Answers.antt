use Rattle.sour_scope.proofs.OutlineLaws.{exit_is}
use Rattle.sour_scope.proofs.exit_numbers.exit_of.Goals as goal

pub returns-clause-ok : goal.returns-clause-ok
returns-clause-ok c =
    exit_is c.args.outline.now c.args.names.now c.in_ok-function.function c.in_ok-function.number c.in_ok-function.version.now c.args.raw
    c.in_ok-map.map c.in_ok-extras.extras c.in_ok-function.ensures.function c.in_ok-function.ensures.version c.in_ok-function.ensures.found
    (rw c.as_slice.ensures at c.in_ok-map.ensures.ok) c.in_ok-extras.ensures.ok
