use Rattle.std.proofs.lemmas.Result.{err_from_is_err_and}
use Rattle.sour_syntax.specs.declared.exit.Extra.{Extra}
use Rattle.sour_syntax.specs.Exits.{extra_continuation}
use Rattle.sour_scope.specs.Landings.{continuation_fault}
use Rattle.sour_scope.proofs.FaultLaws.{none_more, first_here}
use Rattle.sour_scope.proofs.exits.extras_fit.Goals as goal

pub returns-in_err-continuation_fits : goal.returns-in_err-continuation_fits
returns-in_err-continuation_fits c =
    let p = err_from_is_err_and c.from_residual.result c.from_residual.ensures.1 in
    rw (p.1, p.2)
    (first_here (λ (extra : Extra). continuation_fault c.args.functions.now c.args.line (extra_continuation extra))
    c.args.extras.now c.loop-extra.extra-index c.extra-item.result c.loop-extra-test.true c.extra-item.is
    c.loop-extra.invariant _ (rw c.as_slice.ensures at c.in_err-continuation_fits.ensures))

pub loop-extra-preserved : goal.loop-extra-preserved
loop-extra-preserved c =
    none_more (λ (extra : Extra). continuation_fault c.args.functions.now c.args.line (extra_continuation extra))
    c.args.extras.now c.loop-extra.extra-index c.extra-item.result c.loop-extra-test.true c.extra-item.is
    c.loop-extra.invariant (rw c.as_slice.ensures at c.in_ok-continuation_fits.ensures)
