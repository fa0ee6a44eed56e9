use Rattle.std.proofs.lemmas.Iterator.{YieldsList-from_slice, YieldsList-from_zip}
use Rattle.std.proofs.lemmas.Result.{err_from_is_err_and}
use Rattle.sour_scope.specs.Landings.{version_fault}
use Rattle.sour_scope.proofs.FaultLaws.{none_after, told_at, none_at_end}
use Rattle.sour_scope.proofs.exits.versions_fit.Goals as goal

pub loop-version-preserved : goal.loop-version-preserved
loop-version-preserved c =
    let all = YieldsList-from_zip (YieldsList-from_slice c.args.versions.now (cc))
    (YieldsList-from_slice c.args.line_numbers.now (cc)) in
    none_after (version_fault c.args.functions.now) _ all c.loop-version.yielded _
    c.loop-version.yielded_by (c.in-Some.version, c.in-Some.numbers) _ c.next.new.self c.in-Some.is c.next.ensures.steps
    c.loop-version.invariant (rw c.as_slice.ensures at c.in_ok-version_fits.ensures)

pub returns-in_err-version_fits : goal.returns-in_err-version_fits
returns-in_err-version_fits c =
    let all = YieldsList-from_zip (YieldsList-from_slice c.args.versions.now (cc))
    (YieldsList-from_slice c.args.line_numbers.now (cc)) in
    let p = err_from_is_err_and c.from_residual.result c.from_residual.ensures.1 in
    rw (p.1, p.2)
    (told_at (version_fault c.args.functions.now) _ all c.loop-version.yielded _
    c.loop-version.yielded_by (c.in-Some.version, c.in-Some.numbers) _ c.next.new.self c.in-Some.is c.next.ensures.steps
    c.loop-version.invariant _ (rw c.as_slice.ensures at c.in_err-version_fits.ensures))

pub returns : goal.returns
returns c =
    let all = YieldsList-from_zip (YieldsList-from_slice c.args.versions.now (cc))
    (YieldsList-from_slice c.args.line_numbers.now (cc)) in
    none_at_end (version_fault c.args.functions.now) _ all c.loop-version.yielded _
    c.loop-version.yielded_by _ c.next.new.self c.in-None.is c.next.ensures.steps c.loop-version.invariant
