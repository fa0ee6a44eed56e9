use Rattle.std.proofs.lemmas.Iterator.{YieldsList-from_slice, YieldsList-from_zip}
use Rattle.std.proofs.lemmas.Iterator.Consumers.{YieldsList-from_enumerate}
use Rattle.std.proofs.lemmas.Result.{err_from_is_err_and}
use Rattle.sour_scope.specs.Landings.{places_of, line_fault}
use Rattle.sour_scope.proofs.FaultLaws.{none_after, told_at, none_at_end}
use Rattle.sour_scope.proofs.exits.version_fits.Goals as goal

pub loop-place-preserved : goal.loop-place-preserved
loop-place-preserved c =
    let all = YieldsList-from_enumerate
    (YieldsList-from_zip (YieldsList-from_slice c.args.version.now.body.lines (cc))
    (YieldsList-from_slice c.args.line_numbers.now (cc))) (cc) in
    none_after (line_fault c.args.functions.now (places_of c.args.version.now.body)) _ all c.loop-place.yielded _
    c.loop-place.yielded_by (c.in-Some.place, (c.in-Some.line, c.in-Some.number)) _ c.next.new.self c.in-Some.is c.next.ensures.steps
    c.loop-place.invariant c.in_ok-place_fits.ensures

pub returns-in_err-place_fits : goal.returns-in_err-place_fits
returns-in_err-place_fits c =
    let all = YieldsList-from_enumerate
    (YieldsList-from_zip (YieldsList-from_slice c.args.version.now.body.lines (cc))
    (YieldsList-from_slice c.args.line_numbers.now (cc))) (cc) in
    let p = err_from_is_err_and c.from_residual.result c.from_residual.ensures.1 in
    rw (p.1, p.2)
    (told_at (line_fault c.args.functions.now (places_of c.args.version.now.body)) _ all c.loop-place.yielded _
    c.loop-place.yielded_by (c.in-Some.place, (c.in-Some.line, c.in-Some.number)) _ c.next.new.self c.in-Some.is c.next.ensures.steps
    c.loop-place.invariant _ c.in_err-place_fits.ensures)

pub returns : goal.returns
returns c =
    let all = YieldsList-from_enumerate
    (YieldsList-from_zip (YieldsList-from_slice c.args.version.now.body.lines (cc))
    (YieldsList-from_slice c.args.line_numbers.now (cc))) (cc) in
    none_at_end (line_fault c.args.functions.now (places_of c.args.version.now.body)) _ all c.loop-place.yielded _
    c.loop-place.yielded_by _ c.next.new.self c.in-None.is c.next.ensures.steps c.loop-place.invariant
