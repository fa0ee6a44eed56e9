use Rattle.std.proofs.lemmas.Iterator.{YieldsList-from_slice, YieldsList-from_zip}
use Rattle.std.proofs.lemmas.Result.{err_from_is_err_and}
use Rattle.sour_scope.specs.Landings.{function_fault}
use Rattle.sour_scope.proofs.FaultLaws.{none_after, told_at, none_at_end}
use Rattle.sour_scope.proofs.exits.exits_fit.Goals as goal

pub loop-function-preserved : goal.loop-function-preserved
loop-function-preserved c =
    let all = YieldsList-from_zip (YieldsList-from_slice c.args.functions.now (cc))
    (YieldsList-from_slice c.args.line_numbers.now (cc)) in
    none_after (function_fault c.args.functions.now) _ all c.loop-function.yielded _
    c.loop-function.yielded_by (c.in-Some.function, c.in-Some.numbers) _ c.next.new.self c.in-Some.is c.next.ensures.steps
    c.loop-function.invariant
    (rw (c.as_slice.ensures, c.as_slice-in-loop-function.ensures) at c.in_ok-versions_fit.ensures)

pub returns-in_err-versions_fit : goal.returns-in_err-versions_fit
returns-in_err-versions_fit c =
    let all = YieldsList-from_zip (YieldsList-from_slice c.args.functions.now (cc))
    (YieldsList-from_slice c.args.line_numbers.now (cc)) in
    let p = err_from_is_err_and c.from_residual.result c.from_residual.ensures.1 in
    rw (p.1, p.2)
    (told_at (function_fault c.args.functions.now) _ all c.loop-function.yielded _
    c.loop-function.yielded_by (c.in-Some.function, c.in-Some.numbers) _ c.next.new.self c.in-Some.is c.next.ensures.steps
    c.loop-function.invariant _
    (rw (c.as_slice.ensures, c.as_slice-in-loop-function.ensures) at c.in_err-versions_fit.ensures))

pub returns : goal.returns
returns c =
    let all = YieldsList-from_zip (YieldsList-from_slice c.args.functions.now (cc))
    (YieldsList-from_slice c.args.line_numbers.now (cc)) in
    none_at_end (function_fault c.args.functions.now) _ all c.loop-function.yielded _
    c.loop-function.yielded_by _ c.next.new.self c.in-None.is c.next.ensures.steps c.loop-function.invariant
