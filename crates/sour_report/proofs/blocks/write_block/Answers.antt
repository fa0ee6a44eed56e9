use Rattle.std.proofs.lemmas.Result.{on_err_weaker}
use Rattle.sour_report.specs.Report.{end_line}
use Rattle.sour_report.proofs.BlockLemmas.{OnErr-from, front-head, front-output, front-end}
use Rattle.sour_report.proofs.blocks.write_block.Goals as goal

pub returns-in_err-write_head-clause-front : goal.returns-in_err-write_head-clause-front
returns-in_err-write_head-clause-front g c =
    let report = c.args.report.now in
    OnErr-from c.from_residual.result
    (front-head _ _ report.input report.output (end_line c.args.program.now report.cells report.end)
    c.in_err-write_head.ensures.front)

pub returns-in_err-write_all-clause-front : goal.returns-in_err-write_all-clause-front
returns-in_err-write_all-clause-front g c =
    let report = c.args.report.now in
    OnErr-from c.from_residual-in_err-write_all.result
    (front-output _ _ _ report.input report.output (end_line c.args.program.now report.cells report.end)
    c.in_ok-write_head.ensures.all (rw c.as_slice.ensures at c.in_err-write_all.ensures.front))

pub returns-clause-front : goal.returns-clause-front
returns-clause-front g c =
    let report = c.args.report.now in
    let output = rw c.as_slice.ensures at c.in_ok-write_all.ensures.all in
    on_err_weaker c.write_end.result
    (λ part. front-end _ _ _ _ report.input report.output (end_line c.args.program.now report.cells report.end)
    c.in_ok-write_head.ensures.all output part)
    c.write_end.ensures.front
