use Rattle.std.proofs.lemmas.Result.{on_err_weaker}
use Rattle.sour_report.proofs.BlockLemmas.{OnErr-from, front-second, front-third}
use Rattle.sour_report.proofs.blocks.write_three.Goals as goal

pub returns-in_err-write_all-2-clause-front : goal.returns-in_err-write_all-2-clause-front
returns-in_err-write_all-2-clause-front g c =
    OnErr-from c.from_residual-in_err-write_all-2.result
    (front-second _ _ _ c.args.first.now c.args.second.now c.args.third.now
    c.in_ok-write_all.ensures.all c.in_err-write_all-2.ensures.front)

pub returns-clause-front : goal.returns-clause-front
returns-clause-front g c =
    on_err_weaker c.write_all-3.result
    (λ part. front-third _ _ _ _ c.args.first.now c.args.second.now c.args.third.now
    c.in_ok-write_all.ensures.all c.in_ok-write_all-2.ensures.all part)
    c.write_all-3.ensures.front
