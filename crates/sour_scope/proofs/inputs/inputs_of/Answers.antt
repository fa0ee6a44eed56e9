use Rattle.std.proofs.Common.{arith}
use Rattle.std.proofs.lemmas.Grind.{common_steps}
use Rattle.std.proofs.lemmas.Result.{err_from_is_err_and}
use Rattle.laws_scope.specs.TextOrder.{input_broken}
use Rattle.sour_scope.proofs.PlanLaws.{told_there, none_more}
use Rattle.sour_scope.proofs.inputs.inputs_of.Goals as goal

pub returns-in_err-input_of-clause-fault : goal.returns-in_err-input_of-clause-fault
returns-in_err-input_of-clause-fault g c =
    let p = err_from_is_err_and c.from_residual.result c.from_residual.ensures.1 in
    rw (p.1, p.2)
    (told_there (input_broken g.functions) c.args.raw.now c.loop-input.input-index c.input-item.result
    c.loop-input-test.true c.input-item.is c.loop-input.invariant.right _ c.in_err-input_of.ensures.fault)

pub loop-input-preserved : goal.loop-input-preserved
loop-input-preserved g c = record {
  made = grind (arith, common_steps, c.in_ok-push.ensures.ok, c.in_ok-input_of.ensures.ok);
  right =
      none_more (input_broken g.functions) c.args.raw.now c.loop-input.input-index c.input-item.result
      c.loop-input-test.true c.input-item.is c.loop-input.invariant.right c.in_ok-input_of.ensures.none;
}
