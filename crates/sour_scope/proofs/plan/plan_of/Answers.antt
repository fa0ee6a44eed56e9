use Rattle.std.proofs.Common.{arith}
use Rattle.std.proofs.lemmas.Grind.{common_steps}
use Rattle.std.proofs.lemmas.Iterator.Adapters.{YieldsList-from_vec}
use Rattle.std.proofs.lemmas.Result.{err_from_is_err_and}
use Rattle.laws_scope.specs.TextOrder.{job_broken}
use Rattle.laws_scope.proofs.InOrder.{in_order-more}
use Rattle.sour_scope.proofs.InOrderLaws.{told_at}
use Rattle.sour_scope.proofs.plan.plan_of.Goals as goal

pub returns-in_err-job_of-clause-fault : goal.returns-in_err-job_of-clause-fault
returns-in_err-job_of-clause-fault g c =
    let xs = c.args.raw in
    let all = YieldsList-from_vec xs (cc) (cc) in
    let loop = c.loop-job in
    let p = err_from_is_err_and c.from_residual.result c.from_residual.ensures.1 in
    rw (p.1, p.2)
    (told_at (λ place. job_broken g.functions) xs all loop.yielded _ loop.yielded_by c.in-Some.job _ c.next.new.self
    c.in-Some.is c.next.ensures.steps loop.invariant.right _ c.in_err-job_of.ensures.fault)

pub loop-job-preserved : goal.loop-job-preserved
loop-job-preserved g c = record {
  made = grind (arith, common_steps, c.in_ok-push.ensures.ok, c.in_ok-job_of.ensures.ok);
  right =
      in_order-more (λ place. job_broken g.functions) c.loop-job.yielded c.in-Some.job c.loop-job.invariant.right
      c.in_ok-job_of.ensures.none;
}
