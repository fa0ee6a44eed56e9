use Rattle.std.proofs.Common.{◌≡◌, []}
use Rattle.sour_checked.specs.Numbered.{plan_of}
use Rattle.sour_checked.specs.Texts.{function_names}
use Rattle.laws_scope.specs.TextOrder.{each_in_order, job_broken}
use Rattle.sour_scope.proofs.plan.plan_of.Given as goal

abbrev pub ghost-job_of : goal.ghost-job_of
ghost-job_of g a = g.functions

abbrev pub invariant-loop-job : goal.invariant-loop-job
invariant-loop-job g l = record {
  made : l.plan ≡ plan_of (function_names g.functions) l.yielded;
  right : each_in_order (λ place. job_broken g.functions) 0 l.yielded ≡ [];
}
