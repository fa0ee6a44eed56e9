use Rattle.std.proofs.Common.{Err, ap, ◌∙◌}
use Rattle.sour_checked.specs.Numbered.{plan_job_of}
use Rattle.sour_scope.proofs.PlanLaws.{names_in_text, job_right, job_wrong}
use Rattle.sour_scope.proofs.plan.job_of.Goals as goal

pub returns-in-Ok-clause-ok : goal.returns-in-Ok-clause-ok
returns-in-Ok-clause-ok g c =
    c.in-Ok.ensures.ok
    ∙ ap (λ names. plan_job_of names c.args.raw) (names_in_text c.args.outline.now g.functions c.requires)

pub returns-in-Ok-clause-none : goal.returns-in-Ok-clause-none
returns-in-Ok-clause-none g c = job_right c.args.outline.now g.functions c.requires c.args.raw c.in-Ok.ensures.known

pub returns-in-Err-Unknown-clause-fault : goal.returns-in-Err-Unknown-clause-fault
returns-in-Err-Unknown-clause-fault g c =
    let unknown = c.in-Err-Unknown.ensures.unknown (ap Err c.in-Err-Unknown.field-0-is) in
    rw c.nameless.ensures (job_wrong c.args.outline.now g.functions c.requires c.args.raw unknown)
