use Rattle.std.proofs.lemmas.Result.{err_from_is_err_and}
use Rattle.sour_scope.proofs.FirstStageLaws.{plan_told, inputs_told}
use Rattle.sour_scope.proofs.first_stage.lines_of_text.Goals as goal

pub returns-in_err-plan-clause-fault : goal.returns-in_err-plan-clause-fault
returns-in_err-plan-clause-fault g c =
    let p = err_from_is_err_and c.from_residual-in_err-plan.result c.from_residual-in_err-plan.ensures.1 in
    rw (p.1, p.2)
    (plan_told g.raw _ c.in_ok-functions.ensures.none (rw c.requires.1.0 at c.in_err-plan.ensures.fault))

pub returns-in_err-inputs-clause-fault : goal.returns-in_err-inputs-clause-fault
returns-in_err-inputs-clause-fault g c =
    let p = err_from_is_err_and c.from_residual-in_err-inputs.result c.from_residual-in_err-inputs.ensures.1 in
    rw (p.1, p.2)
    (inputs_told g.raw _ c.in_ok-functions.ensures.none (rw c.requires.1.0 at c.in_ok-plan.ensures.none)
    (rw (c.as_slice.ensures, c.requires.1.1.0) at c.in_err-inputs.ensures.fault))
