use Rattle.std.proofs.Common.{◌∙◌}
use Rattle.std.proofs.lemmas.Result.{err_from_is_err_and}
use Rattle.sour_scope.proofs.JobLaws.{ready, scopes_told, exits_told, accepted_as, is_program, plan_known, inputs_known}
use Rattle.sour_scope.proofs.job.check.Goals as goal

pub bodies_of-requires : goal.bodies_of-requires
bodies_of-requires c =
    ready c.args.raw c.requires.written c.in_ok-functions.field-0 c.in_ok-functions.ensures.numbered
    c.in_ok-functions.ensures.right

pub returns-in_err-functions-2-clause-fault : goal.returns-in_err-functions-2-clause-fault
returns-in_err-functions-2-clause-fault c =
    let p = err_from_is_err_and c.from_residual-in_err-functions-2.result c.from_residual-in_err-functions-2.ensures.1 in
    rw (p.1, p.2)
    (scopes_told c.args.raw c.requires.written c.in_ok-functions.field-0 c.in_ok-functions.ensures.numbered
    c.in_ok-functions.ensures.right _ c.in_err-functions-2.ensures.found)

pub returns-in_err-exits_fit-clause-fault : goal.returns-in_err-exits_fit-clause-fault
returns-in_err-exits_fit-clause-fault c =
    let made = c.in_ok-functions-2 in
    let p = err_from_is_err_and c.from_residual-in_err-exits_fit.result c.from_residual-in_err-exits_fit.ensures.1 in
    rw (p.1, p.2)
    (exits_told c.args.raw c.requires.written c.in_ok-functions.field-0 c.in_ok-functions.ensures.numbered
    c.in_ok-functions.ensures.right made.ensures.found made.field-0.functions made.field-0.line_numbers
    made.ensures.functions made.ensures.lines _
    (rw (c.as_slice.ensures, c.as_slice-2.ensures) at c.in_err-exits_fit.ensures))

pub of_functions-requires : goal.of_functions-requires
of_functions-requires c =
    let made = c.in_ok-functions-2 in
    is_program c.args.raw c.requires.written c.in_ok-functions.field-0 c.in_ok-functions.ensures.numbered
    c.in_ok-functions.ensures.right made.ensures.found made.field-0.functions made.field-0.line_numbers
    made.ensures.functions made.ensures.lines
    (rw (c.as_slice.ensures, c.as_slice-2.ensures) at c.in_ok-exits_fit.ensures) c.requires.short

pub returns-clause-found : goal.returns-clause-found
returns-clause-found c =
    let made = c.in_ok-functions-2 in
    accepted_as c.args.raw c.requires.written c.in_ok-functions.field-0 c.in_ok-functions.ensures.numbered
    c.in_ok-functions.ensures.right made.ensures.found made.field-0.functions made.field-0.line_numbers
    made.ensures.functions made.ensures.lines
    (rw (c.as_slice.ensures, c.as_slice-2.ensures) at c.in_ok-exits_fit.ensures) c.in_ok-program.program.value
    (c.in_ok-program.ensures.ok ∙ c.in_ok-linked.ensures ∙ c.of_functions.ensures)

pub returns-clause-plan : goal.returns-clause-plan
returns-clause-plan c =
    let made = c.in_ok-functions-2 in
    plan_known c.args.raw c.requires.written c.in_ok-functions.field-0 c.in_ok-functions.ensures.numbered
    c.in_ok-functions.ensures.right made.ensures.found made.field-0.functions made.field-0.line_numbers
    made.ensures.functions made.ensures.lines
    (rw (c.as_slice.ensures, c.as_slice-2.ensures) at c.in_ok-exits_fit.ensures) c.requires.short c.in_ok-program.program.value
    (c.in_ok-program.ensures.ok ∙ c.in_ok-linked.ensures ∙ c.of_functions.ensures)

pub returns-clause-inputs : goal.returns-clause-inputs
returns-clause-inputs c =
    let made = c.in_ok-functions-2 in
    inputs_known c.args.raw c.requires.written c.in_ok-functions.field-0 c.in_ok-functions.ensures.numbered
    c.in_ok-functions.ensures.right made.ensures.found made.field-0.functions made.field-0.line_numbers
    made.ensures.functions made.ensures.lines
    (rw (c.as_slice.ensures, c.as_slice-2.ensures) at c.in_ok-exits_fit.ensures) c.requires.short c.in_ok-program.program.value
    (c.in_ok-program.ensures.ok ∙ c.in_ok-linked.ensures ∙ c.of_functions.ensures)
