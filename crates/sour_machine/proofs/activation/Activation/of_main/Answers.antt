use Rattle.std.proofs.Common.{◌≡◌, ◌++◌, Some, None, ◌-◌, length, replicate, refl, ap, ◌∙◌}
use Rattle.sour_semantics.specs.State.{Environment, text}
use Rattle.sour_semantics.specs.Step.{body_at}
use Rattle.sour_machine.specs.declared.activation.Activation.{Activation}
use Rattle.sour_machine.specs.declared.frame.FrameCode.TheVariants.{Text}
use Rattle.sour_machine.proofs.FrameLaws.{StandsAtLine-main}
use Rattle.sour_machine.proofs.activation.Activation.of_main.Goals as goal

pub returns-clause-stands : goal.returns-clause-stands
returns-clause-stands c =
    let program = c.args.program.now in
    let frame : Activation = record { code = Text c.main.result 0; place = 0; env = c.extend_to.new.self } in
    let body : Some c.in-Some.body.now ≡ body_at program (text c.main.result 0) = c.in-Some.ensures in
    StandsAtLine-main program c.main.ensures.checked.main frame c.in-Some.body.now c.len.result (ap (λ main. text main 0) c.main.ensures.value) refl body
    (c.len.ensures.value ∙ ap length c.variables.ensures)
    (c.in_ok-extend_to.ensures.ok ∙ ap (λ (row : Environment). row ++ replicate (c.len.result - length row) None) c.new-env.ensures)
