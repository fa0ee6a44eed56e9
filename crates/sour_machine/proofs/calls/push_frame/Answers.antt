use Rattle.std.proofs.Common.{◌≡◌, ◌+◌, None, Some, length, refl, sym, ap, ◌∙◌, subst}
use Rattle.std.proofs.lemmas.List.{length-map}
use Rattle.sour_semantics.specs.Step.{first_environment}
use Rattle.sour_machine.specs.declared.activation.Activation.{Activation}
use Rattle.sour_machine.specs.declared.report.End.{End}
use Rattle.sour_machine.specs.Frame.{StandsAtLine}
use Rattle.sour_machine.specs.Instruction.{Enters, EntersOr}
use Rattle.sour_machine.proofs.FrameLaws.{first_environment-row, StandsAtLine-first}
use Rattle.sour_machine.proofs.calls.push_frame.Goals as goal

pub returns-clause-stands : goal.returns-clause-stands
returns-clause-stands c = λ program values runs begun.
    let old = c.args.moment.now in
    let body = c.args.body.now in
    let new = record old { frame = c.push.new.top; below = c.push.new.self; turns = old.turns + 1; calls = old.calls + 1 } in
    let callee : Activation = record { code = c.args.code; place = 0; env = c.extend_to.new.self } in
    let top : c.push.new.top ≡ callee = c.in_ok-push.ensures.top in
    let taken : length values ≡ body.parameters = sym (length-map values Some) ∙ ap length (sym begun) ∙ c.requires.parameters in
    let env : c.extend_to.new.self ≡ first_environment body values =
    first_environment-row body c.args.row c.extend_to.new.self values c.len.result c.in_ok-extend_to.ensures.ok (c.len.ensures.value ∙ ap length c.variables.ensures) begun in
    let Stands : Activation → Type 0 = λ frame. StandsAtLine program frame None in
    let enters : Enters program c.args.x old new = record {
      below = c.in_ok-push.ensures.below;
      stands = subst Stands (sym top) (StandsAtLine-first program callee body values runs refl env taken c.requires.within);
      calls = refl;
    } in
    let At : End → Type 0 = EntersOr program c.args.x old new in
    subst At (sym c.requires.going) enters
