use Rattle.std.proofs.Common.{◌≡◌, Some, sym, ap, ◌∙◌}
use Rattle.std.proofs.lemmas.Result.{on_ok_weaker}
use Rattle.std.specs.Option.{option_copied}
use Rattle.sour_semantics.specs.State.{text}
use Rattle.sour_semantics.specs.Step.{body_at}
use Rattle.sour_machine.proofs.calls.enter.Goals as goal

pub returns-clause-enters : goal.returns-clause-enters
returns-clause-enters c =
    let program = c.args.program.now in
    let runs : body_at program (text c.in-Some.function 0) ≡ Some c.in-Some-body.body.now =
    sym (c.requires.body c.in-Some.function (c.function_in.ensures ∙ c.in-Some.is)) ∙ ap option_copied c.in-Some-body.is in
    on_ok_weaker c.push_frame.result (λ stands values begun. stands program values runs begun) c.push_frame.ensures.stands
