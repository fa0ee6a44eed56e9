use Rattle.std.proofs.Common.{◌≡◌, [], Option, Some, refl, length, ap, ◌∙◌}
use Rattle.sour_syntax.specs.declared.program.Function.{Function}
use Rattle.sour_syntax.specs.Targets.{version_body, text_body, named_body}
use Rattle.sour_tests.specs.MainExits.{main_target}
use Rattle.sour_tests.proofs.ExitLaws.{HasStart-body}
use Rattle.sour_tests.proofs.exits.has_start.Goals as goal

pub returns : goal.returns
returns c =
    let functions = c.args.program.now.functions in
    let body = c.in-Some-get.version.now.body in
    let place = c.in-Some-place._place in
    let found : Some body ≡ named_body functions [] main_target.code = ap version_body c.in-Some-get.ensures ∙ ap (λ (function : Option Function). text_body function 0) c.in-Some.ensures in
    HasStart-body functions body c.args.start.now place c.len.result found c.requires ((c.in-Some-place.ensures place).1 refl) (c.len.ensures.value ∙ ap length c.variables.ensures)
