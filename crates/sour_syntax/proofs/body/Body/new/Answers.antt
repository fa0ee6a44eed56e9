use Rattle.sour_syntax.specs.BodyView.{BodyView}
use Rattle.sour_syntax.proofs.TakenScopes.{IsWellFormed-IsBody, IsOk-HasScopes}
use Rattle.sour_syntax.proofs.body.Body.new.Goals as goal

pub unwrap-requires : goal.unwrap-requires
unwrap-requires c =
    let body : BodyView = record {
      function = c.args.function;
      parameters = c.args.parameters;
      variables =
          c.args.variables;
      lines = c.args.lines;
    } in
    IsOk-HasScopes body (IsWellFormed-IsBody body c.requires) c.requires.scopes c.in_ok-checked.checked
    c.in_ok-checked.ensures.fault
