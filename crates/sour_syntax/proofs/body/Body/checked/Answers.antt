use Rattle.std.proofs.Common.{◌≡◌, List, Ok, Some, length, map, sym, ap, ◌∙◌, subst}
use Rattle.sour_syntax.specs.declared.instruction.Line.{Line}
use Rattle.sour_syntax.specs.BodyView.{BodyView}
use Rattle.sour_syntax.specs.Jumps.{GoTo}
use Rattle.sour_syntax.specs.Spread.{TellOf, variables_in}
use Rattle.sour_syntax.specs.Taking.{PlaceState, place_scope, taken}
use Rattle.sour_syntax.proofs.TakenScopes.{HasScopes-taken, TellOf-taken}
use Rattle.sour_syntax.proofs.body.Body.checked.Goals as goal

pub lists_of-requires : goal.lists_of-requires
lists_of-requires c =
    let body : BodyView = record {
      function = c.args.function;
      parameters = c.args.parameters;
      variables =
          c.args.variables;
      lines = c.args.lines;
    } in
    let is : taken body ≡ Ok c.in-Ok.places = c.in_ok-places.ensures ∙ c.in-Ok.is in
    subst (TellOf (length c.args.variables)) (sym c.as_slice-2.ensures)
    (TellOf-taken body c.requires.form c.in-Ok.places is)

pub invariant_of-result : goal.invariant_of-result
invariant_of-result c =
    let body : BodyView = record {
      function = c.args.function;
      parameters = c.args.parameters;
      variables =
          c.args.variables;
      lines = c.args.lines;
    } in
    let form = c.requires.form in
    let places = c.in-Ok.places in
    let is : taken body ≡ Ok places = c.in_ok-places.ensures ∙ c.in-Ok.is in (
      record {
        parameters = form.parameters;
        labels = form.labels;
        end = form.end;
        jumps = form.jumps;
        mentions = form.mentions;
        scopes = HasScopes-taken body form places is;
      },
      record {
        labels = c.requires.labels;
        goes = subst (λ (lines : List Line). GoTo lines lines c.in_ok-jumps.jumps) c.lines.ensures
            c.in_ok-jumps.ensures;
        scopes = record {
          places = places;
          taken = is;
          are = c.in_ok-scopes.ensures ∙ ap (map (λ (place : PlaceState). variables_in (place_scope (Some place))))
              c.as_slice-2.ensures;
        };
      },
    )
