use Rattle.std.proofs.Common.{◌≡◌, ◌∙◌}
use Rattle.sour_syntax.specs.Taking.{place_of}
use Rattle.sour_scope.proofs.KeptScopes.{place_found}
use Rattle.sour_scope.proofs.landings.scope_at_label.Goals as goal

pub returns : goal.returns
returns c =
    let same : c.unwrap_or-place.result ≡ place_of c.args.body.now c.args.label.now =
    (rw c.lines.ensures.value at c.unwrap_or-place.ensures)
    ∙ place_found c.args.body.now c.args.label.now c.place.result c.place.ensures in
    rw same at c.scope_at_place.ensures
