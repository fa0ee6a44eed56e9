use Rattle.std.proofs.Common.{Option, Some, ℕ, sym, ap, ◌∙◌}
use Rattle.sour_syntax.proofs.ExitPlaces.{IsExitPlace-kept}
use Rattle.sour_syntax.proofs.exit_places.exit_place_in.Goals as goal

pub returns-in-Some-Some : goal.returns-in-Some-Some
returns-in-Some-Some c = λ functions kept.
    let there = sym c.in-Some-Some.ensures ∙ ap (λ (found : Option ℕ). Some found) c.in-Some-Some.field-0-is in
    IsExitPlace-kept functions c.args.exits.now c.in_ok-versions.versions.now c.in_ok-rows.rows.now c.in_ok-row.row.now c.args.function.0 c.args.version c.args.place c.args.number c.in-Some-Some.found
    kept (sym c.in_ok-versions.ensures) (sym c.in_ok-rows.ensures) (sym c.in_ok-row.ensures) there
