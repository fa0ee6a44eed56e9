use Rattle.std.proofs.Common.{◌≡◌, ◌+◌, ◌++◌, [], ◌∷◌, List, Option, ℕ, take, sym, subst}
use Rattle.std.specs.List.{AllZip}
use Rattle.sour_syntax.specs.ExitPlaces.{KeepsOfLine}
use Rattle.sour_syntax.proofs.Everywhere.{zipped_next}
use Rattle.sour_syntax.proofs.exit_places.places_of_lines.Goals as goal

pub loop-line-preserved : goal.loop-line-preserved
loop-line-preserved c =
    let functions = c.args.functions.now in
    let index = c.loop-line.line-index in
    let places = c.in_ok-places.places in
    let more : c.push.new.self ≡ c.loop-line.rows ++ places ∷ [] = c.in_ok-push.ensures.ok in
    let kept : KeepsOfLine functions c.line-item.result places = c.in_ok-places.ensures in
    subst (λ (rows : List (List (Option ℕ))). AllZip (KeepsOfLine functions) (take (index + 1) c.args.lines.now) rows) (sym more)
    (zipped_next (KeepsOfLine functions) c.args.lines.now c.loop-line.rows index c.line-item.result places c.loop-line-test.true c.line-item.is c.loop-line.invariant kept)
