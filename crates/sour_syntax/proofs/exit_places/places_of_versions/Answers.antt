use Rattle.std.proofs.Common.{◌≡◌, ◌+◌, ◌++◌, [], ◌∷◌, List, Option, ℕ, take, sym, subst}
use Rattle.std.specs.List.{AllZip}
use Rattle.sour_syntax.specs.declared.instruction.Line.{Line}
use Rattle.sour_syntax.specs.ExitPlaces.{KeepsOfLine}
use Rattle.sour_syntax.specs.ExitPlaces.{KeepsOfVersion}
use Rattle.sour_syntax.proofs.Everywhere.{zipped_next}
use Rattle.sour_syntax.proofs.exit_places.places_of_versions.Goals as goal

pub loop-version-preserved : goal.loop-version-preserved
loop-version-preserved c =
    let functions = c.args.functions.now in
    let index = c.loop-version.version-index in
    let places = c.in_ok-places.places in
    let more : c.push.new.self ≡ c.loop-version.rows ++ places ∷ [] = c.in_ok-push.ensures.ok in
    let kept : KeepsOfVersion functions c.version-item.result places =
    subst (λ (lines : List Line). AllZip (KeepsOfLine functions) lines places) c.lines.ensures.value c.in_ok-places.ensures in
    subst (λ (rows : List (List (List (Option ℕ)))). AllZip (KeepsOfVersion functions) (take (index + 1) c.args.versions.now) rows) (sym more)
    (zipped_next (KeepsOfVersion functions) c.args.versions.now c.loop-version.rows index c.version-item.result places c.loop-version-test.true c.version-item.is c.loop-version.invariant kept)
