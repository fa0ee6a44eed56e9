use Rattle.std.proofs.Common.{◌≡◌, ◌+◌, ◌++◌, [], ◌∷◌, List, Option, ℕ, take, sym, subst}
use Rattle.std.specs.List.{AllZip}
use Rattle.sour_syntax.specs.declared.program.Version.{Version}
use Rattle.sour_syntax.specs.ExitPlaces.{KeepsOfVersion}
use Rattle.sour_syntax.specs.ExitPlaces.{KeepsOfFunction}
use Rattle.sour_syntax.proofs.Everywhere.{zipped_next}
use Rattle.sour_syntax.proofs.exit_places.exit_places_of.Goals as goal

pub loop-function-preserved : goal.loop-function-preserved
loop-function-preserved c =
    let functions = c.args.functions.now in
    let index = c.loop-function.function-index in
    let places = c.in_ok-places.places in
    let more : c.push.new.self ≡ c.loop-function.rows ++ places ∷ [] = c.in_ok-push.ensures.ok in
    let kept : KeepsOfFunction functions c.function-item.result places =
    subst (λ (versions : List Version). AllZip (KeepsOfVersion functions) versions places) c.as_slice.ensures c.in_ok-places.ensures in
    subst (λ (rows : List (List (List (List (Option ℕ))))). AllZip (KeepsOfFunction functions) (take (index + 1) c.args.functions.now) rows) (sym more)
    (zipped_next (KeepsOfFunction functions) c.args.functions.now c.loop-function.rows index c.function-item.result places c.loop-function-test.true c.function-item.is c.loop-function.invariant kept)
