use Rattle.std.proofs.Common.{◌≡◌, ◌+◌, ◌<◌, ◌++◌, [], ◌∷◌, List, Option, ℕ, length, map, take, get_or, sym, ap, ◌∙◌, subst}
use Rattle.std.specs.List.{AllZip}
use Rattle.std.proofs.lemmas.List.{map-append}
use Rattle.std.proofs.lemmas.Slice.Zip.{all_zipped_more}
use Rattle.sour_syntax.specs.declared.exit.Extra.{Extra}
use Rattle.sour_syntax.specs.Exits.{Continuation, top_continuation, extra_continuation}
use Rattle.sour_syntax.specs.ExitPlaces.{KeepsPlace}
use Rattle.sour_syntax.proofs.Everywhere.{take_next}
use Rattle.sour_syntax.proofs.exit_places.places_of_exit.Goals as goal

pub loop-extra-preserved : goal.loop-extra-preserved
loop-extra-preserved c =
    let kept = KeepsPlace c.args.functions.now in
    let top = top_continuation c.args.exit.now in
    let extras = c.args.exit.now.extras in
    let index = c.loop-extra.extra-index in
    let item = c.extra-item.result in
    let place = c.place_of-in-loop-extra.result in
    let within : index < length extras = subst (λ (extras : List Extra). index < length extras) c.as_slice-extra-items.ensures c.loop-extra-test.true in
    let is : item ≡ get_or extras index item = subst (λ (extras : List Extra). item ≡ get_or extras index item) c.as_slice-extra-items.ensures c.extra-item.is in
    let before : List Continuation = map extra_continuation (take index extras) in
    let longer : map extra_continuation (take (index + 1) extras) ≡ before ++ extra_continuation item ∷ [] =
    ap (map extra_continuation) (take_next extras index item within is) ∙ map-append extra_continuation (take index extras) (item ∷ []) in
    let more : c.push-in-loop-extra.new.self ≡ c.loop-extra.places ++ place ∷ [] = c.in_ok-push-2.ensures.ok in
    subst (λ (places : List (Option ℕ)). AllZip kept (top ∷ map extra_continuation (take (index + 1) extras)) places) (sym more)
    (subst (λ (some : List Continuation). AllZip kept (top ∷ some) (c.loop-extra.places ++ place ∷ [])) (sym longer)
    (all_zipped_more kept (top ∷ before) c.loop-extra.places (extra_continuation item) place c.loop-extra.invariant c.place_of-in-loop-extra.ensures))
