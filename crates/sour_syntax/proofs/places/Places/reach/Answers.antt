use Rattle.std.proofs.Common.{◌≡◌, ◌+◌, List, Some, slice_get, sym, ap, ◌∙◌, subst, arith}
use Rattle.std.specs.BTreeSet.{insert_key}
use Rattle.std.specs.Ordering.{nat_cmp}
use Rattle.sour_syntax.specs.Spread.{waiting_places}
use Rattle.sour_syntax.specs.Taking.{PlaceState, Unreached}
use Rattle.sour_syntax.proofs.PlaceLists.{waiting_reached}
use Rattle.sour_syntax.proofs.places.Places.reach.Goals as goal

pub invariant_of-self-2 : goal.invariant_of-self-2
invariant_of-self-2 c =
    let states = c.self.inside.states.items in
    let place = c.args.place in
    let none : slice_get states place ≡ Some Unreached = subst
    (λ (states : List PlaceState). slice_get states place ≡ Some Unreached) (sym c.self.view_is) c.requires in
    let here : 0 + place ≡ place = omega arith in
    c.in_ok-insert.ensures.keys ∙ ap (λ keys. insert_key nat_cmp keys place) c.self.invariant
    ∙ ap (insert_key nat_cmp (waiting_places 0 states)) (sym here)
    ∙ sym (waiting_reached 0 states place c.from_vec-scope.result none)
