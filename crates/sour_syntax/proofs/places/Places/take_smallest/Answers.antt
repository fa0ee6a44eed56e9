use Rattle.std.proofs.Common.{◌≡◌, ◌<◌, IfNone, None, List, Option, ℕ, length, slice_set, sym, ap, ◌∙◌, subst, arith}
use Rattle.std.proofs.lemmas.Bool.{false≢true}
use Rattle.std.proofs.lemmas.List.{nil_from_length}
use Rattle.std.proofs.lemmas.Option.{slice_get_within, get_or_from_slice_get}
use Rattle.sour_syntax.specs.Spread.{waiting_places}
use Rattle.sour_syntax.specs.Taking.{PlaceState, Reached, Taken, smallest}
use Rattle.sour_syntax.proofs.PlaceLists.{waiting_first, waiting_none}
use Rattle.sour_syntax.proofs.places.Places.take_smallest.Goals as goal

pub returns-in_err-place-clause-none : goal.returns-in_err-place-clause-none
returns-in_err-place-clause-none c =
    let keys = c.self.inside.waiting.keys in
    let few : (0 < length keys) → ⊥ = λ some. let found = c.in_err-place.ensures.variant.1 some in absurd
    (false≢true found) in
    let empty = nil_from_length keys (omega arith) in
    let none : smallest 0 c.args.self.now ≡ None =
    ap (smallest 0) (sym c.self.view_is) ∙ waiting_none 0 c.self.inside.states.items (sym c.self.invariant ∙ empty) in
    subst (λ (found : Option ℕ). IfNone found (smallest 0 c.args.self.now ≡ None)) (sym c.from_residual.ensures) none

pub index_mut-requires : goal.index_mut-requires
index_mut-requires c =
    let states = c.self.inside.states.items in
    let first = waiting_first states c.in_ok-place.place c.pop_first.new.self.keys
    (sym c.self.invariant ∙ c.in_ok-place.ensures.removal) in
    let within = slice_get_within states c.in_ok-place.place (Reached first.scope) first.waits in omega arith

pub invariant_of-self-2 : goal.invariant_of-self-2
invariant_of-self-2 c =
    let states = c.self.inside.states.items in
    let place = c.in_ok-place.place in
    let first = waiting_first states place c.pop_first.new.self.keys
    (sym c.self.invariant ∙ c.in_ok-place.ensures.removal) in
    let was = c.index_mut.ensures.value ∙ get_or_from_slice_get states place
    (Reached first.scope) c.index_mut.result.now first.waits in
    sym (ap (λ (state : PlaceState). waiting_places 0 (slice_set states place state)) (c.take.ensures first.scope was)
    ∙ first.rest)

pub returns-clause-some : goal.returns-clause-some
returns-clause-some c =
    let states = c.self.inside.states.items in
    let place = c.in_ok-place.place in
    let first = waiting_first states place c.pop_first.new.self.keys
    (sym c.self.invariant ∙ c.in_ok-place.ensures.removal) in
    let was = c.index_mut.ensures.value ∙ get_or_from_slice_get states place
    (Reached first.scope) c.index_mut.result.now first.waits in
    let marked = ap (slice_set states place) (c.take.ensures first.scope was) in (
      first.scope,
      ap (smallest 0) (sym c.self.view_is) ∙ first.least,
      marked ∙ ap (λ (places : List PlaceState). slice_set places place (Taken first.scope)) c.self.view_is,
    )
