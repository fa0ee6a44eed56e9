-- Places that are taken one after another, and what is then taken in all.
use Rattle.std.proofs.Common.{◌≡◌, ◌+◌, ◌<◌, ◌≤◌, ℕ, zero, suc, List, [], ◌∷◌, None, Some, Result, Ok, Err, length, map, refl, sym, ap, ◌∙◌, subst, arith}
use Rattle.std.specs.Prelude.{slice_get, slice_set}
use Rattle.std.specs.List.{AllByRecursion}
use Rattle.std.proofs.lemmas.List.{length-set}
use Rattle.std.proofs.lemmas.Option.{slice_get_within}
use Rattle.sour_syntax.specs.declared.body_fault.BodyFault.{BodyFault}
use Rattle.sour_syntax.specs.declared.instruction.Line.{Line}
use Rattle.sour_syntax.specs.declared.jump.Jump.{Jump}
use Rattle.sour_syntax.specs.Body.{IsWellFormed}
use Rattle.sour_syntax.specs.BodyView.{BodyView}
use Rattle.sour_syntax.specs.Jumps.{GoesTo}
use Rattle.sour_syntax.specs.Labels.{LabelsDiffer, label_at}
use Rattle.sour_syntax.specs.Scopes.{Scope, scope_after, first_scope, following_labels, IsFine}
use Rattle.sour_syntax.specs.Spread.{following, come_places}
use Rattle.sour_syntax.specs.Taking.{PlaceState, Reached, Taken, first_places, place_scope, come, come_each, unless_fault, take_instr, take_line, take_and, take_all, taken, smallest}
use Rattle.sour_syntax.proofs.FirstPlaces.{first_place-label_at}
use Rattle.sour_syntax.proofs.Following.{following_labels_are, following_within}
use Rattle.sour_syntax.proofs.PlaceLists.{left, left_taken, first_left, line_within, set_here, smallest_waits}
use Rattle.sour_syntax.proofs.ScopeTests.{take_instr-fine}
use Rattle.sour_syntax.proofs.TakingLaws.{IsGoing, first_going, take_goes_on}

-- what follows the same
unless_fault-same : (result : Result (List PlaceState) BodyFault) (f g : List PlaceState
    → Result (List PlaceState) BodyFault)
    → ((places : List PlaceState) → f places ≡ g places) → unless_fault result f ≡ unless_fault result g
unless_fault-same (Ok places) f g same = same places
unless_fault-same (Err fault) f g same = refl

-- a scope comes to the labels of some lines as it comes to their places
come_each-places : (body : BodyView) (from : ℕ) (scope : Scope) (to : List ℕ) (places : List PlaceState)
    → LabelsDiffer body.lines → AllByRecursion (λ place. place < length body.lines) to
    → come_each body from scope (map (label_at body.lines) to) places ≡ come_places body.variables from scope to places
come_each-places body from scope [] places differ within = refl
come_each-places body from scope (place ∷ to) places differ within =
    ap (λ n. unless_fault (come body.variables from scope places n (place_scope (slice_get places n)))
    (come_each body from scope (map (label_at body.lines) to)))
    (first_place-label_at body.lines place differ within.0)
    ∙ unless_fault-same _ _ _ (λ middle. come_each-places body from scope to middle differ within.1)

-- so an instruction that may stand there is taken
pub take_instr-places : (body : BodyView) (place : ℕ) (line : Line) (scope : Scope) (jump : Jump)
    (places : List PlaceState)
    → IsWellFormed body → slice_get body.lines place ≡ Some line → GoesTo body.lines line.instr jump
    → IsFine line.instr scope
    → take_instr body place line.instr scope (following_labels line.instr (label_at body.lines (place + 1))) places
    ≡ come_places body.variables place (scope_after line.instr scope) (following line.instr jump (place + 1)) places
take_instr-places body place line scope jump places form at goes fine =
    take_instr-fine body place line.instr scope _ places fine
    ∙ ap (λ labels. come_each body place (scope_after line.instr scope) labels places)
    (following_labels_are body.lines line.instr jump (place + 1) goes)
    ∙ come_each-places body place (scope_after line.instr scope)
    (following line.instr jump (place + 1)) places form.labels
    (following_within body.lines place line jump form.end at goes)

module _ (body : BodyView) (form : IsWellFormed body) where
  -- places from which on as many are taken as are left give what is taken of the body in all
  pub record IsOnTheWay (places : List PlaceState) : Type 0 where
    pub going : IsGoing body form places
    pub more : ℕ
    pub few : left places ≤ more
    pub gives : take_all body more places ≡ taken body

  -- the places at first
  pub on_the_way_first : IsOnTheWay (first_places (first_scope body) body.lines)
  on_the_way_first = record {
    going = first_going body form;
    more = length body.lines;
    few = let all = first_left (first_scope body) body.lines in omega arith;
    gives = refl;
  }

  -- where none waits they are what is taken
  none_more : (more : ℕ) (places : List PlaceState) → smallest 0 places ≡ None → take_all body more places ≡ Ok places
  none_more zero places none = refl
  none_more (suc more) places none = ap (take_and body places (take_all body more)) none

  pub on_the_way_last : (places : List PlaceState) → IsOnTheWay places → smallest 0 places ≡ None
      → taken body ≡ Ok places
  on_the_way_last places way none = sym way.gives ∙ none_more way.more places none

  -- this place is the smallest, and is marked as taken
  pub record IsTaking (old marked : List PlaceState) (place : ℕ) : Type 0 where
    pub scope : Scope
    pub line : Line
    pub next : smallest 0 old ≡ Some (place, scope)
    pub waits : slice_get old place ≡ Some (Reached scope)
    pub is : marked ≡ slice_set old place (Taken scope)
    pub at : slice_get body.lines place ≡ Some line
    pub long : length marked ≡ length body.lines
    pub there : place_scope (slice_get marked place) ≡ Some scope

  pub taking : (old marked : List PlaceState) (place : ℕ) → IsOnTheWay old
      → (scope : Scope) × (smallest 0 old ≡ Some (place, scope)) × (marked ≡ slice_set old place (Taken scope))
      → IsTaking old marked place
  taking old marked place way (scope, next, is) =
      let waits = smallest_waits old place scope next in
      let within = slice_get_within old place (Reached scope) waits in
      let line = line_within body.lines place (subst (λ n. place < n) way.going.long within) in record {
        scope = scope;
        line = line.0;
        next = next;
        waits = waits;
        is = is;
        at = line.1;
        long = ap length is ∙ length-set old place (Taken scope) ∙ way.going.long;
        there = ap (λ (places : List PlaceState). place_scope (slice_get places place)) is
            ∙ ap place_scope (set_here old place (Taken scope) within);
      }

  module _ (old marked : List PlaceState) (place : ℕ) (way : IsOnTheWay old) (one : IsTaking old marked place) where
    -- its instruction is taken with this result
    abbrev pub Gives : Result (List PlaceState) BodyFault → Type 0
    Gives result = take_instr body place one.line.instr one.scope
        (following_labels one.line.instr (label_at body.lines (place + 1))) marked ≡ result

    -- so the place is
    gives_line : (result : Result (List PlaceState) BodyFault) → Gives result
        → take_line body place one.scope old (Some one.line) ≡ result
    gives_line result gives =
        ap (take_instr body place one.line.instr one.scope
        (following_labels one.line.instr (label_at body.lines (place + 1)))) (sym one.is) ∙ gives

    -- what it gives that it is taken, and then others
    gives_all : (result : Result (List PlaceState) BodyFault) → Gives result → (more : ℕ)
        → take_all body (suc more) old ≡ unless_fault result (take_all body more)
    gives_all result gives more =
        ap (take_and body old (take_all body more)) one.next
        ∙ ap (λ found. unless_fault (take_line body place one.scope old found) (take_all body more)) one.at
        ∙ ap (λ it. unless_fault it (take_all body more)) (gives_line result gives)

    -- one is left, since it is
    some_left : (more : ℕ) → left old ≤ more → (fewer : ℕ) × (more ≡ suc fewer)
    some_left zero few = let fewer = left_taken old place one.scope one.waits in absurd (omega arith)
    some_left (suc more) few = (more, refl)

    -- without a fault the places after it are on the way, and fewer are left
    pub on_the_way_next : (new : List PlaceState) → Gives (Ok new) → IsOnTheWay new × (suc (left new) ≡ left old)
    on_the_way_next new gives =
        let goes = take_goes_on body form place one.scope one.line old way.going one.waits one.at new
        (gives_line (Ok new) gives) in
        let count = some_left way.more way.few in (
          record {
            going = goes.0;
            more = count.0;
            few = let more = count.1 in let fewer = goes.1 in let few = way.few in omega arith;
            gives = sym (ap (λ more. take_all body more old) count.1 ∙ gives_all (Ok new) gives count.0) ∙ way.gives;
          },
          goes.1,
        )

    -- with a fault that is the first of the body
    pub on_the_way_fault : (fault : BodyFault) → Gives (Err fault) → taken body ≡ Err fault
    on_the_way_fault fault gives =
        let count = some_left way.more way.few in
        sym way.gives ∙ ap (λ more. take_all body more old) count.1 ∙ gives_all (Err fault) gives count.0
