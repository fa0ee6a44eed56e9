-- The scopes that a body keeps are those that are found by taking its places.
use Rattle.std.proofs.Common.{◌≡◌, ◌↔◌, ◌≤◌, ◌<◌, ℕ, List, [], Option, None, Some, IfSome, IfNone, length, get_or, unwrap_or, refl, sym, ap, ◌∙◌, subst, arith}
use Rattle.std.specs.Prelude.{slice_get}
use Rattle.std.specs.Str.{bytes_eq}
use Rattle.std.proofs.lemmas.List.{length-map}
use Rattle.std.proofs.lemmas.List.Sums.{position_or_len_is}
use Rattle.std.proofs.lemmas.Option.{slice_get_past, slice_get-get_or}
use Rattle.sour_syntax.specs.declared.instruction.Line.{Line}
use Rattle.sour_syntax.specs.declared.literal.VarId.{VarId}
use Rattle.sour_syntax.specs.declared.place_state.PlaceState.{PlaceState}
use Rattle.sour_syntax.specs.Body.{IsWellFormed}
use Rattle.sour_syntax.specs.BodyView.{BodyView}
use Rattle.sour_syntax.specs.Jumps.{NamesItsLabels}
use Rattle.sour_syntax.specs.Labels.{LabelsDiffer, IsPlaceOf, labels_of, label_at}
use Rattle.sour_syntax.specs.Scopes.{HasScopes, HasInScope, IsUnreached, MentionsItsVariables}
use Rattle.sour_syntax.specs.Taking.{place_of, place_scope}
use Rattle.sour_syntax.specs.Terminator.{EndsInTerminator}
use Rattle.sour_syntax.proofs.Everywhere.{Contains-slice_get}
use Rattle.sour_syntax.proofs.FaultyScopes.{taken_well}
use Rattle.sour_syntax.proofs.FirstPlaces.{first_place, first_place-label_at, first_place-slice_get}
use Rattle.sour_syntax.proofs.LabelPlaces.{tested}
use Rattle.sour_syntax.proofs.ScopeLists.{length-HasScope}
use Rattle.sour_syntax.proofs.TakingLaws.{taken_done, path_has}
use Rattle.sour_checked.specs.Landing.{found_places}
use Rattle.sour_scope.specs.Landings.{places_of, IsReached}

-- what is none of all is nothing
none_of : {X : Type 0} (found : Option X) → ((x : X) → found ≡ Some x → ⊥) → found ≡ None
none_of None never = refl
none_of (Some x) never = absurd (never x refl)

-- what a body tells of itself makes it well formed
pub formed : (body : BodyView) (lines : List Line) (parameters : ℕ) → lines ≡ body.lines → parameters ≡ body.parameters
    → parameters ≤ length body.variables → LabelsDiffer lines → EndsInTerminator lines → NamesItsLabels lines
    → MentionsItsVariables body → IsWellFormed body
formed body lines parameters is counted few differ ends jumps mentions = record {
  parameters = subst (λ n. n ≤ length body.variables) counted few;
  labels = subst LabelsDiffer is differ;
  end = subst EndsInTerminator is ends;
  jumps = subst NamesItsLabels is jumps;
  mentions = mentions;
}

module _ (body : BodyView) (form : IsWellFormed body) (scopes : HasScopes body) (place : ℕ) where
  -- what is found is what there is in the end
  found : places_of body ≡ (taken_well body form scopes).0
  found = ap found_places (taken_well body form scopes).1

  -- the place has a scope where a path leads to it
  reached : (variables : List VarId) → place < length body.lines → HasInScope body place variables
      → IsReached body (place_scope (slice_get (places_of body) place)) variables
  reached variables within there =
      let well = taken_well body form scopes in
      let done = taken_done body form well.0 well.1 in
      let first = first_place-label_at body.lines place form.labels within in
      record {
        scope = there.scope;
        is = ap (λ (places : List PlaceState). place_scope (slice_get places place)) found
            ∙ ap (λ n. place_scope (slice_get well.0 n)) (sym first)
            ∙ path_has body form well.0 done there.count (label_at body.lines place) there.scope there.path;
        long = length-HasScope body form.parameters there.count (label_at body.lines place) there.scope there.path;
        are = there.are;
      }

  -- and only there
  unreached : IsUnreached body place → place_scope (slice_get (places_of body) place) ≡ None
  unreached none =
      let well = taken_well body form scopes in
      none_of _ (λ scope at.
      let path = well.2.paths place scope
      (ap (λ (places : List PlaceState). place_scope (slice_get places place)) (sym found) ∙ at) in
      none path.count scope path.path)

  -- the same of what is kept
  pub if_reached : {X : Type 0} (listed : X → List VarId) (kept : Option X) → place < length body.lines
      → IfSome kept (λ x. HasInScope body place (listed x))
      → IfSome kept (λ x. IsReached body (place_scope (slice_get (places_of body) place)) (listed x))
  if_reached listed None within there = tt
  if_reached listed (Some x) within there = reached (listed x) within there

  pub if_unreached : {X : Type 0} (kept : Option X) → IfNone kept (IsUnreached body place)
      → IfNone kept (place_scope (slice_get (places_of body) place) ≡ None)
  if_unreached None none = unreached none
  if_unreached (Some x) none = tt

  -- behind the lines there is no scope
  pub past_lines : length body.lines ≤ place → place_scope (slice_get (places_of body) place) ≡ None
  past_lines beyond =
      let well = taken_well body form scopes in
      let long : length (places_of body) ≡ length body.lines = ap length found ∙ well.2.long in
      ap place_scope (slice_get_past (places_of body) place (omega arith))

-- a label that is none of these has no place among them
not_among : (labels : List (List ℕ)) (label : List ℕ) → ((place : ℕ) → slice_get labels place ≡ Some label → ⊥)
    → first_place labels label ≡ length labels
not_among labels label none =
    position_or_len_is (bytes_eq label) labels (length labels) [] (omega arith)
    (λ place below. tested label (get_or labels place []) (bytes_eq label (get_or labels place [])) refl
    (λ same. none place (slice_get-get_or labels place [] below ∙ ap Some (sym same))))
    (λ beyond. absurd (omega arith))

-- the place that is found for a label is its first, or behind the lines
pub place_found : (body : BodyView) (label : List ℕ) (found : Option ℕ)
    → ((place : ℕ) → IsPlaceOf body.lines label place ↔ (found ≡ Some place))
    → unwrap_or found (length body.lines) ≡ place_of body label
place_found body label None only =
    sym (not_among (labels_of body.lines) label (λ place at. let there = (only place).0 at in cc)
    ∙ length-map body.lines (λ (line : Line). line.label))
place_found body label (Some place) only =
    let at = (only place).1 refl in
    let first = first_place-slice_get (labels_of body.lines) label (Contains-slice_get (labels_of body.lines) place label at) in
    let same = (only (place_of body label)).0 first in cc
