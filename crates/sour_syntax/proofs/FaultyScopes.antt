-- What it says of a body that it has scopes: that its places can be taken without a fault, and which scopes they have then.
use Rattle.std.proofs.Common.{◌≡◌, ◌+◌, ◌<◌, ℕ, zero, suc, List, [], ◌∷◌, Option, None, Some, Ok, Contains, length, map, drop, refl, sym, ap, ◌∙◌, subst}
use Rattle.std.specs.Prelude.{slice_get, slice_set}
use Rattle.std.specs.List.{AllByRecursion}
use Rattle.std.proofs.lemmas.List.{length-set}
use Rattle.std.proofs.lemmas.Option.{slice_get_within}
use Rattle.sour_syntax.specs.declared.instruction.Line.{Line}
use Rattle.sour_syntax.specs.Body.{IsWellFormed}
use Rattle.sour_syntax.specs.BodyView.{BodyView}
use Rattle.sour_syntax.specs.Labels.{labels_of, label_at}
use Rattle.sour_syntax.specs.Scopes.{Scope, scope_after, following_labels, first_scope, HasScope, IsLineAt, HasScopes}
use Rattle.sour_syntax.specs.Spread.{HasPath}
use Rattle.sour_syntax.specs.Taking.{PlaceState, Unreached, Reached, Taken, first_places, place_scope, place_of, come, come_each, unless_fault, take_line, take_and, take_all, taken, smallest}
use Rattle.sour_syntax.proofs.Everywhere.{AllByRecursion-contains, AllByRecursion-each}
use Rattle.sour_syntax.proofs.FirstPlaces.{label_at-first_place, first_place-within}
use Rattle.sour_syntax.proofs.Following.{following_labels_there}
use Rattle.sour_syntax.proofs.LabelPlaces.{from_label-first_label-drop, drop-slice_get}
use Rattle.sour_syntax.proofs.PlaceLists.{set_cases, smallest_waits, line_within, first_long}
use Rattle.sour_syntax.proofs.ScopeTests.{come-same, take_instr-fine}

-- at first the first place alone has a scope
none_reached : (lines : List Line) (place : ℕ) (scope : Scope)
    → place_scope (slice_get (map (λ (other : Line). Unreached) lines) place) ≡ Some scope → ⊥
none_reached [] place scope is = absurd (cc)
none_reached (line ∷ lines) zero scope is = absurd (cc)
none_reached (line ∷ lines) (suc place) scope is = none_reached lines place scope is

first_alone : (lines : List Line) (place : ℕ) (scope said : Scope)
    → place_scope (slice_get (first_places scope lines) place) ≡ Some said → (place ≡ 0) × (said ≡ scope)
first_alone [] place scope said is = absurd (cc)
first_alone (line ∷ lines) zero scope said is = let same : scope ≡ said = cc in (refl, sym same)
first_alone (line ∷ lines) (suc place) scope said is = absurd (none_reached lines place said is)

module _ (body : BodyView) (form : IsWellFormed body) (scopes : HasScopes body) where
  -- each scope of a place is one that a path gives it
  pub record HavePaths (places : List PlaceState) : Type 0 where
    pub long : length places ≡ length body.lines
    pub paths : (place : ℕ) (scope : Scope) → place_scope (slice_get places place) ≡ Some scope
        → HasPath body place scope

  -- a path gives a label this scope
  abbrev IsGiven : Scope → List ℕ → Type 0
  IsGiven scope label = Contains (labels_of body.lines) label × ((count : ℕ) × HasScope body count label scope)

  -- so it gives it to the place of the label
  given_place : (scope : Scope) (label : List ℕ) → IsGiven scope label → HasPath body (place_of body label) scope
  given_place scope label given = record {
    count = given.1.0;
    path = subst (λ l. HasScope body given.1.0 l scope) (sym (label_at-first_place body.lines label given.0)) given.1.1;
  }

  -- a place keeps its paths when it gets a scope that one gives it
  set_paths : (places : List PlaceState) (place : ℕ) (scope : Scope) (it : PlaceState) → HavePaths places
      → place < length places → place_scope (Some it) ≡ Some scope → HasPath body place scope
      → HavePaths (slice_set places place it)
  set_paths places place scope it have within is path = record {
    long = length-set places place it ∙ have.long;
    paths = λ other said at.
        let P : ℕ → Option PlaceState → Type 0 = λ n found. place_scope found ≡ Some said → HasPath body n said in
        let here : P place (Some it) = λ had. let same : scope ≡ said = cc in subst (HasPath body place) same path in
        set_cases P places place it within here (λ n had. have.paths n said had) other at;
  }

  -- two scopes that paths give a place are the same
  one_path : (place : ℕ) (scope other : Scope) → HasPath body place scope → HasPath body place other → scope ≡ other
  one_path place scope other path another = scopes.one path.count another.count (label_at body.lines place) scope other
      path.path another.path

  -- a scope that a path gives comes without a fault
  come_well : (from place : ℕ) (scope : Scope) (old : List PlaceState) (found : Option Scope) → HavePaths old
      → place < length old → HasPath body place scope → found ≡ place_scope (slice_get old place)
      → (new : List PlaceState) × (come body.variables from scope old place found ≡ Ok new) × HavePaths new
  come_well from place scope old None have within path found =
      (slice_set old place (Reached scope), refl, set_paths old place scope (Reached scope) have within refl path)
  come_well from place scope old (Some other) have within path found = (
    old,
    come-same body.variables from place scope other old
        (one_path place other scope (have.paths place other (sym found)) path),
    have,
  )

  -- and to each label
  come_each_well : (from : ℕ) (scope : Scope) (labels : List (List ℕ)) (old : List PlaceState) → HavePaths old
      → AllByRecursion (IsGiven scope) labels
      → (new : List PlaceState) × (come_each body from scope labels old ≡ Ok new) × HavePaths new
  come_each_well from scope [] old have given = (old, refl, have)
  come_each_well from scope (label ∷ labels) old have given =
      let within : place_of body label < length old = subst (λ n. place_of body label < n) (sym have.long)
      (first_place-within body.lines label given.0.0) in
      let one = come_well from (place_of body label) scope old _ have within (given_place scope label given.0) refl in
      let others = come_each_well from scope labels one.0 one.2 given.1 in
      (others.0, ap (λ result. unless_fault result (come_each body from scope labels)) one.1 ∙ others.1, others.2)

  module _ (place : ℕ) (scope : Scope) (line : Line) (old : List PlaceState) (have : HavePaths old)
      (waits : slice_get old place ≡ Some (Reached scope)) (at : slice_get body.lines place ≡ Some line) where
    -- a path leads there
    path : HasPath body place scope
    path = have.paths place scope (ap place_scope waits)

    -- its line stands at its label
    stands : IsLineAt body (label_at body.lines place) line (drop (place + 1) body.lines)
    stands = record {
      stands = from_label-first_label-drop body.lines place form.labels (slice_get_within body.lines place line at)
          ∙ drop-slice_get body.lines place line at;
    }

    -- each label that may follow is given the scope after it
    follow_given : AllByRecursion (IsGiven (scope_after line.instr scope))
        (following_labels line.instr (label_at body.lines (place + 1)))
    follow_given =
        let follow = following_labels line.instr (label_at body.lines (place + 1)) in
        let there = following_labels_there body.lines place line form.end form.jumps at in
        AllByRecursion-each (IsGiven (scope_after line.instr scope)) follow
        (λ label has. (
          AllByRecursion-contains (Contains (labels_of body.lines)) follow label has there,
          (
            suc path.count,
            (
              label_at body.lines place,
              scope,
              line,
              drop (place + 1) body.lines,
              path.path,
              stands,
              has,
              refl,
            ),
          ),
        ))

    -- so it is taken without a fault
    takes_well : (new : List PlaceState) × (take_line body place scope old (Some line) ≡ Ok new) × HavePaths new
    takes_well =
        let within = slice_get_within old place (Reached scope) waits in
        let fine = scopes.fine path.count (label_at body.lines place) scope line (drop (place + 1) body.lines)
        path.path stands in
        let came = come_each_well place (scope_after line.instr scope) _ (slice_set old place (Taken scope))
        (set_paths old place scope (Taken scope) have within refl path) follow_given in (
          came.0,
          take_instr-fine body place line.instr scope _ (slice_set old place (Taken scope)) fine
              ∙ came.1,
          came.2,
        )

  -- all are, whichever is next
  next_well : (more : ℕ) (old : List PlaceState) (next : Option (ℕ × Scope)) → HavePaths old → smallest 0 old ≡ next
      → ((middle : List PlaceState) → HavePaths middle
      → (new : List PlaceState) × (take_all body more middle ≡ Ok new) × HavePaths new)
      → (new : List PlaceState) × (take_and body old (take_all body more) next ≡ Ok new) × HavePaths new
  next_well more old None have next others = (old, refl, have)
  next_well more old (Some (place, scope)) have next others =
      let waits = smallest_waits old place scope next in
      let within : place < length body.lines = subst (λ n. place < n) have.long
      (slice_get_within old place (Reached scope) waits) in
      let line = line_within body.lines place within in
      let took = takes_well place scope line.0 old have waits line.1 in
      let result : take_line body place scope old (slice_get body.lines place) ≡ Ok took.0 =
      ap (take_line body place scope old) line.1 ∙ took.1 in
      let rest = others took.0 took.2 in
      (rest.0, ap (λ it. unless_fault it (take_all body more)) result ∙ rest.1, rest.2)

  all_well : (more : ℕ) (old : List PlaceState) → HavePaths old
      → (new : List PlaceState) × (take_all body more old ≡ Ok new) × HavePaths new
  all_well zero old have = (old, refl, have)
  all_well (suc more) old have = next_well more old _ have refl (all_well more)

  -- the places at first
  at_first : HavePaths (first_places (first_scope body) body.lines)
  at_first = record {
    long = first_long (first_scope body) body.lines;
    paths = λ place scope at.
        let first = first_alone body.lines place (first_scope body) scope at in
        record { count = 0; path = (ap (label_at body.lines) first.0, first.1) };
  }

  -- a body that has scopes has no fault, and the scopes that its places have in the end are those that paths give them
  pub taken_well : (places : List PlaceState) × (taken body ≡ Ok places) × HavePaths places
  taken_well = all_well (length body.lines) (first_places (first_scope body) body.lines) at_first
