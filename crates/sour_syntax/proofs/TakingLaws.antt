-- What it says of a body that its places can be taken without a fault: that it has scopes.
use Rattle.std.proofs.Common.{◌≡◌, ◌+◌, ◌<◌, ◌≤◌, ℕ, zero, suc, Bool, true, false, List, [], ◌∷◌, Option, None, Some, Result, Ok, Err, Contains, length, map, refl, sym, ap, ◌∙◌, subst, arith}
use Rattle.std.specs.Prelude.{slice_get, slice_set}
use Rattle.std.specs.List.{AllByRecursion}
use Rattle.std.proofs.lemmas.List.{length-set}
use Rattle.std.proofs.lemmas.Option.{slice_get_within}
use Rattle.sour_syntax.specs.declared.body_fault.BodyFault.{BodyFault}
use Rattle.sour_syntax.specs.declared.instruction.Instr.{Instr}
use Rattle.sour_syntax.specs.declared.instruction.Line.{Line}
use Rattle.sour_syntax.specs.Body.{IsWellFormed}
use Rattle.sour_syntax.specs.BodyView.{BodyView}
use Rattle.sour_syntax.specs.Labels.{labels_of, first_label, label_at}
use Rattle.sour_syntax.specs.Scopes.{Scope, needed, declared_by, scope_after, following_labels, first_scope, HasScope, IsLineAt, IsFine, HasScopes}
use Rattle.sour_syntax.specs.Taking.{PlaceState, Unreached, Reached, Taken, first_places, place_scope, place_of, come, come_each, unless_fault, take_instr, take_line, take_and, take_all, taken, smallest, all_in, none_in, same_scope}
use Rattle.sour_syntax.specs.Terminator.{EndsInTerminator}
use Rattle.sour_syntax.proofs.Everywhere.{AllByRecursion-weaker, AllByRecursion-contains}
use Rattle.sour_syntax.proofs.FirstPlaces.{first_place, first_place-here, first_place-within, from_label-drop}
use Rattle.sour_syntax.proofs.Following.{drop_first, following_labels_there}
use Rattle.sour_syntax.proofs.PlaceLists.{set_cases, set_here, left, left_taken, left_reached, none_left, first_left, smallest_waits, none_waits, unreached_there, taken_there, line_within, first_long}
use Rattle.sour_syntax.proofs.ScopeTests.{same_scope-Decides, all_in-Decides, none_in-Decides}

-- ---- a scope comes

-- the scopes that places had are kept, none more was taken, and as many are left
pub record Grew (old new : List PlaceState) : Type 0 where
  pub long : length new ≡ length old
  pub left : left new ≡ left old
  pub kept : (place : ℕ) (scope : Scope) → place_scope (slice_get old place) ≡ Some scope
      → place_scope (slice_get new place) ≡ Some scope
  pub taken : (place : ℕ) (scope : Scope) → slice_get new place ≡ Some (Taken scope)
      → slice_get old place ≡ Some (Taken scope)

-- nothing changed
grew_not : (places : List PlaceState) → Grew places places
grew_not places = record { long = refl; left = refl; kept = λ place scope is. is; taken = λ place scope is. is }

-- one after the other
grew_then : (old middle new : List PlaceState) → Grew old middle → Grew middle new → Grew old new
grew_then old middle new one other = record {
  long = other.long ∙ one.long;
  left = other.left ∙ one.left;
  kept = λ place scope is. other.kept place scope (one.kept place scope is);
  taken = λ place scope is. one.taken place scope (other.taken place scope is);
}

-- a place without a scope gets one
grew_set : (places : List PlaceState) (place : ℕ) (scope : Scope) → place < length places
    → slice_get places place ≡ Some Unreached → Grew places (slice_set places place (Reached scope))
grew_set places place scope within at = record {
  long = length-set places place (Reached scope);
  left = left_reached places place scope at;
  kept = λ other said is.
      let P : ℕ → Option PlaceState → Type 0 = λ n found. place_scope (slice_get places n) ≡ Some said
      → place_scope found ≡ Some said in
      set_cases P places place (Reached scope) within
      (λ had. let none : place_scope (slice_get places place) ≡ None = ap place_scope at in absurd (cc)) (λ n had. had)
      other is;
  taken = λ other said is.
      let P : ℕ → Option PlaceState → Type 0 = λ n found. found ≡ Some (Taken said)
      → slice_get places n ≡ Some (Taken said) in
      set_cases P places place (Reached scope) within (λ wrong. absurd (cc)) (λ n had. had) other is;
}

-- ---- a body whose names are right

module _ (body : BodyView) (form : IsWellFormed body) where
  -- the scope of a label is this one
  abbrev Has : List PlaceState → Scope → List ℕ → Type 0
  Has places scope label = place_scope (slice_get places (place_of body label)) ≡ Some scope

  -- a label is that of a line
  abbrev IsThere : List ℕ → Type 0
  IsThere label = Contains (labels_of body.lines) label

  -- a scope comes to a place that has another or the same
  come_same : (from place : ℕ) (scope other : Scope) (old new : List PlaceState) (test : Bool)
      → same_scope other scope ≡ test → place_scope (slice_get old place) ≡ Some other
      → come body.variables from scope old place (Some other) ≡ Ok new → Grew old new
      × (place_scope (slice_get new place) ≡ Some scope)
  come_same from place scope other old new true tested had is =
      let same : other ≡ scope = (same_scope-Decides other scope).0 tested in
      let ok : come body.variables from scope old place (Some other) ≡ Ok old = simp tested in
      let both : Ok old ≡ Ok new = sym ok ∙ is in
      let news : old ≡ new = cc in (
        subst (Grew old) news (grew_not old),
        subst (λ places. place_scope (slice_get places place) ≡ Some scope) news
            (had ∙ ap Some same),
      )
  come_same from place scope other old new false tested had is =
      let wrong = simp tested at is in absurd (cc)

  -- a scope comes to a place
  come_grows : (from place : ℕ) (scope : Scope) (old new : List PlaceState) (found : Option Scope) → place < length old
      → found ≡ place_scope (slice_get old place)
      → come body.variables from scope old place found ≡ Ok new → Grew old new
      × (place_scope (slice_get new place) ≡ Some scope)
  come_grows from place scope old new None within had is =
      let news : slice_set old place (Reached scope) ≡ new = cc in
      let there = unreached_there old place within had in (
        subst (Grew old) news (grew_set old place scope within there),
        subst
            (λ places. place_scope (slice_get places place) ≡ Some scope) news
            (ap place_scope (set_here old place (Reached scope) within)),
      )
  come_grows from place scope old new (Some other) within had is = come_same from place scope other old new _ refl
      (sym had) is

  -- a scope comes to a label, and then to others
  come_rest : (from : ℕ) (scope : Scope) (label : List ℕ) (labels : List (List ℕ)) (old new : List PlaceState)
      (first : Result (List PlaceState) BodyFault) → length old ≡ length body.lines
      → IsThere label
      → ((middle : List PlaceState) → length middle ≡ length body.lines
      → come_each body from scope labels middle ≡ Ok new
      → Grew middle new × AllByRecursion (Has new scope) labels)
      → come body.variables from scope old (place_of body label) (place_scope (slice_get old (place_of body label))) ≡
      first
      → unless_fault first (come_each body from scope labels) ≡ Ok new → Grew old new
      × AllByRecursion (Has new scope) (label ∷ labels)
  come_rest from scope label labels old new (Ok middle) long there rest came is =
      let within : place_of body label < length old = subst (λ n. place_of body label < n) (sym long)
      (first_place-within body.lines label there) in
      let one = come_grows from (place_of body label) scope old middle _ within refl came in
      let others = rest middle (one.0.long ∙ long) is in
      (grew_then old middle new one.0 others.0, (others.0.kept (place_of body label) scope one.1, others.1))
  come_rest from scope label labels old new (Err fault) long there rest came is = absurd (cc)

  -- a scope comes to each of some labels
  come_each_grows : (from : ℕ) (scope : Scope) (labels : List (List ℕ)) (old new : List PlaceState)
      → length old ≡ length body.lines → AllByRecursion IsThere labels
      → come_each body from scope labels old ≡ Ok new → Grew old new × AllByRecursion (Has new scope) labels
  come_each_grows from scope [] old new long there is =
      let news : old ≡ new = cc in (subst (Grew old) news (grew_not old), tt)
  come_each_grows from scope (label ∷ labels) old new long there is =
      come_rest from scope label labels old new _ long there.0
      (λ middle each came. come_each_grows from scope labels middle new each there.1 came) refl is

  -- ---- a place is taken

  -- an instruction that may stand there: its scope came to the labels that may follow
  take_tested : (place : ℕ) (instr : Instr) (scope : Scope) (following : List (List ℕ)) (old new : List PlaceState)
      (needs declares : Bool)
      → all_in scope (needed instr) ≡ needs → none_in scope (declared_by instr) ≡ declares
      → take_instr body place instr scope following old ≡ Ok new → IsFine instr scope
      × (come_each body place (scope_after instr scope) following old ≡ Ok new)
  take_tested place instr scope following old new true true needs declares is = (
    record {
      needs = (all_in-Decides scope (needed instr)).0 needs;
      declares =
          (none_in-Decides scope (declared_by instr)).0 declares;
    },
    simp (needs, declares) at is,
  )
  take_tested place instr scope following old new true false needs declares is = let wrong = simp (needs, declares) at
      is in absurd (cc)
  take_tested place instr scope following old new false declared needs declares is = let wrong = simp needs at is in
      absurd (cc)

  -- a place that was taken is done: its instruction may stand there, and the scope after it is that of each label that
  -- may follow
  pub record IsDone (places : List PlaceState) (place : ℕ) (scope : Scope) (line : Line) : Type 0 where
    pub fine : IsFine line.instr scope
    pub follow : AllByRecursion (Has places (scope_after line.instr scope))
        (following_labels line.instr (label_at body.lines (place + 1)))

  -- what holds of places as they are taken
  pub record IsGoing (places : List PlaceState) : Type 0 where
    pub long : length places ≡ length body.lines
    pub first : place_scope (slice_get places 0) ≡ Some (first_scope body)
    pub done : (place : ℕ) (scope : Scope) (line : Line) → slice_get places place ≡ Some (Taken scope)
        → slice_get body.lines place ≡ Some line → IsDone places place scope line

  module _ (place : ℕ) (scope : Scope) (line : Line) (old : List PlaceState) (going : IsGoing old)
      (waits : slice_get old place ≡ Some (Reached scope)) (at : slice_get body.lines place ≡ Some line) where
    -- the places where it is marked
    abbrev marked : List PlaceState
    marked = slice_set old place (Taken scope)

    within : place < length old
    within = slice_get_within old place (Reached scope) waits

    -- no scope is lost by that
    marked_kept : (other : ℕ) (said : Scope) → place_scope (slice_get old other) ≡ Some said
        → place_scope (slice_get marked other) ≡ Some said
    marked_kept other said is =
        let P : ℕ → Option PlaceState → Type 0 = λ n found. place_scope (slice_get old n) ≡ Some said
        → place_scope found ≡ Some said in
        set_cases P old place (Taken scope) within (λ had. sym (ap place_scope waits) ∙ had) (λ n had. had) other is

    -- the labels that may follow
    abbrev follow : List (List ℕ)
    follow = following_labels line.instr (label_at body.lines (place + 1))

    -- it is taken without a fault
    taken_on : (new : List PlaceState) → IsFine line.instr scope → Grew marked new
        → AllByRecursion (Has new (scope_after line.instr scope)) follow
        → IsGoing new × (suc (left new) ≡ left old)
    taken_on new fine grew came =
        let kept : (other : ℕ) (said : Scope) → place_scope (slice_get old other) ≡ Some said
        → place_scope (slice_get new other) ≡ Some said =
        λ other said is. grew.kept other said (marked_kept other said is) in
        let here : IsDone new place scope line = record { fine = fine; follow = came } in
        let P : ℕ → Option PlaceState → Type 0 =
        λ n found. (said : Scope) (other : Line) → found ≡ Some (Taken said) → slice_get body.lines n ≡ Some other
        → IsDone new n said other in
        let there : P place (Some (Taken scope)) =
        λ said other is there.
        let same : scope ≡ said = cc in
        let one : line ≡ other = let both : Some line ≡ Some other = sym at ∙ there in cc in
        subst (λ s. IsDone new place s other) same (subst (IsDone new place scope) one here) in
        let before : (n : ℕ) → P n (slice_get old n) =
        λ n said other is there.
        let was = going.done n said other is there in
        record {
          fine = was.fine;
          follow = AllByRecursion-weaker (Has old (scope_after other.instr said))
              (Has new (scope_after other.instr said))
              (λ label had. kept (place_of body label) (scope_after other.instr said) had)
              (following_labels other.instr (label_at body.lines (n + 1))) was.follow;
        } in (
          record {
            long = grew.long ∙ length-set old place (Taken scope) ∙ going.long;
            first = kept 0 (first_scope body) going.first;
            done = λ n said other is there_at. set_cases P old place (Taken scope) within there before n said other
                (grew.taken n said is) there_at;
          },
          ap suc grew.left ∙ left_taken old place scope waits,
        )

    -- so it goes on
    pub take_goes_on : (new : List PlaceState) → take_line body place scope old (Some line) ≡ Ok new
        → IsGoing new × (suc (left new) ≡ left old)
    take_goes_on new is =
        let tested = take_tested _ line.instr scope follow marked new _ _ refl refl is in
        let came = come_each_grows _ (scope_after line.instr scope) follow marked new
        (length-set old place (Taken scope) ∙ going.long)
        (following_labels_there body.lines place line form.end form.jumps at)
        tested.1 in
        taken_on new tested.0 came.0 came.1

  -- ---- all are taken

  -- all that could be taken was
  pub record AreDone (places : List PlaceState) : Type 0 where
    pub going : IsGoing places
    pub none : (place : ℕ) (scope : Scope) → slice_get places place ≡ Some (Reached scope) → ⊥

  -- what is done after a place was taken
  done_after : (old new : List PlaceState) (more place : ℕ) (scope : Scope) (line : Line)
      (result : Result (List PlaceState) BodyFault) → IsGoing old → left old ≤ suc more
      → slice_get old place ≡ Some (Reached scope) → slice_get body.lines place ≡ Some line
      → ((middle : List PlaceState) → IsGoing middle → left middle ≤ more → take_all body more middle ≡ Ok new
      → AreDone new)
      → take_line body place scope old (slice_get body.lines place) ≡ result
      → unless_fault result (take_all body more) ≡ Ok new → AreDone new
  done_after old new more place scope line (Ok middle) going few waits at others took is =
      let one = take_goes_on place scope line old going waits at middle
      (ap (take_line body place scope old) (sym at) ∙ took) in
      let fewer = one.1 in
      others middle one.0 (omega arith) is
  done_after old new more place scope line (Err fault) going few waits at others took is = absurd (cc)

  -- the smallest is taken, and then others
  take_next_done : (old new : List PlaceState) (more : ℕ) (next : Option (ℕ × Scope)) → IsGoing old
      → left old ≤ suc more
      → smallest 0 old ≡ next
      → ((middle : List PlaceState) → IsGoing middle → left middle ≤ more → take_all body more middle ≡ Ok new
      → AreDone new)
      → take_and body old (take_all body more) next ≡ Ok new → AreDone new
  take_next_done old new more None going few none others is =
      let news : old ≡ new = cc in
      subst AreDone news (record { going = going; none = λ place scope at. none_waits 0 old place scope none at })
  take_next_done old new more (Some (place, scope)) going few next others is =
      let waits = smallest_waits old place scope next in
      let within : place < length body.lines = subst (λ n. place < n) going.long
      (slice_get_within old place (Reached scope) waits) in
      let line = line_within body.lines place within in
      done_after old new more place scope line.0 _ going few waits line.1 others refl is

  -- in as many turns as places are left all are taken
  take_all_done : (more : ℕ) (old new : List PlaceState) → IsGoing old → left old ≤ more
      → take_all body more old ≡ Ok new → AreDone new
  take_all_done zero old new going few is =
      let news : old ≡ new = cc in
      subst AreDone news (record { going = going; none = λ place scope at. none_left old place scope few at })
  take_all_done (suc more) old new going few is =
      take_next_done old new more _ going few refl
      (λ middle goes fewer took. take_all_done more middle new goes fewer took) is

  -- ---- then the body has scopes

  -- the first label stands first
  first_label_first : (lines : List Line) → EndsInTerminator lines
      → first_place (labels_of lines) (first_label lines) ≡ 0
  first_label_first [] ends = absurd ends
  first_label_first (line ∷ lines) ends = first_place-here line.label line.label (labels_of lines) refl

  module _ (places : List PlaceState) (done : AreDone places) where
    -- what is done of the line at a label that has a scope
    line_done : (label : List ℕ) (scope : Scope) (line : Line) (rest : List Line) → Has places scope label
        → IsLineAt body label line rest
        → IsDone places (place_of body label) scope line
        × (first_label rest ≡ label_at body.lines (place_of body label + 1))
    line_done label scope line rest has stands =
        let at = drop_first body.lines rest (place_of body label) line
        (sym (from_label-drop label body.lines) ∙ stands.stands) in
        let was = taken_there (slice_get places (place_of body label)) scope has
        (λ waits. done.none (place_of body label) scope waits) in
        (done.going.done (place_of body label) scope line was at.0, at.1)

    -- a scope that a path gives is that of the place
    pub path_has : (count : ℕ) (label : List ℕ) (scope : Scope) → HasScope body count label scope
        → Has places scope label
    path_has zero label scope (at, is) =
        let first : place_of body label ≡ 0 = ap (first_place (labels_of body.lines)) at
        ∙ first_label_first body.lines form.end in
        ap (λ n. place_scope (slice_get places n)) first ∙ done.going.first ∙ ap Some (sym is)
    path_has (suc count) label scope (from, before, line, rest, path, stands, follows, is) =
        let was = line_done from before line rest (path_has count from before path) stands in
        let all = subst (λ next. AllByRecursion (Has places (scope_after line.instr before))
        (following_labels line.instr next)) (sym was.1) was.0.follow in
        subst (λ s. Has places s label) (sym is) (AllByRecursion-contains (Has places (scope_after line.instr before))
        (following_labels line.instr (first_label rest)) label follows all)

    -- two scopes of one place are the same
    one_scope : (found : Option Scope) (scope other : Scope) → found ≡ Some scope → found ≡ Some other → scope ≡ other
    one_scope None scope other one another = absurd (cc)
    one_scope (Some it) scope other one another = cc

    -- where all are taken without a fault the body has scopes
    has_scopes : HasScopes body
    has_scopes = record {
      one = λ m n label scope other path another. one_scope (place_scope (slice_get places (place_of body label)))
          scope other (path_has m label scope path) (path_has n label other another);
      fine = λ count label scope line rest path stands.
          (line_done label scope line rest (path_has count label scope path) stands).0.fine;
    }

  -- at first nothing is done
  rest_not_taken : (lines : List Line) (place : ℕ) (said : Scope)
      → slice_get (map (λ (other : Line). Unreached) lines) place ≡ Some (Taken said) → ⊥
  rest_not_taken [] place said at = absurd (cc)
  rest_not_taken (line ∷ lines) zero said at = absurd (cc)
  rest_not_taken (line ∷ lines) (suc place) said at = rest_not_taken lines place said at

  first_not_taken : (lines : List Line) (place : ℕ) (scope said : Scope)
      → slice_get (first_places scope lines) place ≡ Some (Taken said) → ⊥
  first_not_taken [] place scope said at = absurd (cc)
  first_not_taken (line ∷ lines) zero scope said at = absurd (cc)
  first_not_taken (line ∷ lines) (suc place) scope said at = rest_not_taken lines place said at

  -- the first has its scope
  first_has : (scope : Scope) (lines : List Line) → EndsInTerminator lines
      → place_scope (slice_get (first_places scope lines) 0) ≡ Some scope
  first_has scope [] ends = absurd ends
  first_has scope (line ∷ lines) ends = refl

  -- the places at first
  pub first_going : IsGoing (first_places (first_scope body) body.lines)
  first_going = record {
    long = first_long (first_scope body) body.lines;
    first = first_has (first_scope body) body.lines form.end;
    done = λ place scope line was at. absurd (first_not_taken body.lines place (first_scope body) scope was);
  }

  -- where no fault is found all are taken
  pub taken_done : (places : List PlaceState) → taken body ≡ Ok places → AreDone places
  taken_done places is =
      take_all_done (length body.lines) (first_places (first_scope body) body.lines) places first_going
      (subst (λ n. n ≤ length body.lines) (sym (first_left (first_scope body) body.lines)) (omega arith)) is

  -- where the names of a body are right, and no fault is found, it has scopes
  pub scopes_if_taken : (places : List PlaceState) → taken body ≡ Ok places → HasScopes body
  scopes_if_taken places is = has_scopes places (taken_done places is)
