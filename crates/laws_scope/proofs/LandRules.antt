-- What it says of a continuation that it fits its target.
use Rattle.std.proofs.Common.{◌≡◌, ◌↔◌, ◌<◌, ℕ, Bool, true, false, List, [], Option, None, Some, Contains, length, refl, sym, ap, ◌∙◌, subst}
use Rattle.std.specs.Prelude.{IfSome, slice_get, slice_set, if◌then◌else◌}
use Rattle.std.proofs.lemmas.Bool.Decides.{Decides-and}
use Rattle.std.proofs.lemmas.Option.{slice_get_within}
use Rattle.sour_syntax.specs.Body.{IsWellFormed}
use Rattle.sour_syntax.specs.BodyView.{BodyView}
use Rattle.sour_syntax.specs.Exits.{Continuation, bound_names}
use Rattle.sour_syntax.specs.Labels.{labels_of, label_at}
use Rattle.sour_syntax.specs.Scopes.{Scope, scope_with, HasScope, HasScopes}
use Rattle.sour_syntax.specs.Spread.{HasPath}
use Rattle.sour_syntax.specs.Targets.{Lands, IsNamed, scope_of_names}
use Rattle.sour_raw.specs.declared.raw.RawFunction.{RawFunction}
use Rattle.laws_scope.proofs.VariableNames.{variables_differ}
use Rattle.sour_checked.specs.Fault.{Fault}
use Rattle.sour_checked.specs.Texts.{TextVersion, body, variables, labels, number_in, version_at}
use Rattle.sour_checked.specs.Parts.{Leave}
use Rattle.sour_checked.specs.Names.{is_among}
use Rattle.sour_syntax.specs.declared.place_state.PlaceState.{PlaceState}
use Rattle.sour_syntax.specs.Taking.{place_scope, says, same_scope}
use Rattle.sour_checked.specs.Landing.{found_places, places, scope_at, waiting, scope_of, fits, fit_fault, target_fault, leave_fault}
use Rattle.laws_scope.specs.Right.{HasNames}
use Rattle.laws_scope.proofs.Kit.{iff_then, iff_each, none_if_not, known_each, among_number, among_contains}
use Rattle.laws_scope.proofs.VersionRules.{labels_are}
use Rattle.laws_scope.proofs.TargetRules.{numbered, IsMade, Parts, found, bound, waits, labelled, there}
use Rattle.sour_syntax.proofs.FirstPlaces.{label_at-first_place}
use Rattle.sour_syntax.proofs.PlaceLists.{set_here}
use Rattle.sour_syntax.proofs.ScopeTests.{says-Decides, same_scope-Decides}
use Rattle.laws_scope.proofs.MaskRules.{set_back, scope_of_numbers}
use Rattle.sour_syntax.proofs.TakenScopes.{HasNoBodyFault-HasScopes, taken-HasScope, HasPath-taken}

-- the scopes that were found for a version are those that paths give it
pub record IsScoped (functions : List RawFunction) (text : TextVersion) : Type 0 where
  pub has : (count : ℕ) (label : List ℕ) (scope : Scope) → HasScope (body functions text) count label scope
      → scope_at functions text label ≡ Some scope
  pub at : (place : ℕ) (scope : Scope) → place_scope (slice_get (places functions text) place) ≡ Some scope
      → HasPath (body functions text) place scope

module _ (functions : List RawFunction) (text : TextVersion) (form : IsWellFormed (body functions text))
    (scopes : HasScopes (body functions text)) where
  -- the labels of the body are those that are written
  own : labels_of (body functions text).lines ≡ labels text
  own = labels_are functions (variables text) 0 text.version.lines

  -- the scopes that places have in the end
  pub scoped : IsScoped functions text
  scoped =
      let well = HasNoBodyFault-HasScopes (body functions text) form scopes in
      let found : places functions text ≡ well.0 = ap found_places well.1 in
      record {
        has = λ count label scope path.
            ap (λ all. place_scope (slice_get (places functions text) (number_in all label))) (sym own)
            ∙ ap (λ (ps : List PlaceState). place_scope
            (slice_get ps (number_in (labels_of (body functions text).lines) label))) found
            ∙ taken-HasScope (body functions text) form well.0 well.1 count label scope path;
        at = λ place scope is_at. HasPath-taken (body functions text) form well.0 well.1 place scope
            (ap (λ (ps : List PlaceState). place_scope (slice_get ps place)) (sym found) ∙ is_at);
      }

-- a map fits a scope where that is the scope of its names with the variable that waits, which isn't one of them
fits_by : (mask scope : Scope) (waits : Option ℕ) → (fits waits mask scope ≡ true)
    ↔ ((scope ≡ scope_with waits mask) × IfSome waits (λ x. slice_get mask x ≡ Some false))
fits_by mask scope None = (
  (λ is. (sym ((same_scope-Decides mask scope).0 is), tt)),
  λ both. (same_scope-Decides mask scope).1 (sym both.0),
)
fits_by mask scope (Some place) =
    let tests = Decides-and (says true (slice_get scope place)) (same_scope mask (slice_set scope place false))
    (says-Decides true (slice_get scope place)) (same_scope-Decides mask (slice_set scope place false)) in (
      (λ is.
          let both = tests.0 is in
          let within = slice_get_within scope place true both.0 in (
            sym (ap (λ (s : Scope). slice_set s place true) both.1 ∙ set_back scope place true false both.0),
            ap (λ (s : Scope). slice_get s place) both.1 ∙ set_here scope place false within,
          )),
      λ both.
          let within = slice_get_within mask place false both.1 in
          tests.1 (
            ap (λ (s : Scope). slice_get s place) both.0 ∙ set_here mask place true within,
            sym (ap (λ (s : Scope). slice_set s place false) both.0 ∙ set_back mask place false true both.1),
          ),
    )

-- there is no fault where the test holds
no_fault_if : (test : Bool) (fault : Fault) → ((if test then None else Some fault) ≡ None) ↔ (test ≡ true)
no_fault_if true fault = ((λ is. refl), λ is. refl)
no_fault_if false fault = ((λ is. absurd (cc)), λ is. absurd (cc))

module _ (functions : List RawFunction) (line : ℕ) (leave : Leave) (continuation : Continuation)
    (made : IsMade functions leave continuation) (text : TextVersion)
    (is : version_at functions leave.target ≡ Some text) (named : IsNamed (numbered functions) [] continuation)
    (scoped : IsScoped functions text)
    (names : HasNames functions text) where
  -- the variables there
  abbrev own_variables : List (List ℕ)
  own_variables = variables text

  -- the rules that aren't broken
  abbrev rules : Parts functions line leave continuation made text is
  rules = (there functions line leave continuation made text is named).1

  -- the scope of the names of the map
  abbrev mask : Scope
  mask = scope_of own_variables leave.names

  -- the same of what is made of it
  abbrev made_mask : Scope
  made_mask = scope_of_names (length own_variables) (bound_names continuation.binds)

  same_mask : mask ≡ made_mask
  same_mask =
      let among = (known_each line own_variables leave.names).0 rules.1 in
      let below = (iff_each (λ name. is_among own_variables name ≡ true)
      (λ name. number_in own_variables name < length own_variables) (among_number own_variables) leave.names).0
      among in
      scope_of_numbers own_variables leave.names (variables_differ text.parameters text.version.lines) below
      ∙ ap (scope_of_names (length own_variables)) (sym (bound functions line leave continuation made text is))

  -- the scope that the target must have
  whole : scope_with (waiting own_variables leave.waits) mask ≡ scope_with continuation.waits made_mask
  whole = ap (λ w. scope_with w mask) (sym (waits functions line leave continuation made text is))
      ∙ ap (scope_with continuation.waits) same_mask

  -- the label is there
  label_is : Contains (labels text) leave.target.label
  label_is = (among_contains (labels text) leave.target.label).0
      ((none_if_not (is_among (labels text) leave.target.label) 2 line).0 rules.0)

  -- the body that it lands in
  same_body : (lands : Lands (numbered functions) [] continuation) → lands.body ≡ body functions text
  same_body lands =
      let there_is = lands.found in
      let both : Some lands.body ≡ Some (body functions text) = sym there_is
      ∙ found functions line leave continuation made text is in cc

  -- the scope that it lands in
  lands_scope : Lands (numbered functions) [] continuation
      → scope_at functions text leave.target.label ≡ Some (scope_with continuation.waits made_mask)
  lands_scope lands =
      let P : BodyView → Type 0 = λ b. HasScope b lands.count continuation.target.label
      (scope_with continuation.waits (scope_of_names (length b.variables) (bound_names continuation.binds))) in
      let path = subst P (same_body lands) lands.path in
      scoped.has lands.count leave.target.label (scope_with continuation.waits made_mask)
      (subst (λ label. HasScope (body functions text) lands.count label (scope_with continuation.waits made_mask))
      (labelled functions line leave continuation made text is) path)

  -- the variable that waits isn't in the map
  free_back : Lands (numbered functions) [] continuation
      → IfSome (waiting own_variables leave.waits) (λ x. slice_get mask x ≡ Some false)
  free_back lands =
      let P : BodyView → Type 0 = λ b. IfSome continuation.waits
      (λ x. slice_get (scope_of_names (length b.variables) (bound_names continuation.binds)) x ≡ Some false) in
      let free = subst P (same_body lands) lands.free in
      subst (λ (w : Option ℕ). IfSome w (λ x. slice_get mask x ≡ Some false))
      (waits functions line leave continuation made text is)
      (subst (λ (m : Scope). IfSome continuation.waits (λ x. slice_get m x ≡ Some false)) (sym same_mask) free)

  -- it lands where its map fits
  land : (scope : Scope) → scope_at functions text leave.target.label ≡ Some scope
      → (scope ≡ scope_with (waiting own_variables leave.waits) mask)
      × IfSome (waiting own_variables leave.waits) (λ x. slice_get mask x ≡ Some false)
      → Lands (numbered functions) [] continuation
  land scope at (same, free) =
      let labels_same = labels_are functions (variables text) 0 text.version.lines in
      let path = scoped.at (number_in (labels text) leave.target.label) scope at in
      let place_label : label_at (body functions text).lines (number_in (labels text) leave.target.label) ≡
      leave.target.label =
      ap (λ all. label_at (body functions text).lines (number_in all leave.target.label)) (sym labels_same)
      ∙ label_at-first_place (body functions text).lines leave.target.label
      (subst (λ all. Contains all leave.target.label) (sym labels_same) label_is) in
      let whole_path = subst (HasScope (body functions text) path.count leave.target.label) (same ∙ whole)
      (subst (λ label. HasScope (body functions text) path.count label scope) place_label path.path) in
      record {
        body = body functions text;
        found = found functions line leave continuation made text is;
        count = path.count;
        path = subst (λ label. HasScope (body functions text) path.count label
            (scope_with continuation.waits made_mask)) (sym (labelled functions line leave continuation made text is))
            whole_path;
        free = subst (λ (m : Scope). IfSome continuation.waits (λ x. slice_get m x ≡ Some false)) same_mask
            (subst (λ (w : Option ℕ). IfSome w (λ x. slice_get mask x ≡ Some false))
            (sym (waits functions line leave continuation made text is)) free);
      }

  -- where it has a scope
  by_scope : (found_scope : Option Scope) → scope_at functions text leave.target.label ≡ found_scope
      → (fit_fault line own_variables (waiting own_variables leave.waits) leave.names mask found_scope ≡ None)
      ↔ Lands (numbered functions) [] continuation
  by_scope None none = (
    (λ wrong. absurd (cc)),
    λ lands. let has = lands_scope lands in absurd (cc),
  )
  by_scope (Some scope) at =
      let test = iff_then (no_fault_if (fits (waiting own_variables leave.waits) mask scope) _)
      (fits_by mask scope (waiting own_variables leave.waits)) in (
        (λ fine. land scope at (test.0 fine)),
        λ lands.
            let has = lands_scope lands in
            let same : scope ≡ scope_with continuation.waits made_mask = let both : Some scope ≡ Some
            (scope_with continuation.waits made_mask) = sym at ∙ has in cc in
            test.1 (same ∙ sym whole, free_back lands),
      )

  -- a continuation has no fault where it lands
  pub land_rule : (leave_fault functions line leave ≡ None) ↔ Lands (numbered functions) [] continuation
  land_rule =
      subst (λ (target : Option TextVersion). (target_fault functions line leave target ≡ None)
      ↔ Lands (numbered functions) [] continuation) (sym is)
      (by_scope (scope_at functions text leave.target.label) refl)
