-- The scopes of a body in the words of the places that were taken: they are those of the places.
use Rattle.std.proofs.Common.{◌≡◌, ◌↔◌, ◌<◌, ℕ, zero, suc, List, [], ◌∷◌, Option, None, Some, Result, Ok, Err, IsOk, length, map, refl, sym, ap, ◌∙◌, subst}
use Rattle.std.specs.Prelude.{IfSome, IfErr, slice_get}
use Rattle.std.proofs.lemmas.List.{length-map}
use Rattle.std.proofs.lemmas.Option.{slice_get_read}
use Rattle.sour_syntax.specs.declared.body_fault.BodyFault.{BodyFault}
use Rattle.sour_syntax.specs.declared.literal.VarId.{VarId}
use Rattle.sour_syntax.specs.Body.{IsBody, IsWellFormed, KeepsScopes}
use Rattle.sour_syntax.specs.BodyView.{BodyView}
use Rattle.sour_syntax.specs.Labels.{label_at}
use Rattle.sour_syntax.specs.Scopes.{Scope, HasScope, HasInScope, IsUnreached, HasScopes}
use Rattle.sour_syntax.specs.Spread.{HasPath, TellOf, variables_in}
use Rattle.sour_syntax.specs.Taking.{PlaceState, Unreached, Reached, Taken, HasNoBodyFault, IsFirstBodyFault, place_of, place_scope, taken}
use Rattle.sour_syntax.proofs.Everywhere.{AllByRecursion-each}
use Rattle.sour_syntax.proofs.FaultyScopes.{HavePaths, taken_well}
use Rattle.sour_syntax.proofs.FirstPlaces.{first_place-label_at}
use Rattle.sour_syntax.proofs.ScopeLists.{length-HasScope}
use Rattle.sour_syntax.proofs.TakingLaws.{taken_done, path_has, scopes_if_taken}

-- what holds of a body holds of it whatever its paths
pub IsWellFormed-IsBody : (body : BodyView) → IsBody body → IsWellFormed body
IsWellFormed-IsBody body is = record {
  parameters = is.parameters;
  labels = is.labels;
  end = is.end;
  jumps = is.jumps;
  mentions = is.mentions;
}

-- a body that has scopes has no fault
pub HasNoBodyFault-HasScopes : (body : BodyView) → IsWellFormed body → HasScopes body → HasNoBodyFault body
HasNoBodyFault-HasScopes body form scopes = let well = taken_well body form scopes in (well.0, well.1)

-- so a check of it that may find its first fault finds none
pub IsOk-HasScopes : {A : Type 0} (body : BodyView) → IsWellFormed body → HasScopes body
    → (checked : Result A BodyFault)
    → IfErr checked (IsFirstBodyFault body) → IsOk checked
IsOk-HasScopes body form scopes (Ok it) fault = refl
IsOk-HasScopes body form scopes (Err it) fault =
    let none = HasNoBodyFault-HasScopes body form scopes in
    let both : Ok none.0 ≡ Err it = sym none.1 ∙ fault in absurd (cc)

-- the places of a body that were taken without a fault
module _ (body : BodyView) (form : IsWellFormed body) (places : List PlaceState) (is : taken body ≡ Ok places) where
  -- the body has scopes
  pub HasScopes-taken : HasScopes body
  HasScopes-taken = scopes_if_taken body form places is

  have : HavePaths body form HasScopes-taken places
  have =
      let well = taken_well body form HasScopes-taken in
      let same : well.0 ≡ places = let both : Ok well.0 ≡ Ok places = sym well.1 ∙ is in cc in
      subst (HavePaths body form HasScopes-taken) same well.2

  -- there are as many places as lines
  pub length-taken : length places ≡ length body.lines
  length-taken = have.long

  -- a place that has a scope has it from a path
  pub HasPath-taken : (place : ℕ) (scope : Scope) → place_scope (slice_get places place) ≡ Some scope
      → HasPath body place scope
  HasPath-taken = have.paths

  -- and the place of a label to which a path leads has the scope that the path gives
  pub taken-HasScope : (count : ℕ) (label : List ℕ) (scope : Scope) → HasScope body count label scope
      → place_scope (slice_get places (place_of body label)) ≡ Some scope
  taken-HasScope = path_has body form places (taken_done body form places is)

  pub taken-HasPath : (place : ℕ) (scope : Scope) → place < length body.lines → HasPath body place scope
      → place_scope (slice_get places place) ≡ Some scope
  taken-HasPath place scope within path =
      subst (λ n. place_scope (slice_get places n) ≡ Some scope)
      (first_place-label_at body.lines place form.labels within)
      (taken-HasScope path.count (label_at body.lines place) scope path.path)

  -- no path leads to a place exactly where it has no scope
  pub IsUnreached-taken : (place : ℕ) → place < length body.lines
      → IsUnreached body place ↔ (place_scope (slice_get places place) ≡ None)
  IsUnreached-taken place within = (
    (λ unreached. none unreached (place_scope (slice_get places place)) refl),
    λ none count scope path.
        let some = taken-HasPath place scope within (record { count = count; path = path }) in cc,
  )
    where
      none : IsUnreached body place → (found : Option Scope) → place_scope (slice_get places place) ≡ found
          → found ≡ None
      none unreached None at = refl
      none unreached (Some scope) at =
          let path = HasPath-taken place scope at in absurd (unreached path.count scope path.path)

  -- and these are the variables in scope there exactly where they are those in its scope
  pub HasInScope-taken : (place : ℕ) (variables : List VarId) → place < length body.lines
      → HasInScope body place variables ↔ (variables_in (place_scope (slice_get places place)) ≡ Some variables)
  HasInScope-taken place variables within = (
    (λ has.
        let some = taken-HasPath place has.scope within (record { count = has.count; path = has.path }) in
        ap variables_in some ∙ ap Some (sym has.are)),
    λ are. some (place_scope (slice_get places place)) refl are,
  )
    where
      some : (found : Option Scope) → place_scope (slice_get places place) ≡ found → variables_in found ≡ Some variables
          → HasInScope body place variables
      some None at are = absurd (cc)
      some (Some scope) at are =
          let path = HasPath-taken place scope at in
          record { count = path.count; scope = scope; path = path.path; are = cc }

  -- each scope tells of the body's variables
  tells : (index : ℕ) (place : PlaceState) → slice_get places index ≡ Some place
      → IfSome (place_scope (Some place)) (λ scope. length scope ≡ length body.variables)
  tells index Unreached at = tt
  tells index (Reached scope) at =
      let path = HasPath-taken index scope (ap place_scope at) in
      length-HasScope body form.parameters path.count (label_at body.lines index) scope path.path
  tells index (Taken scope) at =
      let path = HasPath-taken index scope (ap place_scope at) in
      length-HasScope body form.parameters path.count (label_at body.lines index) scope path.path

  pub TellOf-taken : TellOf (length body.variables) places
  TellOf-taken = AllByRecursion-each _ places (λ place has.
      tells has.0 place (slice_get_read places (length places) has.0 place refl has.1 (sym has.2)))

-- what a body keeps of its scopes
module _ (body : BodyView) (is : IsBody body) (rows : List (Option (List VarId))) (keeps : KeepsScopes body rows) where
  form : IsWellFormed body
  form = IsWellFormed-IsBody body is

  -- there is something for each line
  pub length-kept : length rows ≡ length body.lines
  length-kept = ap length keeps.are ∙ length-map keeps.places
      (λ (place : PlaceState). variables_in (place_scope (Some place)))
      ∙ length-taken body form keeps.places keeps.taken

  variables_at : (places : List PlaceState) (place : ℕ) (list : Option (List VarId))
      → slice_get (map (λ (place : PlaceState). variables_in (place_scope (Some place))) places) place ≡ Some list
      → variables_in (place_scope (slice_get places place)) ≡ list
  variables_at [] place list at = absurd (cc)
  variables_at (first ∷ places) zero list at = cc
  variables_at (first ∷ places) (suc place) list at = variables_at places place list at

  kept_at : (place : ℕ) (list : Option (List VarId)) → slice_get rows place ≡ Some list
      → variables_in (place_scope (slice_get keeps.places place)) ≡ list
  kept_at place list at = variables_at keeps.places place list
      (ap (λ (rows : List (Option (List VarId))). slice_get rows place) (sym keeps.are) ∙ at)

  -- where variables are kept for a place they are those in scope there
  pub HasInScope-kept : (place : ℕ) (variables : List VarId) → place < length body.lines
      → slice_get rows place ≡ Some (Some variables) → HasInScope body place variables
  HasInScope-kept place variables within at =
      (HasInScope-taken body form keeps.places keeps.taken place variables within).1 (kept_at place (Some variables) at)

  -- and where nothing is kept no path leads there
  pub IsUnreached-kept : (place : ℕ) → place < length body.lines → slice_get rows place ≡ Some None
      → IsUnreached body place
  IsUnreached-kept place within at =
      (IsUnreached-taken body form keeps.places keeps.taken place within).1
      (none (place_scope (slice_get keeps.places place)) (kept_at place None at))
    where
      none : (found : Option Scope) → variables_in found ≡ None → found ≡ None
      none None is = refl
      none (Some scope) is = absurd (cc)
