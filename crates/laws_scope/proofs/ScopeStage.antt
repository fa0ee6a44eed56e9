-- What it says of a text that the second stage finds nothing.
use Rattle.std.proofs.Common.{◌≡◌, ◌↔◌, List, [], ◌∷◌, Option, None, Some, Result, Ok, Err, refl}
use Rattle.std.specs.List.{AllByRecursion}
use Rattle.sour_syntax.specs.Scopes.{HasScopes}
use Rattle.sour_raw.specs.declared.raw.RawFunction.{RawFunction}
use Rattle.sour_checked.specs.Fault.{Fault, or_else, first_fault_of}
use Rattle.sour_checked.specs.Texts.{TextVersion, text_versions, body, line_numbers}
use Rattle.sour_syntax.specs.declared.body_fault.BodyFault.{BodyFault}
use Rattle.sour_syntax.specs.Body.{IsWellFormed}
use Rattle.sour_syntax.specs.declared.place_state.PlaceState.{PlaceState}
use Rattle.sour_syntax.specs.Taking.{taken}
use Rattle.sour_checked.specs.FirstFault.{fault_in, taking_fault}
use Rattle.laws_scope.specs.Laws.{ScopesExactly}
use Rattle.laws_scope.proofs.Kit.{iff_then, iff_same, iff_both, iff_given}
use Rattle.laws_scope.proofs.WellFormed.{all_well_formed}
use Rattle.sour_syntax.proofs.TakenScopes.{HasScopes-taken, HasNoBodyFault-HasScopes}

-- neither of two faults is there
pub neither : (fault later : Option Fault) → (or_else fault later ≡ None) ↔ ((fault ≡ None) × (later ≡ None))
neither None later = ((λ is. (refl, is)), λ both. both.1)
neither (Some fault) later = ((λ is. absurd (cc)), λ both. let first = both.0 in absurd (cc))

-- none has a fault
pub no_first_fault : {X : Type 0} (fault : X → Option Fault) (xs : List X) → (first_fault_of fault xs ≡ None)
    ↔ AllByRecursion (λ x. fault x ≡ None) xs
no_first_fault fault [] = ((λ is. tt), λ all. refl)
no_first_fault fault (x ∷ xs) = iff_then (neither (fault x) (first_fault_of fault xs))
    (iff_both iff_same (no_first_fault fault xs))

module _ (functions : List RawFunction) (text : TextVersion) (form : IsWellFormed (body functions text)) where
  -- by what the taking of places gives
  by_taken : (result : Result (List PlaceState) BodyFault) → taken (body functions text) ≡ result
      → (fault_in (line_numbers text) result ≡ None) ↔ HasScopes (body functions text)
  by_taken (Ok places) is = ((λ none. HasScopes-taken (body functions text) form places is), λ scopes. refl)
  by_taken (Err fault) is = (
    (λ none. absurd (cc)),
    λ scopes. let well = (HasNoBodyFault-HasScopes (body functions text) form scopes).1 in absurd (cc),
  )

  -- a version has no fault where it has scopes
  version_scopes : (taking_fault functions text ≡ None) ↔ HasScopes (body functions text)
  version_scopes = by_taken _ refl

-- where names are right, the second stage finds nothing exactly where each version has scopes
pub scopes_exactly : ScopesExactly
scopes_exactly raw written none =
    iff_then (no_first_fault (taking_fault raw.functions) (text_versions 0 raw.functions))
    (iff_given (λ text. IsWellFormed (body raw.functions text)) (λ text. taking_fault raw.functions text ≡ None)
    (λ text. HasScopes (body raw.functions text)) (version_scopes raw.functions) (text_versions 0 raw.functions)
    (all_well_formed raw written none))
