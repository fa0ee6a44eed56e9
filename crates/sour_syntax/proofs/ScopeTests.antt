-- What the tests of a scope say.
use Rattle.std.proofs.Common.{◌≡◌, ℕ, Bool, true, false, List, [], ◌∷◌, Option, None, Some, Ok, Err, refl, sym, ap, ◌∙◌}
use Rattle.std.specs.Prelude.{slice_get}
use Rattle.std.specs.Bool.{Decides}
use Rattle.std.specs.List.{AllByRecursion, list_all}
use Rattle.std.proofs.lemmas.Bool.Decides.{Decides-and}
use Rattle.sour_syntax.specs.declared.literal.VarId.{VarId}
use Rattle.sour_syntax.specs.declared.body_fault.BodyFault.TheVariants.{NotInScope, InScope, ScopesDiffer}
use Rattle.sour_syntax.specs.declared.instruction.Instr.{Instr}
use Rattle.sour_syntax.specs.BodyView.{BodyView}
use Rattle.sour_syntax.specs.Scopes.{Scope, needed, declared_by, scope_after, IsInScope, IsOutOfScope, IsFine}
use Rattle.sour_syntax.specs.Taking.{PlaceState, says, all_in, none_in, same_scope, scope_names, come, come_each, take_instr}

-- a test of each
list_all-Decides : {X : Type 0} (test : X → Bool) (P : X → Type 0) → ((x : X) → Decides (test x) (P x)) → (xs : List X)
    → Decides (list_all test xs) (AllByRecursion P xs)
list_all-Decides test P each [] = ((λ is. tt), λ all. refl)
list_all-Decides test P each (x ∷ xs) =
    Decides-and (test x) (list_all test xs) (each x) (list_all-Decides test P each xs)

-- a scope says this of a variable
pub says-Decides : (wanted : Bool) (said : Option Bool) → Decides (says wanted said) (said ≡ Some wanted)
says-Decides wanted None = ((λ is. absurd (cc)), λ is. absurd (cc))
says-Decides true (Some true) = ((λ is. refl), λ is. refl)
says-Decides true (Some false) = ((λ is. absurd (cc)), λ is. absurd (cc))
says-Decides false (Some true) = ((λ is. absurd (cc)), λ is. absurd (cc))
says-Decides false (Some false) = ((λ is. refl), λ is. refl)

-- two scopes are the same
pub same_scope-Decides : (scope other : Scope) → Decides (same_scope scope other) (scope ≡ other)
same_scope-Decides [] [] = ((λ is. refl), λ is. refl)
same_scope-Decides [] (said ∷ other) = ((λ is. absurd (cc)), λ is. absurd (cc))
same_scope-Decides (wanted ∷ scope) [] = ((λ is. absurd (cc)), λ is. absurd (cc))
same_scope-Decides (wanted ∷ scope) (said ∷ other) =
    let both = Decides-and (says wanted (Some said)) (same_scope scope other) (says-Decides wanted (Some said))
    (same_scope-Decides scope other) in (
      (λ is.
          let first : said ≡ wanted = let one = (both.0 is).0 in cc in
          ap (λ (b : Bool). b ∷ scope) (sym first) ∙ ap (λ (rest : Scope). said ∷ rest) (both.0 is).1),
      λ is.
          let first : Some said ≡ Some wanted = cc in
          let rest : scope ≡ other = cc in both.1 (first, rest),
    )

-- all of these variables are in a scope
pub all_in-Decides : (scope : Scope) (variables : List VarId)
    → Decides (all_in scope variables) (AllByRecursion (IsInScope scope) variables)
all_in-Decides scope variables =
    list_all-Decides (λ (x : VarId). says true (slice_get scope x.0)) (IsInScope scope)
    (λ x. says-Decides true (slice_get scope x.0)) variables

-- none of them is
pub none_in-Decides : (scope : Scope) (variables : List VarId)
    → Decides (none_in scope variables) (AllByRecursion (IsOutOfScope scope) variables)
none_in-Decides scope variables =
    list_all-Decides (λ (x : VarId). says false (slice_get scope x.0)) (IsOutOfScope scope)
    (λ x. says-Decides false (slice_get scope x.0)) variables

-- a test fails where what it decides isn't so
decided_false : (test : Bool) (P : Type 0) → Decides test P → (P → ⊥) → test ≡ false
decided_false true P decides other = absurd (other (decides.0 refl))
decided_false false P decides other = refl

-- a scope comes to a place that has the same, or another one
pub come-same : (names : List (List ℕ)) (from place : ℕ) (scope other : Scope) (places : List PlaceState)
    → other ≡ scope → come names from scope places place (Some other) ≡ Ok places
come-same names from place scope other places same =
    let test = (same_scope-Decides other scope).1 same in simp test

pub come-differs : (names : List (List ℕ)) (from place : ℕ) (scope other : Scope) (places : List PlaceState)
    → (other ≡ scope → ⊥) → come names from scope places place (Some other)
    ≡ Err (ScopesDiffer from (scope_names names other) (scope_names names scope))
come-differs names from place scope other places differ =
    let test = decided_false _ _ (same_scope-Decides other scope) differ in simp test

module _ (body : BodyView) (place : ℕ) (instr : Instr) (scope : Scope) (following : List (List ℕ))
    (places : List PlaceState) where
  -- an instruction that lacks a variable that it needs has that fault
  pub take_instr-needs : (AllByRecursion (IsInScope scope) (needed instr) → ⊥)
      → take_instr body place instr scope following places ≡ Err (NotInScope place)
  take_instr-needs other =
      let test = decided_false _ _ (all_in-Decides scope (needed instr)) other in simp test

  -- else one that declares a variable that is in scope has that fault
  pub take_instr-declares : AllByRecursion (IsInScope scope) (needed instr)
      → (AllByRecursion (IsOutOfScope scope) (declared_by instr) → ⊥)
      → take_instr body place instr scope following places ≡ Err (InScope place)
  take_instr-declares needs other =
      let first = (all_in-Decides scope (needed instr)).1 needs in
      let second = decided_false _ _ (none_in-Decides scope (declared_by instr)) other in simp (first, second)

  -- and that behind one that may stand there comes to the labels that may follow
  pub take_instr-fine : IsFine instr scope
      → take_instr body place instr scope following places ≡ come_each body place
      (scope_after instr scope) following places
  take_instr-fine fine =
      let first = (all_in-Decides scope (needed instr)).1 fine.needs in
      let second = (none_in-Decides scope (declared_by instr)).1 fine.declares in simp (first, second)
