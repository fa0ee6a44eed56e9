-- The rules that items break which are gone through in order: the first one that is broken.
use Rattle.std.proofs.Common.{◌≡◌, ◌+◌, ◌<◌, ℕ, List, [], ◌∷◌, ◌++◌, Option, Some, length, get_or, take, drop, append_assoc, sym, ap, ◌∙◌, subst}
use Rattle.std.specs.Iterator.{Yields}
use Rattle.std.proofs.lemmas.Iterator.{YieldsList}
use Rattle.std.proofs.lemmas.Iterator.Consumers.{YieldsList-turn, YieldsList-so_far}
use Rattle.std.proofs.lemmas.List.{map-id, take-append-drop}
use Rattle.sour_syntax.proofs.Everywhere.{take_next}
use Rattle.sour_checked.specs.Names.{Broken}
use Rattle.laws_scope.specs.TextOrder.{first_broken, each_in_order}
use Rattle.laws_scope.proofs.InOrder.{in_order-first}
use Rattle.sour_scope.specs.declared.fault.ScopeFault.{ScopeFault}
use Rattle.sour_scope.specs.Told.{Tells}
use Rattle.sour_scope.proofs.FaultLaws.{Tells-weaker}

module _ {X : Type 0} (broken : ℕ → X → List Broken) (all front : List X) (x : X) (within : length front < length all)
    (is : x ≡ get_or all (length front) x) (taken : front ≡ take (length front) all) where
  -- the list: the items before the next one, it, and the others
  parts : front ++ (x ∷ drop (length front + 1) all) ≡ all
  parts =
      sym (append_assoc front (x ∷ []) (drop (length front + 1) all))
      ∙ ap (λ (ys : List X). (ys ++ x ∷ []) ++ drop (length front + 1) all) taken
      ∙ ap (λ (ys : List X). ys ++ drop (length front + 1) all) (sym (take_next all (length front) x within is))
      ∙ take-append-drop (length front + 1) all

  -- where none of the items before breaks a rule, the first that the next one breaks is the first of all
  pub first_at : each_in_order broken 0 front ≡ [] → (told : ScopeFault)
      → Tells (λ fault. first_broken (broken (length front) x) ≡ Some fault) told
      → Tells (λ fault. first_broken (each_in_order broken 0 all) ≡ Some fault) told
  first_at none told =
      Tells-weaker (λ fault. first_broken (broken (length front) x) ≡ Some fault)
      (λ fault. first_broken (each_in_order broken 0 all) ≡ Some fault)
      (λ fault here. subst (λ (ys : List X). first_broken (each_in_order broken 0 ys) ≡ Some fault) parts
      (in_order-first broken front (drop (length front + 1) all) x fault none here)) told

-- a loop over what an iterator gives, which gave these items so far, of which none breaks a rule
module _ {S X : Type 0} {steps : S → Option X → S → Type 0} {s : S} (broken : ℕ → X → List Broken) (all : List X)
    (gives : YieldsList steps (λ x. x) s all) (front : List X) (t : S) (so_far : Yields steps s front t) where
  -- the first rule that the next item breaks is the first of all
  pub told_at : (x : X) (next : Option X) (u : S) → next ≡ Some x → steps t next u → each_in_order broken 0 front ≡ []
      → (told : ScopeFault) → Tells (λ fault. first_broken (broken (length front) x) ≡ Some fault) told
      → Tells (λ fault. first_broken (each_in_order broken 0 all) ≡ Some fault) told
  told_at x next u is turn =
      let here = YieldsList-turn gives front t so_far next u x is turn in
      first_at broken all front x here.0 here.1 (sym (map-id front) ∙ YieldsList-so_far gives front t so_far)
