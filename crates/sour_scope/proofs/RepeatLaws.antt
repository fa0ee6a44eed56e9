-- Names that are looked at one by one: no two of them are the same so far, or two are.
use Rattle.std.proofs.Common.{◌≡◌, ◌≢◌, ◌+◌, ◌<◌, ℕ, Bool, true, false, List, [], ◌∷◌, ◌++◌, length, map, take, get_or, IsTrue, ◌↔◌, sym, ap, ◌∙◌, subst}
use Rattle.std.specs.Bool.{OnTrue}
use Rattle.std.specs.List.{AllByRecursion}
use Rattle.std.proofs.lemmas.List.{map-append}
use Rattle.sour_syntax.specs.Program.{NamesDiffer}
use Rattle.sour_syntax.proofs.Everywhere.{take_next}
use Rattle.laws_scope.proofs.NameLaws.{NamesDiffer-push, new_named}

module _ {N : Type 0} (named : N → List ℕ) (things : List N) (place : ℕ) (thing : N) (seen : List (List ℕ)) (name : List ℕ) (test : Bool) where
  -- a name that differs from those seen is one more of them
  pub seen_more : (after : List (List ℕ)) → seen ≡ map named (take place things) → NamesDiffer (map named (take place things))
      → place < length things → thing ≡ get_or things place thing → name ≡ named thing → test ≡ true
      → (IsTrue test ↔ AllByRecursion (λ other. other ≢ name) seen) → OnTrue test (after ≡ seen ++ name ∷ [])
      → (after ≡ map named (take (place + 1) things)) × NamesDiffer (map named (take (place + 1) things))
  seen_more after seen_are differ within is same new whether put =
      let more : map named (take (place + 1) things) ≡ map named (take place things) ++ named thing ∷ [] =
      ap (map named) (take_next things place thing within is) ∙ map-append named (take place things) (thing ∷ []) in
      let other : AllByRecursion (λ other. other ≢ named thing) (map named (take place things)) =
      rw (sym seen_are, sym same) (whether.0 new) in
      let P : List (List ℕ) → Type 0 = NamesDiffer in
      let was : after ≡ seen ++ name ∷ [] = subst (λ t. OnTrue t (after ≡ seen ++ name ∷ [])) new put in (
        was ∙ ap (λ zs. zs ++ name ∷ []) seen_are ∙ ap (λ x. map named (take place things) ++ x ∷ []) same ∙ sym more,
        subst P (sym more) (NamesDiffer-push (map named (take place things)) (named thing) differ other),
      )

  -- a name that was seen stands twice
  pub seen_twice : seen ≡ map named (take place things) → place < length things → thing ≡ get_or things place thing
      → name ≡ named thing → test ≡ false → (IsTrue test ↔ AllByRecursion (λ other. other ≢ name) seen)
      → NamesDiffer (map named things) → ⊥
  seen_twice seen_are within is same old whether differ =
      let new : test ≡ true = new_named named things place thing seen test seen_are within is
      (subst (λ x. IsTrue test ↔ AllByRecursion (λ other. other ≢ x) seen) same whether) differ in absurd (cc)
