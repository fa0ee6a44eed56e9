-- What holds of each element of a list, by where it stands.
use Rattle.std.proofs.Common.{◌≡◌, List, [], ◌∷◌, ◌++◌, refl, sym, ◌∙◌, subst, append_assoc}
use Rattle.std.specs.List.{AllByRecursion}
use Rattle.sour_syntax.proofs.Everywhere.{AllByRecursion-parts}

-- what holds of each element that stands between others, from some place on
each-from : {A : Type 0} (P : A → Type 0) (front xs all : List A) → all ≡ front ++ xs
    → ((before : List A) (x : A) (after : List A) → all ≡ before ++ x ∷ after → P x) → AllByRecursion P xs
each-from P front [] all same holds = tt
each-from P front (x ∷ xs) all same holds =
    (holds front x xs same, each-from P (front ++ x ∷ []) xs all (same ∙ sym (append_assoc front (x ∷ []) xs)) holds)

-- what holds of each element that stands between others holds of all
pub each-between : {A : Type 0} (P : A → Type 0) (xs : List A)
    → ((before : List A) (x : A) (after : List A) → xs ≡ before ++ x ∷ after → P x) → AllByRecursion P xs
each-between P xs holds = each-from P [] xs xs refl holds

-- what holds of all elements holds of the one between others
pub all-between : {A : Type 0} (P : A → Type 0) (xs before : List A) (x : A) (after : List A)
    → xs ≡ before ++ x ∷ after → AllByRecursion P xs → P x
all-between P xs before x after same all =
    (AllByRecursion-parts P before (x ∷ after) (subst (AllByRecursion P) same all)).1.0
