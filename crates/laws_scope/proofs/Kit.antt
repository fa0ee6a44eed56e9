-- When no rule is broken: of lists that are joined, and of tests.
use Rattle.std.proofs.Common.{◌≡◌, ◌≢◌, ◌↔◌, ◌+◌, ◌<◌, ℕ, suc, Bool, true, false, not, cond, ◌||◌, List, [], ◌∷◌, ◌++◌, Some, Contains, length, map, refl, sym, ap, subst, arith}
use Rattle.std.specs.List.{AllByRecursion, AllZip, flat_map, slice_get}
use Rattle.std.specs.Str.{bytes_eq}
use Rattle.std.proofs.lemmas.Bool.{or_parts, or_from}
use Rattle.std.proofs.lemmas.Map.Views.{Contains-from_any}
use Rattle.std.proofs.lemmas.Slice.Eq.{bytes_eq-Decides}
use Rattle.sour_syntax.specs.Program.{NamesDiffer}
use Rattle.sour_syntax.proofs.Everywhere.{AllByRecursion-contains}
use Rattle.sour_syntax.proofs.FirstPlaces.{first_place-slice_get}
use Rattle.sour_checked.specs.Texts.{number_in}
use Rattle.sour_checked.specs.Names.{broken_if, is_among, repeated, repeated_on, unknown_on, unknown_each}

-- one after the other
pub iff_then : {A B C : Type 0} → (A ↔ B) → (B ↔ C) → A ↔ C
iff_then one other = ((λ a. other.0 (one.0 a)), λ c. one.1 (other.1 c))

-- the other way round
pub iff_back : {A B : Type 0} → (A ↔ B) → B ↔ A
iff_back same = (same.1, same.0)

-- itself
pub iff_same : {A : Type 0} → A ↔ A
iff_same = ((λ is. is), λ is. is)

-- side by side
pub iff_both : {A B C D : Type 0} → (A ↔ C) → (B ↔ D) → (A × B) ↔ (C × D)
iff_both one other = ((λ ab. (one.0 ab.0, other.0 ab.1)), λ cd. (one.1 cd.0, other.1 cd.1))

-- three side by side
pub iff_three : {A B C D E F : Type 0} → (A ↔ D) → (B ↔ E) → (C ↔ F) → (A × B × C) ↔ (D × E × F)
iff_three one other last = (
  (λ all. (one.0 all.0, other.0 all.1, last.0 all.2)),
  λ all.
      (one.1 all.0, other.1 all.1, last.1 all.2),
)

-- of each
pub iff_each : {X : Type 0} (P Q : X → Type 0) → ((x : X) → P x ↔ Q x) → (xs : List X) → AllByRecursion P xs
    ↔ AllByRecursion Q xs
iff_each P Q same [] = ((λ all. tt), λ all. tt)
iff_each P Q same (x ∷ xs) =
    iff_both (same x) (iff_each P Q same xs)

-- of each of which something else holds
pub iff_given : {X : Type 0} (W P Q : X → Type 0) → ((x : X) → W x → P x ↔ Q x) → (xs : List X) → AllByRecursion W xs
    → AllByRecursion P xs ↔ AllByRecursion Q xs
iff_given W P Q same [] given = ((λ all. tt), λ all. tt)
iff_given W P Q same (x ∷ xs) given = iff_both (same x given.0) (iff_given W P Q same xs given.1)

-- of two lists side by side, of whose elements something holds
pub iff_zip : {X Y : Type 0} (P : X → Type 0) (Q : Y → Type 0) (R : X → Y → Type 0)
    → ((x : X) (y : Y) → R x y → P x ↔ Q y) → (xs : List X) (ys : List Y) → AllZip R xs ys
    → AllByRecursion P xs ↔ AllByRecursion Q ys
iff_zip P Q R same [] [] each = ((λ all. tt), λ all. tt)
iff_zip P Q R same [] (y ∷ ys) each = absurd each
iff_zip P Q R same (x ∷ xs) [] each = absurd each
iff_zip P Q R same (x ∷ xs) (y ∷ ys) each = iff_both (same x y each.0) (iff_zip P Q R same xs ys each.1)

-- of what is made of each
pub iff_map : {X Y : Type 0} (P : Y → Type 0) (f : X → Y) (xs : List X) → AllByRecursion P (map f xs)
    ↔ AllByRecursion (λ x. P (f x)) xs
iff_map P f [] = ((λ all. tt), λ all. tt)
iff_map P f (x ∷ xs) = iff_both iff_same (iff_map P f xs)

-- of two lists one after the other
pub iff_append : {X : Type 0} (P : X → Type 0) (xs ys : List X) → AllByRecursion P (xs ++ ys)
    ↔ (AllByRecursion P xs × AllByRecursion P ys)
iff_append P [] ys = ((λ all. (tt, all)), λ both. both.1)
iff_append P (x ∷ xs) ys =
    let rest = iff_append P xs ys in
    ((λ all. ((all.0, (rest.0 all.1).0), (rest.0 all.1).1)), λ both. (both.0.0, rest.1 (both.0.1, both.1)))

-- joined lists are empty where both are
pub none_both : {X : Type 0} (xs ys : List X) → (xs ++ ys ≡ []) ↔ ((xs ≡ []) × (ys ≡ []))
none_both [] ys = ((λ is. (refl, is)), λ both. both.1)
none_both (x ∷ xs) ys = ((λ is. absurd (cc)), λ both. let first = both.0 in absurd (cc))

-- and three where all are
pub none_three : {X : Type 0} (xs ys zs : List X) → (xs ++ ys ++ zs ≡ []) ↔ ((xs ≡ []) × (ys ≡ []) × (zs ≡ []))
none_three xs ys zs =
    let last = none_both (xs ++ ys) zs in
    let first = none_both xs ys in (
      (λ is. let parts = last.0 is in let both = first.0 parts.0 in (both.0, both.1, parts.1)),
      λ all. last.1 (first.1 (all.0, all.1), all.2),
    )

-- and many where each is
pub none_each : {X Y : Type 0} (f : X → List Y) (xs : List X) → (flat_map f xs ≡ []) ↔ AllByRecursion (λ x. f x ≡ []) xs
none_each f [] = ((λ is. tt), λ all. refl)
none_each f (x ∷ xs) = iff_then (none_both (f x) (flat_map f xs)) (iff_both iff_same (none_each f xs))

-- a rule isn't broken where the test fails
pub none_if : (test : Bool) (kind line : ℕ) → (broken_if test kind line ≡ []) ↔ (test ≡ false)
none_if true kind line = ((λ is. absurd (cc)), λ is. absurd (cc))
none_if false kind line = ((λ is. refl), λ is. refl)

-- nor where the contrary holds
pub none_if_not : (test : Bool) (kind line : ℕ) → (broken_if (not test) kind line ≡ []) ↔ (test ≡ true)
none_if_not true kind line = ((λ is. refl), λ is. refl)
none_if_not false kind line = ((λ is. absurd (cc)), λ is. absurd (cc))

-- neither of two tests holds
neither_test : (a b : Bool) → ((a || b) ≡ false) ↔ ((a ≡ false) × (b ≡ false))
neither_test a b = (or_parts a b, λ both. or_from a b both.0 both.1)

-- a test fails where what it decides isn't so
fails_if : (A : Type 0) (test : Bool) → (test ≡ true → A) → (A → test ≡ true) → (test ≡ false) ↔ (A → ⊥)
fails_if A true says is_so = ((λ is. absurd (cc)), λ not_so. absurd (not_so (says refl)))
fails_if A false says is_so = ((λ is a. let so = is_so a in absurd (cc)), λ not_so. refl)

-- a name isn't among those that differ from it
pub among_not : (names : List (List ℕ)) (name : List ℕ) → (is_among names name ≡ false)
    ↔ AllByRecursion (λ other. other ≢ name) names
among_not [] name = ((λ is. tt), λ all. refl)
among_not (first ∷ names) name =
    let here : (bytes_eq name first ≡ false) ↔ (first ≢ name) =
    fails_if (first ≡ name) (bytes_eq name first) (λ is. sym ((bytes_eq-Decides name first).0 is))
    (λ same. (bytes_eq-Decides name first).1 (sym same)) in
    iff_then (neither_test (bytes_eq name first) (is_among names name)) (iff_both here (among_not names name))

-- a name that is among others has a number below their count
pub among_step : (test any : Bool) (place count : ℕ) → (any ≡ true) ↔ (place < count) → ((test || any) ≡ true)
    ↔ (cond (not test) (1 + place) 0 < suc count)
among_step true any place count rest = ((λ is. omega arith), λ is. refl)
among_step false any place count rest = ((λ is. let below = rest.0 is in omega arith), λ is. rest.1 (omega arith))

pub among_number : (names : List (List ℕ)) (name : List ℕ) → (is_among names name ≡ true)
    ↔ (number_in names name < length names)
among_number [] name = ((λ is. absurd (cc)), λ is. absurd (omega arith))
among_number (first ∷ names) name = among_step (bytes_eq name first) (is_among names name) (number_in names name)
    (length names) (among_number names name)

-- a name is one of others where it is among them
among_or : (names : List (List ℕ)) (name : List ℕ) (test : Bool) → is_among names name ≡ test → Contains names name
    → test ≡ true
among_or names name true is has = refl
among_or names name false is has = absurd
    (AllByRecursion-contains (λ other. other ≢ name) names name has ((among_not names name).0 is) refl)

pub among_contains : (names : List (List ℕ)) (name : List ℕ) → (is_among names name ≡ true) ↔ Contains names name
among_contains names name = (
  Contains-from_any (λ one other. (bytes_eq-Decides one other).0) name names,
  λ has. among_or names name _ refl has,
)

-- and then it stands at its number
pub number_found : (names : List (List ℕ)) (name : List ℕ) → number_in names name < length names
    → slice_get names (number_in names name) ≡ Some name
number_found names name within =
    first_place-slice_get names name ((among_contains names name).0 ((among_number names name).1 within))

-- none of these is among those before
abbrev pub AreNew : {X : Type 0} → (X → List ℕ) → List (List ℕ) → List X → Type 0
AreNew named before xs = AllByRecursion (λ x. is_among before (named x) ≡ false) xs

-- none is among those before and one more
new_more : {X : Type 0} (named : X → List ℕ) (name : List ℕ) (before : List (List ℕ)) (xs : List X)
    → AreNew named (name ∷ before) xs ↔ (AllByRecursion (λ x. named x ≢ name) xs × AreNew named before xs)
new_more named name before [] = ((λ all. (tt, tt)), λ all. tt)
new_more named name before (x ∷ xs) =
    let test : (bytes_eq (named x) name ≡ false) ↔ (named x ≢ name) =
    fails_if (named x ≡ name) (bytes_eq (named x) name) (bytes_eq-Decides (named x) name).0
    (bytes_eq-Decides (named x) name).1 in
    let here = iff_then (neither_test (bytes_eq (named x) name) (is_among before (named x)))
    (iff_both test iff_same) in
    let rest = new_more named name before xs in (
      (λ all. (((here.0 all.0).0, (rest.0 all.1).0), ((here.0 all.0).1, (rest.0 all.1).1))),
      λ both. (here.1 (both.0.0, both.1.0), rest.1 (both.0.1, both.1.1)),
    )

-- none stands twice where the names differ, and none of them stands before
pub repeated_none : {X : Type 0} (named : X → List ℕ) (line_of : X → ℕ) (before : List (List ℕ)) (xs : List X)
    → (repeated named line_of before xs ≡ []) ↔ (NamesDiffer (map named xs) × AreNew named before xs)
repeated_none named line_of before [] = ((λ is. (tt, tt)), λ all. refl)
repeated_none named line_of before (x ∷ xs) =
    let rest = repeated_none named line_of (named x ∷ before) xs in
    let first = none_if (is_among before (named x)) 1 (line_of x) in
    let both = none_both (broken_if (is_among before (named x)) 1 (line_of x))
    (repeated named line_of (named x ∷ before) xs) in
    let mapped = iff_map (λ other. other ≢ named x) named xs in
    let more = new_more named (named x) before xs in (
      (λ is.
          let parts = both.0 is in
          let others = rest.0 parts.1 in
          let new = more.0 others.1 in
          ((mapped.1 new.0, others.0), (first.0 parts.0, new.1))),
      λ all. both.1 (first.1 all.1.0, rest.1 (all.0.1, more.1 (mapped.0 all.0.0, all.1.1))),
    )

-- nothing stands before the first
none_before : {X : Type 0} (named : X → List ℕ) (xs : List X) → AreNew named [] xs
none_before named [] = tt
none_before named (x ∷ xs) = (refl, none_before named xs)

-- names that differ
pub differ_none : {X : Type 0} (named : X → List ℕ) (line_of : X → ℕ) (xs : List X)
    → (repeated named line_of [] xs ≡ []) ↔ NamesDiffer (map named xs)
differ_none named line_of xs =
    let both = repeated_none named line_of [] xs in
    ((λ is. (both.0 is).0), λ differ. both.1 (differ, none_before named xs))

-- themselves
map_itself : (names : List (List ℕ)) → map (λ (name : List ℕ). name) names ≡ names
map_itself [] = refl
map_itself (name ∷ names) = ap (λ others. name ∷ others) (map_itself names)

pub differ_on : (line : ℕ) (names : List (List ℕ)) → (repeated_on line names ≡ []) ↔ NamesDiffer names
differ_on line names =
    let P : List (List ℕ) → Type 0 = NamesDiffer in
    let law = differ_none (λ (name : List ℕ). name) (λ (name : List ℕ). line) names in
    ((λ is. subst P (map_itself names) (law.0 is)), λ differ. law.1 (subst P (sym (map_itself names)) differ))

-- each name is among others
abbrev pub AreAmong : List (List ℕ) → List (List ℕ) → Type 0
AreAmong names some = AllByRecursion (λ name. is_among names name ≡ true) some

pub known_each : (line : ℕ) (names some : List (List ℕ)) → (unknown_each line names some ≡ []) ↔ AreAmong names some
known_each line names some =
    iff_then (none_each (unknown_on line names) some)
    (iff_each (λ name. unknown_on line names name ≡ []) (λ name. is_among names name ≡ true)
    (λ name. none_if_not (is_among names name) 2 line) some)
