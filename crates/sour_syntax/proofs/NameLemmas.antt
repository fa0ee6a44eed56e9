-- The number that a name gets in a set of names.
use Rattle.std.proofs.Common.{◌≡◌, ◌≢◌, ℕ, suc, ◌+◌, Bool, true, false, cond, not, ◌||◌, List, [], ◌∷◌, ◌++◌, map, Some, length, refl, sym, ap, subst, inl, inr, arith}
use Rattle.std.specs.List.{AllByRecursion, list_any, position_or_len, slice_get}
use Rattle.std.proofs.lemmas.List.{map-append}
use Rattle.std.specs.Str.{bytes_eq}
use Rattle.sour_syntax.specs.Names.{Numbers}
use Rattle.std.proofs.lemmas.Slice.Eq.{bytes_eq-Decides}

-- a name is found at its first place, or is none of the names
abbrev pub Located : List (List ℕ) → List ℕ → ℕ → Bool → Type 0
Located names name place true = slice_get names place ≡ Some name
Located names name place false = AllByRecursion (λ other. other ≢ name) names × (place ≡ length names)

-- two names differ where the test whether they are the same fails
pub differs : (a b : List ℕ) → bytes_eq a b ≡ false → b ≢ a
differs a b other same =
    let equal : bytes_eq a b ≡ true = (bytes_eq-Decides a b).1 (sym same) in cc

-- with one more name in front, the place of a name is the first, or one further than among the others
located_first : (first : List ℕ) (names : List (List ℕ)) (name : List ℕ) (place : ℕ) (any test : Bool)
    → bytes_eq name first ≡ test → Located names name place any
    → Located (first ∷ names) name (cond (not test) (1 + place) 0) (test || any)
located_first first names name place any true is found = ap Some (sym ((bytes_eq-Decides name first).0 is))
located_first first names name place true false is found =
    let next : 1 + place ≡ suc place = omega arith in
    let P : ℕ → Type 0 = λ at. slice_get (first ∷ names) at ≡ Some name in
    subst P (sym next) found
located_first first names name place false false is found =
    ((differs name first is, found.0), omega (arith, found.1))

-- the first key with a name tells its place; where there is none, the name is none of the names
pub located : {N : Type 0} (text : N → List ℕ) (keys : List N) (name : List ℕ)
    → Located (map text keys) name (position_or_len (λ key. bytes_eq name (text key)) keys) (list_any (λ key. bytes_eq name (text key)) keys)
located text [] name = (tt, refl)
located text (key ∷ keys) name = located_first (text key) (map text keys) name _ _ (bytes_eq name (text key)) refl (located text keys name)

-- a name that is there keeps its number, and one that isn't gets the next, behind the others
by_cases : {N : Type 0} (text : N → List ℕ) (keys : List N) (key : N) (place : ℕ) (any : Bool)
    → Located (map text keys) (text key) place any
    → Numbers (map text keys) (map text (cond any keys (keys ++ key ∷ []))) (text key) (record { 0 = place })
by_cases text keys key place true found = inl (refl, found)
by_cases text keys key place false (absent, last) = inr (absent, map-append text keys (key ∷ []), last)

-- a name that is put into a set of names gets its number
pub numbered : {N : Type 0} (text : N → List ℕ) (keys after : List N) (key : N) (place : ℕ)
    → place ≡ position_or_len (λ other. bytes_eq (text key) (text other)) keys
    → after ≡ cond (list_any (λ other. bytes_eq (text key) (text other)) keys) keys (keys ++ key ∷ [])
    → Numbers (map text keys) (map text after) (text key) (record { 0 = place })
numbered text keys after key place at is =
    let put : List _ = cond (list_any (λ other. bytes_eq (text key) (text other)) keys) keys (keys ++ key ∷ []) in
    subst (λ others. Numbers (map text keys) (map text others) (text key) (record { 0 = place })) (sym is)
    (subst (λ n. Numbers (map text keys) (map text put) (text key) (record { 0 = n })) (sym at)
    (by_cases text keys key _ _ (located text keys (text key))))
