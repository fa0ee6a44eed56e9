-- The scope of some names, and a scope with and without the variable that waits.
use Rattle.std.proofs.Common.{◌≡◌, ◌≢◌, ◌+◌, ◌<◌, ℕ, zero, suc, Bool, true, false, not, cond, ◌||◌, List, [], ◌∷◌, Some, length, map, replicate, refl, sym, ap, ◌∙◌, subst, arith}
use Rattle.std.specs.Prelude.{slice_get, slice_set}
use Rattle.std.specs.List.{AllByRecursion}
use Rattle.std.specs.Str.{bytes_eq}
use Rattle.std.proofs.lemmas.Slice.Eq.{bytes_eq-Decides}
use Rattle.sour_syntax.specs.Program.{NamesDiffer}
use Rattle.sour_syntax.specs.Scopes.{Scope}
use Rattle.sour_syntax.specs.Targets.{scope_of_names}
use Rattle.sour_syntax.proofs.LabelPlaces.{tested}
use Rattle.sour_checked.specs.Numbered.{number_of}
use Rattle.sour_checked.specs.Texts.{number_in}
use Rattle.sour_checked.specs.Names.{is_among}
use Rattle.sour_checked.specs.Landing.{scope_of}

-- what is set and set back
pub set_back : (scope : Scope) (place : ℕ) (was other : Bool) → slice_get scope place ≡ Some was
    → slice_set (slice_set scope place other) place was ≡ scope
set_back [] place was other at = absurd (cc)
set_back (first ∷ scope) zero was other at = let same : first ≡ was = cc in ap (λ (b : Bool). b ∷ scope) (sym same)
set_back (first ∷ scope) (suc place) was other at = ap (λ (rest : Scope). first ∷ rest)
    (set_back scope place was other at)

-- no name
scope_of_none : (names : List (List ℕ)) → scope_of names [] ≡ replicate (length names) false
scope_of_none [] = refl
scope_of_none (name ∷ names) = ap (λ (rest : Scope). false ∷ rest) (scope_of_none names)

-- a name that is none of these marks none of them
unmarked : (name : List ℕ) (some names : List (List ℕ)) → AllByRecursion (λ other. other ≢ name) names
    → scope_of names (name ∷ some) ≡ scope_of names some
unmarked name some [] differ = refl
unmarked name some (first ∷ names) differ =
    ap (λ test. (test || is_among some first) ∷ scope_of names (name ∷ some))
    (tested first name (bytes_eq first name) refl differ.0)
    ∙ ap (λ (rest : Scope). is_among some first ∷ rest) (unmarked name some names differ.1)

-- one name more marks its place
mark_step : (name first : List ℕ) (some names : List (List ℕ)) (test : Bool) (place : ℕ) → bytes_eq name first ≡ test
    → NamesDiffer (first ∷ names)
    → (place < length names → scope_of names (name ∷ some) ≡ slice_set (scope_of names some) place true)
    → cond (not test) (1 + place) 0 < suc (length names)
    → scope_of (first ∷ names) (name ∷ some) ≡ slice_set (scope_of (first ∷ names) some)
    (cond (not test) (1 + place) 0) true
mark_step name first some names true place is differ rest within =
    let same : name ≡ first = (bytes_eq-Decides name first).0 is in
    let all = subst (λ n. AllByRecursion (λ other. other ≢ n) names) (sym same) differ.0 in
    ap (λ test. (test || is_among some first) ∷ scope_of names (name ∷ some))
    ((bytes_eq-Decides first name).1 (sym same))
    ∙ ap (λ (rest : Scope). true ∷ rest) (unmarked name some names all)
mark_step name first some names false place is differ rest within =
    let next : suc place ≡ 1 + place = omega arith in
    let other : first ≢ name = λ same. let yes_it_is = (bytes_eq-Decides name first).1 (sym same) in absurd (cc) in
    ap (λ test. (test || is_among some first) ∷ scope_of names (name ∷ some))
    (tested first name (bytes_eq first name) refl other)
    ∙ ap (λ (rest : Scope). is_among some first ∷ rest) (rest (omega arith))
    ∙ ap (λ n. slice_set (scope_of (first ∷ names) some) n true) next

mark_more : (name : List ℕ) (some names : List (List ℕ)) → NamesDiffer names → number_in names name < length names
    → scope_of names (name ∷ some) ≡ slice_set (scope_of names some) (number_in names name) true
mark_more name some [] differ within = absurd (omega arith)
mark_more name some (first ∷ names) differ within =
    mark_step name first some names (bytes_eq name first) (number_in names name) refl differ
    (mark_more name some names differ.1) within

-- the scope of names is that of their numbers
pub scope_of_numbers : (names some : List (List ℕ)) → NamesDiffer names
    → AllByRecursion (λ name. number_in names name < length names) some
    → scope_of names some ≡ scope_of_names (length names) (map (number_of names) some)
scope_of_numbers names [] differ among = scope_of_none names
scope_of_numbers names (name ∷ some) differ among =
    mark_more name some names differ among.0
    ∙ ap (λ (scope : Scope). slice_set scope (number_in names name) true) (scope_of_numbers names some differ among.1)
