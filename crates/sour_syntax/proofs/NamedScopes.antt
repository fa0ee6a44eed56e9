-- Scopes into which variables come.
use Rattle.std.proofs.Common.{◌≡◌, ℕ, zero, suc, List, [], ◌∷◌, true, false, Some, set, length, replicate, refl, sym, ap, ◌∙◌}
use Rattle.std.specs.List.{slice_get}
use Rattle.std.proofs.lemmas.List.{length-replicate, length-set, set-get_or}
use Rattle.std.proofs.lemmas.Option.{get_or_from_slice_get}
use Rattle.sour_syntax.specs.declared.literal.VarId.{VarId}
use Rattle.sour_syntax.specs.Scopes.{Scope}
use Rattle.sour_syntax.specs.Targets.{scope_of_names}

-- a scope stays the same where a variable comes into it that is there already
pub set-same : (scope : Scope) (place : ℕ) → slice_get scope place ≡ Some true → set scope place true ≡ scope
set-same scope place found =
    ap (set scope place) (sym (get_or_from_slice_get scope place true true found)) ∙ set-get_or scope place true

-- of two variables that come into a scope it doesn't matter which is first
pub set-swap : (scope : Scope) (x y : ℕ) → set (set scope x true) y true ≡ set (set scope y true) x true
set-swap [] x y = refl
set-swap (first ∷ scope) zero zero = refl
set-swap (first ∷ scope) zero (suc y) = refl
set-swap (first ∷ scope) (suc x) zero = refl
set-swap (first ∷ scope) (suc x) (suc y) = ap (λ (others : Scope). first ∷ others) (set-swap scope x y)

-- a scope with these variables too
abbrev pub with_names : Scope → List VarId → Scope
with_names scope [] = scope
with_names scope (x ∷ xs) = set (with_names scope xs) x.0 true

-- a variable may come into a scope before some others or after them
pub with_names-set : (scope : Scope) (x : ℕ) (xs : List VarId) → with_names (set scope x true) xs ≡ set (with_names scope xs) x true
with_names-set scope x [] = refl
with_names-set scope x (y ∷ xs) =
    ap (λ (other : Scope). set other y.0 true) (with_names-set scope x xs) ∙ set-swap (with_names scope xs) x y.0

-- the scope of some variables is the empty one with them
pub with_names-none : (count : ℕ) (xs : List VarId) → with_names (replicate count false) xs ≡ scope_of_names count xs
with_names-none count [] = refl
with_names-none count (x ∷ xs) = ap (λ (scope : Scope). set scope x.0 true) (with_names-none count xs)

-- it says of each variable whether it is one of them
pub length-scope_of_names : (count : ℕ) (xs : List VarId) → length (scope_of_names count xs) ≡ count
length-scope_of_names count [] = length-replicate count false
length-scope_of_names count (x ∷ xs) = length-set (scope_of_names count xs) x.0 true ∙ length-scope_of_names count xs
