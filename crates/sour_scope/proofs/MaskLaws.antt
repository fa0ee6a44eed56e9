-- Scopes of so many variables, into which variables come one after another.
use Rattle.std.proofs.Common.{◌≡◌, ◌+◌, ◌<◌, ℕ, zero, suc, true, false, List, [], ◌∷◌, ◌++◌, length, get_or, take, replicate, append-nil, refl, sym, ap, ◌∙◌, arith}
use Rattle.std.specs.Prelude.{slice_set}
use Rattle.std.proofs.lemmas.List.{map-append}
use Rattle.sour_syntax.specs.declared.literal.VarId.{VarId}
use Rattle.sour_syntax.specs.declared.exit.Bind.{Bind}
use Rattle.sour_syntax.specs.Exits.{bound_names}
use Rattle.sour_syntax.specs.Scopes.{Scope, members}
use Rattle.sour_syntax.specs.Targets.{scope_of_names}
use Rattle.sour_syntax.proofs.Everywhere.{take_next}
use Rattle.sour_syntax.proofs.NamedScopes.{set-swap}

-- one variable more
pub scope_of_names-push : (count : ℕ) (names : List VarId) (x : VarId)
    → scope_of_names count (names ++ x ∷ []) ≡ slice_set (scope_of_names count names) x.0 true
scope_of_names-push count [] x = refl
scope_of_names-push count (name ∷ names) x =
    ap (λ (scope : Scope). slice_set scope name.0 true) (scope_of_names-push count names x)
    ∙ set-swap (scope_of_names count names) x.0 name.0

-- the names of the first binds and of the next one
pub names_next : (binds : List Bind) (place : ℕ) (bind : Bind) → place < length binds → bind ≡ get_or binds place bind
    → bound_names (take (place + 1) binds) ≡ bound_names (take place binds) ++ bind.name ∷ []
names_next binds place bind within is =
    ap bound_names (take_next binds place bind within is)
    ∙ map-append (λ (it : Bind). it.name) (take place binds) (bind ∷ [])

-- the first variable behind some that are out of scope comes into it, or stays out of it
comes_in : (number : ℕ) (scope : Scope)
    → slice_set (replicate (suc number) false ++ scope) number true ≡ replicate number false ++ true ∷ scope
comes_in zero scope = refl
comes_in (suc number) scope = ap (λ (rest : Scope). false ∷ rest) (comes_in number scope)

stays_out : (number : ℕ) (scope : Scope) → replicate (suc number) false ++ scope ≡ replicate number false ++ false ∷ scope
stays_out zero scope = refl
stays_out (suc number) scope = ap (λ (rest : Scope). false ∷ rest) (stays_out number scope)

-- the variables in a scope give it again
members_from : (number count : ℕ) (scope : Scope) → count ≡ number + length scope
    → scope_of_names count (members number scope) ≡ replicate number false ++ scope
members_from number count [] is =
    let same : count ≡ number = omega arith in
    ap (λ n. replicate n false) same ∙ sym (append-nil (replicate number false))
members_from number count (true ∷ scope) is =
    ap (λ (s : Scope). slice_set s number true) (members_from (suc number) count scope (omega arith))
    ∙ comes_in number scope
members_from number count (false ∷ scope) is =
    members_from (suc number) count scope (omega arith) ∙ stays_out number scope

pub scope_of-members : (count : ℕ) (scope : Scope) → length scope ≡ count → scope_of_names count (members 0 scope) ≡ scope
scope_of-members count scope long = members_from 0 count scope (omega arith)
