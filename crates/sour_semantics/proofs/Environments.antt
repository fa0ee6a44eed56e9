-- Environments and their scopes.
use Rattle.std.proofs.Common.{◌≡◌, ◌-◌, ℕ, zero, suc, List, [], ◌∷◌, ◌++◌, true, false, None, Some, set, map, length, replicate, refl, ap, ◌∙◌, arith}
use Rattle.std.specs.Prelude.{is_some}
use Rattle.std.proofs.lemmas.List.{map-set, length-set}
use Rattle.sour_syntax.specs.declared.literal.Value.{Value}
use Rattle.sour_syntax.specs.declared.literal.VarId.{VarId}
use Rattle.sour_syntax.specs.BodyView.{BodyView}
use Rattle.sour_syntax.specs.Scopes.{Scope, first_scope}
use Rattle.sour_syntax.specs.Targets.{scope_of_names}
use Rattle.sour_syntax.proofs.NamedScopes.{with_names, with_names-set, with_names-none}
use Rattle.sour_semantics.specs.State.{Environment}
use Rattle.sour_semantics.specs.Step.{first_environment, bound}
use Rattle.sour_semantics.specs.Validity.{scope_of}

-- no variable of a row without values is in scope
scope_of-none : (count : ℕ) → scope_of (replicate count None) ≡ replicate count false
scope_of-none zero = refl
scope_of-none (suc count) = ap (λ (scope : Scope). false ∷ scope) (scope_of-none count)

-- a variable is in scope for each value with which a frame begins
scope_of-values : (values : List Value) (count : ℕ)
    → scope_of (map Some values ++ replicate count None) ≡ replicate (length values) true ++ replicate count false
scope_of-values [] count = scope_of-none count
scope_of-values (value ∷ values) count = ap (λ (scope : Scope). true ∷ scope) (scope_of-values values count)

-- a frame begins with the scope of the parameters
pub scope_of-first : (body : BodyView) (values : List Value) → length values ≡ body.parameters
    → scope_of (first_environment body values) ≡ first_scope body
scope_of-first body values same =
    scope_of-values values (length body.variables - length values)
    ∙ ap (λ (count : ℕ). replicate count true ++ replicate (length body.variables - count) false) same

-- a row has as many places when some variables get values
pub length-bound : (row : Environment) (names : List VarId) (values : List Value) → length (bound row names values) ≡ length row
length-bound row [] values = refl
length-bound row (x ∷ names) [] = refl
length-bound row (x ∷ names) (value ∷ values) =
    length-bound (set row x.0 (Some value)) names values ∙ length-set row x.0 (Some value)

-- a row in which some variables get values has them in scope too
scope_of-bound : (row : Environment) (names : List VarId) (values : List Value) → length values ≡ length names
    → scope_of (bound row names values) ≡ with_names (scope_of row) names
scope_of-bound row [] values same = refl
scope_of-bound row (x ∷ names) [] same = absurd (omega (arith, same))
scope_of-bound row (x ∷ names) (value ∷ values) same =
    scope_of-bound (set row x.0 (Some value)) names values (omega (arith, same))
    ∙ ap (λ (scope : Scope). with_names scope names) (map-set is_some row x.0 (Some value))
    ∙ with_names-set (scope_of row) x.0 names

-- where no other variable has a value, no other is in scope
pub scope_of-landed : (count : ℕ) (names : List VarId) (values : List Value) → length values ≡ length names
    → scope_of (bound (replicate count None) names values) ≡ scope_of_names count names
scope_of-landed count names values same =
    scope_of-bound (replicate count None) names values same
    ∙ ap (λ (scope : Scope). with_names scope names) (scope_of-none count)
    ∙ with_names-none count names
