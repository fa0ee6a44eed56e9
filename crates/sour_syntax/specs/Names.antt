-- How a name gets its number.
use Rattle.std.specs.Prelude.{◌≡◌, ◌≢◌, ◌⊎◌, ℕ, List, [], ◌∷◌, ◌++◌, Some, length, slice_get}
use Rattle.std.specs.List.{AllByRecursion}
use Rattle.sour_syntax.specs.declared.literal.VarId.{VarId}

-- the name has this number: it had it, or it is new and stands behind the others
abbrev pub Numbers : List (List ℕ) → List (List ℕ) → List ℕ → VarId → Type 0
Numbers old new name x =
    ((new ≡ old) × (slice_get old x.0 ≡ Some name))
    ⊎ (AllByRecursion (λ other. other ≢ name) old × (new ≡ old ++ name ∷ []) × (x.0 ≡ length old))
