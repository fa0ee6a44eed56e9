-- What is known of the bytes of a port. A port that tells its bytes has `Some` of them, and `None` tells nothing.
-- The words for one read and one write are those of std: `Consumes`, `Appends` and `Keeps`.
use Rattle.std.specs.Prelude.{◌≡◌, ℕ, ◌<◌, ◌≤◌, ◌↔◌, List, [], ⊤, Option, None, Some, IfSome, length, take, drop}
use Rattle.std.specs.Io.KnownBytes.{Appends}

-- a call with room gave no byte exactly where no told byte was left
abbrev pub IsEmptyAtEnd : Option (List ℕ) → ℕ → ℕ → Type 0
IsEmptyAtEnd before room count = 0 < room → IfSome before (λ all. (count ≡ 0) ↔ (all ≡ []))

-- these are all the told bytes, and none is left
abbrev pub GivesAll : Option (List ℕ) → Option (List ℕ) → List ℕ → Type 0
GivesAll None after bytes = ⊤
GivesAll (Some all) None bytes = ⊥
GivesAll (Some all) (Some rest) bytes = (bytes ≡ all) × (rest ≡ [])

-- there were `count` told bytes, and the first `count` are gone
abbrev pub LosesFirst : Option (List ℕ) → Option (List ℕ) → ℕ → Type 0
LosesFirst None after count = ⊤
LosesFirst (Some all) None count = ⊥
LosesFirst (Some all) (Some rest) count = (count ≤ length all) × (rest ≡ drop count all)

-- at most `most` told bytes are gone, from the front
abbrev pub LosesAtMost : Option (List ℕ) → Option (List ℕ) → ℕ → Type 0
LosesAtMost before after most = (count : ℕ) × (count ≤ most) × LosesFirst before after count

-- some of these bytes, the first, came behind the told ones
abbrev pub AppendsFront : Option (List ℕ) → Option (List ℕ) → List ℕ → Type 0
AppendsFront before after bytes = (count : ℕ) × (count ≤ length bytes) × Appends before after (take count bytes)
