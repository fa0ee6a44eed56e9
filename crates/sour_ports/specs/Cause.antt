-- When a port may answer that it failed. Each port has a count of faults, which never falls.
use Rattle.std.specs.Prelude.{ℕ, ◌+◌, ◌<◌, ◌≤◌, ◌⊎◌, min}

-- a fault has its cause: the count rose, or it stands at its last value
abbrev pub HasCause : ℕ → ℕ → Type 0
HasCause before after = (before < after) ⊎ (18446744073709551615 ≤ after)

-- a count after one more, which stands still at its last value
abbrev pub counted : ℕ → ℕ
counted n = min (n + 1) 18446744073709551615
