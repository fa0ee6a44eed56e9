-- Whether a list has all the items that it may have.
use Rattle.std.specs.Prelude.{ℕ, Bool, false, nat_le, Option, None, Some}

-- whether there are as many as there is room for; None is no limit
abbrev pub is_full : Option ℕ → ℕ → Bool
is_full None n = false
is_full (Some room) n = nat_le room n
