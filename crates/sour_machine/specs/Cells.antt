-- Where a store writes.
use Rattle.std.specs.Prelude.{ℕ, ℤ, pos, negsuc, List, Option, None, Some, Result, Ok, Err, length, nat_lt, slice_get, if◌then◌else◌}
use Rattle.sour_syntax.specs.declared.literal.ArrayId.{ArrayId}
use Rattle.sour_syntax.specs.declared.literal.Value.{Value}
use Rattle.sour_syntax.specs.declared.literal.Value.TheVariants.{Plain, Array}
use Rattle.sour_syntax.specs.declared.trap.Trap.{Trap}
use Rattle.sour_syntax.specs.declared.trap.Trap.TheVariants.{BadType, Bounds}
use Rattle.sour_semantics.specs.State.{Heap}

-- the place of a cell at an index, if there is one
abbrev pub place_at : ArrayId → List Value → ℤ → Result (ArrayId × ℕ) Trap
place_at a cells (negsuc n) = Err Bounds
place_at a cells (pos place) = if nat_lt place (length cells) then Ok (a, place) else Err Bounds

abbrev pub place_in : ArrayId → Option (List Value) → Option ℤ → Result (ArrayId × ℕ) Trap
place_in a None index = Err BadType
place_in a (Some cells) None = Err BadType
place_in a (Some cells) (Some index) = place_at a cells index

-- the array and the place of the cell at an index of an array, or the trap of a store into it
abbrev pub place_of : Heap → Value → Option ℤ → Result (ArrayId × ℕ) Trap
place_of heap (Plain literal) index = Err BadType
place_of heap (Array a) index = place_in a (slice_get heap a.0) index
