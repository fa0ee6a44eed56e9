-- What is wanted of a run beside what it gave.
use Rattle.std.specs.Prelude.{◌≡◌, ◌≢◌, ◌+◌, ℕ, List, take, slice_get}
use Rattle.sour_rows.specs.declared.answer.Answer.{Answer}
use Rattle.sour_rows.specs.declared.answer.Difference.{Difference}
use Rattle.sour_rows.specs.declared.answer.Difference.TheVariants.{Status, Bytes}

-- the status and the bytes are those that are wanted
abbrev pub IsAsWanted : Answer → ℕ → List ℕ → Type 0
IsAsWanted wanted status written = (status ≡ wanted.status) × (written ≡ wanted.written.items)

-- two lists are the same before this place, and not at it
pub record DifferFrom (given wanted : List ℕ) (place : ℕ) : Type 0 where
  pub before : take place given ≡ take place wanted
  pub there : slice_get given place ≢ slice_get wanted place

-- the status, or else the bytes, differ in this way from what is wanted
abbrev pub DiffersIn : Answer → ℕ → List ℕ → Difference → Type 0
DiffersIn wanted status written (Status given due) =
    (given ≡ status) × (due ≡ wanted.status) × (status ≢ wanted.status)
DiffersIn wanted status written (Bytes from) =
    (status ≡ wanted.status)
    × ((place : ℕ) × (from ≡ place + 1) × DifferFrom written wanted.written.items place)
