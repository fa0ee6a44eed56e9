-- The status that blocks give.
use Rattle.std.specs.Prelude.{ℕ, Bool, true, false, List, if◌then◌else◌}
use Rattle.std.specs.List.{list_any}
use Rattle.sour_semantics.specs.Block.{BlockEnd, finished, trap, cut, memory}

abbrev pub is_memory : BlockEnd → Bool
is_memory finished = false
is_memory trap = false
is_memory cut = false
is_memory memory = true

abbrev pub is_cut : BlockEnd → Bool
is_cut finished = false
is_cut trap = false
is_cut cut = true
is_cut memory = false

abbrev pub is_trap : BlockEnd → Bool
is_trap finished = false
is_trap trap = true
is_trap cut = false
is_trap memory = false

-- the status that blocks with these ends give: want of memory counts most, then a cut, then a trap
abbrev pub status_of_blocks : List BlockEnd → ℕ
status_of_blocks ends =
    if list_any is_memory ends then 6
    else (if list_any is_cut ends then 7
    else (if list_any is_trap ends then 1 else 0))
