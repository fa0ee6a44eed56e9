-- A `MemorySink` as contracts see it.
use Rattle.std.specs.Prelude.{ℕ, ◌-◌, ◌<◌, ◌≤◌, ◌⊎◌, List, ◌++◌, length, min, Contains}
use Rattle.sour_ports.specs.Cause.{counted}

pub record MemorySinkState : Type 0 where
  -- the bytes taken
  pub taken : List ℕ
  -- the most bytes that are taken in all
  pub room : ℕ
  -- the most bytes that one call takes
  pub piece : ℕ
  -- the numbers, from 1, of the calls that fail
  pub fails : List ℕ
  -- how many calls there were
  pub calls : ℕ
  -- how many of them failed
  pub faults : ℕ

-- the next call fails: its number is listed, or it has bytes and the room is taken
abbrev pub FailsNext : MemorySinkState → ℕ → Type 0
FailsNext s len = Contains s.fails (counted s.calls) ⊎ ((0 < len) × (s.room ≤ length s.taken))

-- how many of `len` bytes the next call takes where it doesn't fail
abbrev pub taken_count : MemorySinkState → ℕ → ℕ
taken_count s len = min (min s.piece (s.room - length s.taken)) len

-- what a call leaves that took these bytes
abbrev pub after_taking : MemorySinkState → List ℕ → MemorySinkState
after_taking s bytes = record s { taken = s.taken ++ bytes; calls = counted s.calls }

-- what a call leaves that failed
abbrev pub after_fault : MemorySinkState → MemorySinkState
after_fault s = record s { calls = counted s.calls; faults = counted s.faults }
