-- A `MemorySource` as contracts see it.
use Rattle.std.specs.Prelude.{ℕ, List, length, min, drop}
use Rattle.sour_ports.specs.Cause.{counted}

pub record MemorySourceState : Type 0 where
  -- the bytes to come
  pub left : List ℕ
  -- the most bytes that one call gives
  pub piece : ℕ
  -- the numbers, from 1, of the calls that fail
  pub fails : List ℕ
  -- how many calls there were
  pub calls : ℕ
  -- how many of them failed
  pub faults : ℕ

-- how many bytes the next call gives where it doesn't fail
abbrev pub given_count : MemorySourceState → ℕ → ℕ
given_count s room = min (min s.piece (length s.left)) room

-- what a call leaves that gave `count` bytes
abbrev pub after_giving : MemorySourceState → ℕ → MemorySourceState
after_giving s count = record s { left = drop count s.left; calls = counted s.calls }

-- what a call leaves that failed
abbrev pub after_fault : MemorySourceState → MemorySourceState
after_fault s = record s { calls = counted s.calls; faults = counted s.faults }
