-- What contracts see of one who answers calls by the active versions of functions.
use Rattle.std.specs.Prelude.{◌≡◌, ◌≤◌, ◌+◌, ℕ, IfSome, min}
use Rattle.sour_syntax.specs.declared.literal.FunId.{FunId}
use Rattle.sour_syntax.specs.Program.{ProgramView}
use Rattle.sour_bundle.specs.declared.entry.Entry.{Entry}
use Rattle.sour_bundle.specs.Entry.{entry_of, bundle_of}
use Rattle.sour_versions.specs.History.{History, Extends, TableRead}

pub record ReaderView : Type 0 where
  pub program : ProgramView
  -- a name of the table that it reads
  pub table : ℕ
  -- what was published, as far as it has seen
  pub seen : History
  -- how many reads were answered
  pub reads : ℕ

-- the program and the table are as they were, what was seen is still there, and the reads haven't fallen
pub record FollowsTable (old new : ReaderView) : Type 0 where
  pub program : new.program ≡ old.program
  pub table : new.table ≡ old.table
  pub seen : Extends old.seen new.seen
  pub reads : old.reads ≤ new.reads

-- the reads after one more, which stand still at their last value
abbrev pub counted : ℕ → ℕ
counted reads = min (reads + 1) 18446744073709551615

-- what a number and an entry answer to a call of a function
abbrev pub answered : FunId → ℕ × Entry → TableRead
answered function answer = record { function = function; number = answer.0; entry = entry_of answer.1 }

-- a made version is one of the program
abbrev pub IsOfProgram : ProgramView → Entry → Type 0
IsOfProgram program entry = IfSome (bundle_of entry) (λ bundle. bundle.program ≡ program)
