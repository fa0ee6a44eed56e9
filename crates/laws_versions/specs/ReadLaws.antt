-- Laws about the reads that a table answered.
use Rattle.std.specs.Prelude.{◌≡◌, ◌≤◌, ◌++◌, ℕ, List, [], ◌∷◌, length, take}
use Rattle.std.specs.List.{AllByRecursion}
use Rattle.sour_syntax.specs.declared.literal.FunId.{FunId}
use Rattle.sour_versions.specs.History.{History, bundles_of, entry_numbered, TableRead, read_of, Extends}
use Rattle.sour_versions.specs.Fits.{FitsFrom, Fits, LastFindsAll, FindsAll, ReadOver, listed}

-- reads fit a history, and find all of it, if those of their parts do
pub record FitsOfParts : Type 0 where
  -- what the whole history answered fits it
  pub one : (least : ℕ) (history : History) (f : FunId) → least ≤ length history
      → FitsFrom least history (read_of f history ∷ [])
  -- what fits a history fits what extends it
  pub extended : (least : ℕ) (early late : History) (reads : List TableRead) → Extends early late
      → FitsFrom least early reads → FitsFrom least late reads
  -- what begins no earlier than this begins no earlier than that
  pub lower : (less least : ℕ) (history : History) (reads : List TableRead) → less ≤ least
      → FitsFrom least history reads → FitsFrom less history reads
  -- reads that fit a history, and further ones that fit what extends it and begin no earlier than its end
  pub parts : (least : ℕ) (early late : History) (first second : List TableRead) → least ≤ length early
      → Extends early late → FitsFrom least early first → FitsFrom (length early) late second
      → FitsFrom least late (first ++ second)
  -- the last of some further reads is the last of all
  pub last : (history : History) (first : List TableRead) (read : TableRead) (second : List TableRead)
      → LastFindsAll history (read ∷ second) → LastFindsAll history (first ++ read ∷ second)
  -- the last of the reads of both parts found all, if the last of each part did
  pub finds : (early middle late : History) (first second : List TableRead) → FindsAll early middle first
      → FindsAll middle late second → FindsAll early late (first ++ second)

-- what was read is what the history has under the number that was read
abbrev pub IsNumbered : History → TableRead → Type 0
IsNumbered history read = read.entry ≡ entry_numbered (bundles_of read.function history) read.number

-- reads that fit a history are told by their numbers
abbrev pub NumbersTell : Type 0
NumbersTell = (history : History) (reads : List TableRead) → Fits history reads
    → AllByRecursion (IsNumbered history) reads

-- a later read of the same function found no lower number
abbrev pub IsNoOlder : TableRead → TableRead → Type 0
IsNoOlder read later = later.function ≡ read.function → read.number ≤ later.number

-- no read that fits a history finds an older version of its function than one before it
abbrev pub NumbersNeverFall : Type 0
NumbersNeverFall = (history : History) (read : TableRead) (reads : List TableRead) → Fits history (read ∷ reads)
    → AllByRecursion (IsNoOlder read) reads

-- the reads of a job
pub record ReadsOfJobs : Type 0 where
  -- there is none
  pub none : (history : History) → ReadOver history history []
  -- there is one
  pub one : (early late : History) (f : FunId) → Extends early late → ReadOver early late (read_of f late ∷ [])
  -- there are those of its parts
  pub parts : (early middle late : History) (first second : List TableRead) → ReadOver early middle first
      → ReadOver middle late second → ReadOver early late (first ++ second)
  -- reads that fit the first so many entries that a reader saw fit the first so many, or more, of what extends it
  pub front : (seen whole : History) (entries more : ℕ) (reads : List TableRead) → Extends seen whole
      → entries ≤ length seen → entries ≤ more → Fits (take entries seen) reads → Fits (take more whole) reads
  -- reads that are listed the same and fit the same history are the same
  pub told : (history : History) (first second : List TableRead) → Fits history first → Fits history second
      → listed first ≡ listed second → first ≡ second
