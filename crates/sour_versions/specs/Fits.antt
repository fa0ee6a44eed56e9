-- Reads that a table answered while more and more was published.
use Rattle.std.specs.Prelude.{◌≡◌, ◌≤◌, ℕ, List, [], ◌∷◌, length, take}
use Rattle.sour_syntax.specs.declared.literal.FunId.{FunId}
use Rattle.sour_versions.specs.History.{History, TableRead, read_of, Extends}

-- each was answered by the first so many entries of the history: by no fewer than this, nor than the one before it
abbrev pub FitsFrom : ℕ → History → List TableRead → Type 0
FitsFrom least history [] = Unit {0}
FitsFrom least history (read ∷ reads) =
    (seen : ℕ) × (least ≤ seen) × (seen ≤ length history) × (read ≡ read_of read.function (take seen history))
    × FitsFrom seen history reads

-- reads, or calls, fit the history
abbrev pub Fits : History → List TableRead → Type 0
Fits history reads = FitsFrom 0 history reads

-- the last of them, if there is one, was answered by the whole history
abbrev pub LastFindsAll : History → List TableRead → Type 0
LastFindsAll history [] = Unit {0}
LastFindsAll history (read ∷ []) = read ≡ read_of read.function history
LastFindsAll history (read ∷ next ∷ reads) = LastFindsAll history (next ∷ reads)

-- the last of them found all that was published meanwhile, and if there is none, nothing was
pub record FindsAll (early late : History) (reads : List TableRead) : Type 0 where
  pub last : LastFindsAll late reads
  pub still : reads ≡ [] → late ≡ early

-- reads, one after the other, while the history grew: each found the earlier one at least, and the last found all
pub record ReadOver (early late : History) (reads : List TableRead) : Type 0 where
  pub extends : Extends early late
  pub fit : FitsFrom (length early) late reads
  pub find : FindsAll early late reads

-- what is listed of a read
pub record ListedRead : Type 0 where
  pub function : FunId
  pub number : ℕ

-- what is listed of reads
abbrev pub listed : List TableRead → List ListedRead
listed [] = []
listed (read ∷ reads) = record { function = read.function; number = read.number } ∷ listed reads
