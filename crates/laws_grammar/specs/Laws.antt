-- The laws of reading, of which each is the contract of a function of this crate.
use Rattle.std.specs.Prelude.{◌≡◌, ◌⊎◌, ◌↔◌, ℕ, List, [], Ok, Err}
use Rattle.sour_lexer.specs.Placed.{Placed}
use Rattle.sour_raw.specs.declared.kind.Kind.{Kind}
use Rattle.sour_raw.specs.declared.raw.RawJob.{RawJob}
use Rattle.sour_raw.specs.Productions.{whole_at}
use Rattle.sour_raw.specs.Limits.{IsShort}
use Rattle.sour_raw.specs.Order.{IsInOrder}
use Rattle.sour_raw.specs.Written.{IsWritten}
use Rattle.sour_raw.specs.Reads.{ReadsTokens, HasFault, Reads, IsFirstFault}

-- a text reads as one raw job at most
abbrev pub ReadsOnce : Type 0
ReadsOnce = (bytes : List ℕ) (raw other : RawJob) → Reads bytes raw → Reads bytes other → raw ≡ other

-- a text has one first fault at most: one number, line and column
abbrev pub FaultsOnce : Type 0
FaultsOnce = (bytes : List ℕ) (number line column number' line' column' : ℕ) → IsFirstFault bytes number line column
    → IsFirstFault bytes number' line' column'
    → (number ≡ number') × (line ≡ line') × (column ≡ column')

-- a text that reads as a raw job has no fault
abbrev pub NeverBoth : Type 0
NeverBoth = (bytes : List ℕ) (raw : RawJob) (number line column : ℕ) → Reads bytes raw
    → IsFirstFault bytes number line column → ⊥

-- each text reads as a raw job or has a first fault
abbrev pub ReadsOrFaults : Type 0
ReadsOrFaults = (bytes : List ℕ)
    → ((raw : RawJob) × Reads bytes raw)
    ⊎ ((number : ℕ) × (line : ℕ) × (column : ℕ) × IsFirstFault bytes number line column)

-- the reading of a job gives exactly the raw job that the tokens spell, or else their fault, where it stands
abbrev pub ReadsExactly : Type 0
ReadsExactly =
    ((tokens : List Placed) (raw : RawJob) → ReadsTokens tokens raw ↔ (whole_at tokens ≡ Ok (raw, [])))
    × ((tokens : List Placed) (kind : Kind) (rest : List Placed)
    → HasFault tokens kind rest ↔ (whole_at tokens ≡ Err (kind, rest)))

-- what a text reads as is made of names, labels, paths and numbers of 64 bits, and is within the limits
abbrev pub ReadIsWritten : Type 0
ReadIsWritten = (bytes : List ℕ) (raw : RawJob) → Reads bytes raw → IsWritten raw × IsShort raw

-- the items of what a text reads as stand on lines that ascend in the order of the text
abbrev pub LinesInOrder : Type 0
LinesInOrder = (bytes : List ℕ) (raw : RawJob) → Reads bytes raw → IsInOrder raw
