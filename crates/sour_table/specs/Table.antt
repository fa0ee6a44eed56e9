-- A plain table as contracts see it, and what it keeps.
use Rattle.std.specs.Prelude.{◌≡◌, ◌≤◌, ◌++◌, ◌∷◌, ℕ, List, [], Some, length, map, slice_get}
use Rattle.sour_syntax.specs.declared.literal.FunId.{FunId}
use Rattle.sour_syntax.specs.Program.{ProgramView}
use Rattle.sour_semantics.specs.State.{BundleView}
use Rattle.sour_bundle.specs.Entry.{entry_of}
use Rattle.sour_versions.specs.History as history
use Rattle.sour_versions.specs.History.{History, number_of, active_of, IsHistoryOf}
use Rattle.sour_table.specs.declared.active.Active.{Active}
use Rattle.sour_table.specs.declared.history_entry.HistoryEntry.{HistoryEntry}
use Rattle.sour_table.specs.declared.history_entry.HistoryEntry.TheVariants.{Publish}
use Rattle.sour_table.specs.Reader.{ReaderView, counted, IsOfProgram}

pub record TableView : Type 0 where
  pub program : ProgramView
  -- what was published
  pub history : History
  -- how many reads were answered
  pub reads : ℕ

-- the table as one who reads it: it has seen all that was published
abbrev pub reader_of : TableView → ReaderView
reader_of table = record { program = table.program; table = 0; seen = table.history; reads = table.reads }

-- the table with one bundle more at the end of what was published
abbrev pub with_bundle : TableView → BundleView → TableView
with_bundle table view = record table { history = table.history ++ history.publish view ∷ [] }

-- the table after one more read
abbrev pub after_read : TableView → TableView
after_read table = record table { reads = counted table.reads }

-- an entry of the table's history as contracts see it
abbrev pub published : HistoryEntry → history.HistoryEntry
published (Publish bundle) = history.publish bundle.value.view

abbrev pub table_view : ProgramView → List HistoryEntry → ℕ → TableView
table_view program entries reads = record { program = program; history = map published entries; reads = reads }

-- what is kept for the function with this number is its active version
pub record IsActive (program : ProgramView) (now : History) (f : FunId) (active : Active) : Type 0 where
  pub number : active.number ≡ number_of f now
  pub entry : entry_of active.entry ≡ active_of f now
  pub own : IsOfProgram program active.entry

-- a table keeps the active version of each function, and there are few enough entries that each has a number
pub record IsTable (program : ProgramView) (entries : List HistoryEntry) (active : List Active) : Type 0 where
  pub count : length active ≡ length program.functions
  pub each : (f : FunId) (kept : Active) → slice_get active f.0 ≡ Some kept
      → IsActive program (map published entries) f kept
  pub lawful : IsHistoryOf program (map published entries)
  pub few : length entries ≤ 4294967294
