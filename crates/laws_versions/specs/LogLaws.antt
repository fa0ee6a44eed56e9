-- Laws about the log that a run keeps of its calls.
use Rattle.std.specs.Prelude.{◌≡◌, ◌+◌, ℕ, List}
use Rattle.std.specs.List.{AllByRecursion}
use Rattle.sour_syntax.specs.declared.literal.FunId.{FunId}
use Rattle.sour_syntax.specs.Program.{ProgramView}
use Rattle.sour_versions.specs.History.{History, read_of, Extends, IsHistoryOf}
use Rattle.sour_versions.specs.CallLog.{UsedVersion, CallLog, by_log, IsLawfulUse}
use Rattle.sour_versions.specs.Notes.{noted, HasUsed, IsLog}
use Rattle.sour_versions.specs.GoesOn.{AnswerAlike}

-- what a log keeps as a table answers one call more
pub record NotesAreTrue : Type 0 where
  -- it says what was answered
  pub says : (early late : History) (log : CallLog) (calls : ℕ) (f : FunId) → IsLog calls log
      → HasUsed early log.used → Extends early late
      → by_log (noted log (calls + 1) (read_of f late)) (calls + 1) f ≡ read_of f late
  -- and the same as before of the calls before
  pub keeps : (early late : History) (log : CallLog) (calls : ℕ) (f : FunId) → IsLog calls log
      → HasUsed early log.used → Extends early late
      → AnswerAlike calls (by_log log) (by_log (noted log (calls + 1) (read_of f late)))
  -- it is a log of one call more
  pub is_log : (late : History) (log : CallLog) (calls : ℕ) (f : FunId) → IsLog calls log
      → IsLog (calls + 1) (noted log (calls + 1) (read_of f late))
  -- the later history has what was used
  pub has : (early late : History) (log : CallLog) (calls : ℕ) (f : FunId) → HasUsed early log.used
      → Extends early late → HasUsed late (noted log (calls + 1) (read_of f late)).used

-- used bundles are lawful ones of their functions, if a history of lawful bundles has them
abbrev pub UsedAreLawful : Type 0
UsedAreLawful = (program : ProgramView) (history : History) (used : List UsedVersion)
    → IsHistoryOf program history → HasUsed history used → AllByRecursion (IsLawfulUse program) used
