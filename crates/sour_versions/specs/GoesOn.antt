-- A run goes on while a table, to which more and more is published, answers its calls.
use Rattle.std.specs.Prelude.{◌≡◌, ◌≤◌, ◌+◌, ℕ, List, ◌∷◌, Option, None, Some, length}
use Rattle.std.specs.List.{AllByRecursion}
use Rattle.sour_syntax.specs.declared.literal.FunId.{FunId}
use Rattle.sour_syntax.specs.declared.literal.Literal.{Literal}
use Rattle.sour_syntax.specs.Program.{ProgramView}
use Rattle.sour_semantics.specs.Run.{IsAtBudget}
use Rattle.sour_versions.specs.History.{History, TableRead, Answers, Extends}
use Rattle.sour_versions.specs.Fits.{FitsFrom, FindsAll}
use Rattle.sour_versions.specs.CallLog.{CallLog, by_log, IsLawfulUse}
use Rattle.sour_versions.specs.VersionRun.{Counted, version_run, calls_in, version_start}
use Rattle.sour_versions.specs.Notes.{log_from, empty_log, IsLog}

-- the calls up to this one are answered the same
abbrev pub AnswerAlike : ℕ → Answers → Answers → Type 0
AnswerAlike last answers other = (call : ℕ) (f : FunId) → call ≤ last → answers call f ≡ other call f

-- from where a run goes on: one that hasn't entered main does so first
abbrev pub begun : ProgramView → List Literal → Answers → Option Counted → Counted
begun program input answers None = version_start program input answers
begun program input answers (Some c) = c

-- the calls that it then makes in so many steps, to enter main among them
abbrev pub calls_made : ProgramView → List Literal → Answers → ℕ → Option Counted → List TableRead
calls_made program input answers steps None =
    answers 1 program.main ∷ calls_in program answers steps (version_start program input answers)
calls_made program input answers steps (Some c) = calls_in program answers steps c

-- how many calls were made before
abbrev pub calls_before : Option Counted → ℕ
calls_before None = 0
calls_before (Some c) = c.calls

-- how many turns were taken before
abbrev pub turns_before : Option Counted → ℕ
turns_before None = 0
turns_before (Some c) = c.state.turns

-- a run went on from the one moment, or from before main, to the other, and its log from the one to the other
pub record GoesOnByLog (program : ProgramView) (input : List Literal) (old new : CallLog) (before : Option Counted)
    (after : Counted) : Type 0 where
  pub steps : ℕ
  -- each call entered what the log says in the end
  pub reached : version_run program (by_log new) steps (begun program input (by_log new) before) ≡ after
  -- which says the same of the calls before as it did
  pub kept : AnswerAlike (calls_before before) (by_log old) (by_log new)
  -- the calls, and nothing else, were noted
  pub notes : new ≡ log_from old (calls_before before + 1) (calls_made program input (by_log new) steps before)

-- and meanwhile the table went from the one history to the other
pub record GoesOnOver (program : ProgramView) (input : List Literal) (early late : History) (old new : CallLog)
    (before : Option Counted) (after : Counted) : Type 0 where
  pub on : GoesOnByLog program input old new before after
  pub extends : Extends early late
  -- the calls fit the later history, and each found the earlier one at least
  pub fit : FitsFrom (length early) late (calls_made program input (by_log new) on.steps before)

-- and the last of the calls found all that was published by then
pub record GoesOnFinding (program : ProgramView) (input : List Literal) (early late : History) (old new : CallLog)
    (before : Option Counted) (after : Counted) : Type 0 where
  pub over : GoesOnOver program input early late old new before after
  pub finds : FindsAll early late (calls_made program input (by_log new) over.on.steps before)

-- and the run rests there, with so many turns more
pub record AdvancesOver (program : ProgramView) (input : List Literal) (turns : ℕ) (early late : History)
    (old new : CallLog) (before : Option Counted) (after : Counted) : Type 0 where
  pub finding : GoesOnFinding program input early late old new before after
  pub rests : IsAtBudget program (turns_before before + turns) after.state

-- what holds of a run that has entered main: it went by its log, which has its calls alone, and used lawful bundles
pub record IsRunSoFar (program : ProgramView) (input : List Literal) (log : CallLog) (c : Counted) : Type 0 where
  pub on : GoesOnByLog program input empty_log log None c
  pub is_log : IsLog c.calls log
  pub lawful : AllByRecursion (IsLawfulUse program) log.used
