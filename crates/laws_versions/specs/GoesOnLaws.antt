-- Laws about runs that go on while a table answers their calls.
use Rattle.std.specs.Prelude.{◌≡◌, ◌+◌, ℕ, List, [], Option, None, Some, length, codes}
use Rattle.std.specs.List.{AllByRecursion}
use Rattle.sour_syntax.specs.declared.literal.FunId.{FunId}
use Rattle.sour_syntax.specs.declared.literal.Literal.{Literal}
use Rattle.sour_syntax.specs.Literals.{IsLiteral}
use Rattle.sour_syntax.specs.Program.{ProgramView, IsProgram}
use Rattle.sour_semantics.specs.State.{State}
use Rattle.sour_semantics.specs.Step.{text_choice, step, entered_code}
use Rattle.sour_semantics.specs.Run.{start_of, start, text_run, IsAtBudget}
use Rattle.sour_semantics.specs.Block.{memory, block_end, block}
use Rattle.sour_versions.specs.History.{History, active_of, read_of, by_history, Extends, IsHistoryOf}
use Rattle.sour_versions.specs.Fits.{Fits}
use Rattle.sour_versions.specs.CallLog.{CallLog, by_log}
use Rattle.sour_versions.specs.Entering.{entering}
use Rattle.sour_versions.specs.VersionRun.{entry_choice, Counted, version_run, all_calls, VersionAt}
use Rattle.sour_versions.specs.Notes.{noted, empty_log, HasUsed, IsLog}
use Rattle.sour_versions.specs.GoesOn.{begun, GoesOnOver, GoesOnFinding, AdvancesOver, IsRunSoFar}
use Rattle.sour_versions.specs.MayShow.{MayShow}
use Rattle.laws_versions.specs.ShownLaws.{block_of}

-- how a run goes on while a table answers
pub record GoesOnByParts : Type 0 where
  -- it enters main
  pub main : (program : ProgramView) (input : List Literal) (early late : History) → Extends early late
      → GoesOnFinding program input early late empty_log (noted empty_log 1 (read_of program.main late)) None
      (record {
        state = start_of program (entered_code (active_of program.main late) program.main) [] [] input [];
        calls = 1;
      })
  -- it takes a step that enters nothing
  pub steps : (program : ProgramView) (input : List Literal) (history : History) (log : CallLog) (c : Counted)
      → entering program c.state ≡ None
      → GoesOnFinding program input history history log log (Some c)
      (record { state = step program text_choice c.state; calls = c.calls })
  -- it takes a step that enters a function
  pub calls : (program : ProgramView) (input : List Literal) (early late : History) (log : CallLog) (c : Counted)
      (f : FunId) → entering program c.state ≡ Some f → IsLog c.calls log → HasUsed early log.used
      → Extends early late
      → GoesOnFinding program input early late log (noted log (c.calls + 1) (read_of f late)) (Some c)
      (record { state = step program (entry_choice (active_of f late)) c.state; calls = c.calls + 1 })
  -- it does one after the other
  pub then : (program : ProgramView) (input : List Literal) (early middle late : History) (old log new : CallLog)
      (before : Option Counted) (c d : Counted) → GoesOnFinding program input early middle old log before c
      → GoesOnFinding program input middle late log new (Some c) d
      → GoesOnFinding program input early late old new before d
  -- it stays while more is published, and doesn't find it
  pub stays : (program : ProgramView) (input : List Literal) (early late : History) (log : CallLog) (c : Counted)
      → Extends early late → GoesOnOver program input early late log log (Some c) c
  -- one after the other, if the second part may not have found all
  pub then_over : (program : ProgramView) (input : List Literal) (early middle late : History)
      (old log new : CallLog) (before : Option Counted) (c d : Counted)
      → GoesOnOver program input early middle old log before c
      → GoesOnOver program input middle late log new (Some c) d
      → GoesOnOver program input early late old new before d

-- to advance by some turns and then by others, over the same table, is to advance by all of them
abbrev pub AdvancesOverAdd : Type 0
AdvancesOverAdd = (program : ProgramView) (input : List Literal) (a b : ℕ) (early middle late : History)
    (old log new : CallLog) (before : Option Counted) (c d : Counted)
    → AdvancesOver program input a early middle old log before c
    → AdvancesOver program input b middle late log new (Some c) d
    → AdvancesOver program input (a + b) early late old new before d

-- the calls of a run so far fit the history, which has what they used, and their log is one of so many calls
abbrev pub CallsFit : Type 0
CallsFit = (program : ProgramView) (input : List Literal) (early late : History) (log : CallLog) (c : Counted)
    → (goes : GoesOnOver program input early late empty_log log None c)
    → Fits late (all_calls program input (by_log log) goes.on.steps) × IsLog c.calls log × HasUsed late log.used

-- if nothing is published while a run goes on, each of its calls enters what is active in the history
abbrev pub RoundsEnterActive : Type 0
RoundsEnterActive = (program : ProgramView) (input : List Literal) (history : History) (old log : CallLog)
    (before : Option Counted) (c : Counted) → (goes : GoesOnOver program input history history old log before c)
    → version_run program (by_history history) goes.on.steps (begun program input (by_history history) before) ≡ c

-- from where a run of the text goes on
abbrev pub text_begun : ProgramView → List Literal → Option Counted → State
text_begun program input None = start program input
text_begun program input (Some c) = c.state

-- if nothing was published at all, the run goes on as that of the text
abbrev pub RoundsOverNothing : Type 0
RoundsOverNothing = (program : ProgramView) (input : List Literal) (old log : CallLog) (before : Option Counted)
    (c : Counted) → (goes : GoesOnOver program input [] [] old log before c)
    → text_run program goes.on.steps (text_begun program input before) ≡ c.state

-- what holds of a run holds of it again after it has gone on, and it tells what its block may show
pub record RunsSoFar : Type 0 where
  -- it holds once the run has entered main
  pub begins : (program : ProgramView) (input : List Literal) (early late : History) (log : CallLog) (c : Counted)
      → IsHistoryOf program late → GoesOnOver program input early late empty_log log None c
      → IsRunSoFar program input log c
  -- and after it has gone on
  pub goes_on : (program : ProgramView) (input : List Literal) (early late : History) (old new : CallLog)
      (c d : Counted) → IsHistoryOf program late → HasUsed early old.used
      → GoesOnOver program input early late old new (Some c) d → IsRunSoFar program input old c
      → IsRunSoFar program input new d
  -- the later history then has what the run used
  pub has : (program : ProgramView) (input : List Literal) (early late : History) (old new : CallLog) (c d : Counted)
      → IsLog c.calls old → HasUsed early old.used → GoesOnOver program input early late old new (Some c) d
      → HasUsed late new.used
  -- at a budget it rests as a run by its log
  pub rests : (program : ProgramView) (input : List Literal) (log : CallLog) (c : Counted) (budget : ℕ)
      → IsRunSoFar program input log c → IsAtBudget program budget c.state
      → VersionAt program input (by_log log) budget c
  -- and its block may be shown
  pub shows : (program : ProgramView) (input : List Literal) (log : CallLog) (c : Counted) (number budget : ℕ)
      → IsProgram program → AllByRecursion (IsLiteral (length program.functions)) input
      → IsRunSoFar program input log c → IsAtBudget program budget c.state
      → MayShow program input number budget (block_end c.state.ending) (block_of program number c.state)
  -- so may that of a run that was out of memory
  pub wants : (program : ProgramView) (input : List Literal) (log : CallLog) (c : Counted) (number budget : ℕ)
      → IsProgram program → AllByRecursion (IsLiteral (length program.functions)) input
      → IsRunSoFar program input log c
      → MayShow program input number budget memory (block number c.state.output (codes "memory"))
