-- Laws about what runs show whose calls enter lawful versions.
use Rattle.std.specs.Prelude.{◌≡◌, ◌++◌, ℕ, List, [], None, length, codes}
use Rattle.std.specs.List.{AllByRecursion}
use Rattle.sour_syntax.specs.declared.literal.FunId.{FunId}
use Rattle.sour_syntax.specs.declared.literal.Literal.{Literal}
use Rattle.sour_syntax.specs.Literals.{IsLiteral}
use Rattle.sour_syntax.specs.Program.{ProgramView, IsProgram}
use Rattle.sour_semantics.specs.State.{State}
use Rattle.sour_semantics.specs.Run.{start, TextAt}
use Rattle.sour_semantics.specs.Agreement.{IsShownFrom}
use Rattle.sour_semantics.specs.Block.{BlockEnd, memory, block_end, end_text, block, RunShows, RunShowsAll}
use Rattle.laws_agreement.specs.Laws.{IsLawfulEntry}
use Rattle.sour_versions.specs.History.{History, Answers, by_history, IsHistoryOf}
use Rattle.sour_versions.specs.CallLog.{CallLog, by_log, IsLawfulUse}
use Rattle.sour_versions.specs.VersionRun.{Counted, version_run, version_start, VersionAt}
use Rattle.sour_versions.specs.MayShow.{text_after, ShowsCut, MayShow, ShowsAll}
use Rattle.laws_versions.specs.RunLaws.{AnswersMayBeEntered}

-- each call is answered by the text version or a lawful bundle
abbrev pub AnswersAreLawful : ProgramView → Answers → Type 0
AnswersAreLawful program answers = (call : ℕ) (f : FunId) → IsLawfulEntry program (answers call f).entry

-- it is if the used bundles are lawful, or those of the history; and what is lawful may be entered
pub record LawfulAnswers : Type 0 where
  pub of_log : (program : ProgramView) (log : CallLog) → AllByRecursion (IsLawfulUse program) log.used
      → AnswersAreLawful program (by_log log)
  pub of_history : (program : ProgramView) (history : History) → IsHistoryOf program history
      → AnswersAreLawful program (by_history history)
  pub may_be_entered : (program : ProgramView) (answers : Answers) → AnswersAreLawful program answers
      → AnswersMayBeEntered program answers

-- what a run of a checked program shows, whatever lawful versions it enters, the text shows with as many turns or more
abbrev pub VersionRunsAreShown : Type 0
VersionRunsAreShown = (program : ProgramView) (input : List Literal) (answers : Answers) (steps : ℕ)
    → IsProgram program → AllByRecursion (IsLiteral (length program.functions)) input
    → AnswersAreLawful program answers
    → IsShownFrom program (start program input)
    (version_run program answers steps (version_start program input answers)).state

-- the block of a moment at which a run rests, with its number
abbrev pub block_of : ProgramView → ℕ → State → List ℕ
block_of program number s = block number s.output (end_text program s.heap s.ending)

-- so the block of such a run is one that may be shown
pub record VersionRunsMayShow : Type 0 where
  -- if it rests at the budget, with its end, or cut
  pub rests : (program : ProgramView) (input : List Literal) (answers : Answers) (number budget : ℕ) (c : Counted)
      → IsProgram program → AllByRecursion (IsLiteral (length program.functions)) input
      → AnswersAreLawful program answers → VersionAt program input answers budget c
      → MayShow program input number budget (block_end c.state.ending) (block_of program number c.state)
  -- if it is cut, it has taken all turns of the budget
  pub cut_at : (program : ProgramView) (input : List Literal) (answers : Answers) (budget : ℕ) (c : Counted)
      → VersionAt program input answers budget c → c.state.ending ≡ None → c.state.turns ≡ budget
  -- if it was out of memory, at any moment
  pub wants : (program : ProgramView) (input : List Literal) (answers : Answers) (number budget steps : ℕ)
      → IsProgram program → AllByRecursion (IsLiteral (length program.functions)) input
      → AnswersAreLawful program answers
      → MayShow program input number budget memory
      (block number (version_run program answers steps (version_start program input answers)).state.output
      (codes "memory"))
  -- or before it had entered main
  pub begins : (program : ProgramView) (input : List Literal) (number budget : ℕ)
      → MayShow program input number budget memory (block number [] (codes "memory"))

-- what a run of the text alone shows may be shown
abbrev pub TextMayShow : Type 0
TextMayShow = (program : ProgramView) (input : List Literal) (number budget : ℕ) (end : BlockEnd) (bytes : List ℕ)
    → RunShows program input number budget end bytes → MayShow program input number budget end bytes

-- and so it is for all inputs
abbrev pub AllTextMayShow : Type 0
AllTextMayShow = (program : ProgramView) (inputs : List (List Literal)) (number budget : ℕ) (ends : List BlockEnd)
    (bytes : List ℕ) → RunShowsAll program inputs number budget ends bytes
    → ShowsAll (λ input number. MayShow program input number budget) inputs number ends bytes

-- what a cut block shows begins with the output of the text at the budget
abbrev pub CutShowsText : Type 0
CutShowsText = (program : ProgramView) (input : List Literal) (number budget : ℕ) (end : BlockEnd) (bytes : List ℕ)
    (s : State) → (shows : ShowsCut program input number budget end bytes) → TextAt program input budget s
    → (more : List ℕ) × ((text_after program input shows.steps).output ≡ s.output ++ more)
