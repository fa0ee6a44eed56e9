-- Laws about runs whose calls enter the versions that they are answered.
use Rattle.std.specs.Prelude.{◌≡◌, ◌≤◌, ◌+◌, ◌++◌, ℕ, suc, List, ◌∷◌, [], Bool, None, Some, length}
use Rattle.std.specs.List.{AllByRecursion}
use Rattle.sour_syntax.specs.declared.literal.FunId.{FunId}
use Rattle.sour_syntax.specs.declared.literal.Literal.{Literal}
use Rattle.sour_syntax.specs.declared.literal.Value.{Value}
use Rattle.sour_syntax.specs.BodyView.{BodyView}
use Rattle.sour_syntax.specs.Literals.{IsLiteral}
use Rattle.sour_syntax.specs.Program.{ProgramView, IsProgram}
use Rattle.sour_semantics.specs.State.{Frame, State}
use Rattle.sour_semantics.specs.Step.{Entry, text_choice, step, body_at, entered_code, entered_frame}
use Rattle.sour_semantics.specs.Run.{start, text_run, TextAt}
use Rattle.sour_semantics.specs.Validity.{IsValid, MayEnter}
use Rattle.laws_runs.specs.Laws.{GoesOnBy}
use Rattle.sour_versions.specs.History.{Answers, by_history}
use Rattle.sour_versions.specs.Entering.{entering}
use Rattle.sour_versions.specs.VersionRun.{entry_choice, Counted, version_run, calls_in, version_start}
use Rattle.sour_versions.specs.VersionRun.{VersionAt, VersionGoesOnBy}
use Rattle.sour_versions.specs.GoesOn.{AnswerAlike}

-- how many turns a step takes doesn't depend on what a call enters
abbrev pub TurnsWhateverEntered : Type 0
TurnsWhateverEntered = (program : ProgramView) (leaves : Bool) (entry other : Entry) (s : State)
    → (step program (record { entry = entry; leaves = leaves }) s).turns
    ≡ (step program (record { entry = other; leaves = leaves }) s).turns

-- a run goes on in a frame that was just made for the function
pub record HasEntered (program : ProgramView) (entry : Entry) (f : FunId) (s : State) : Type 0 where
  pub body : BodyView
  pub runs : body_at program (entered_code entry f) ≡ Some body
  pub values : List Value
  pub below : List Frame
  pub frames : s.frames ≡ entered_frame (entered_code entry f) body values ∷ below
  pub going : s.ending ≡ None

-- a function is counted if its version is entered, and else a step looks at no version
pub record CountsWhatIsEntered : Type 0 where
  pub entered : (program : ProgramView) (entry : Entry) (f : FunId) (s : State) → MayEnter program entry
      → entering program s ≡ Some f → HasEntered program entry f (step program (entry_choice entry) s)
  pub elsewhere : (program : ProgramView) (entry : Entry) (s : State) → MayEnter program entry
      → entering program s ≡ None → step program (entry_choice entry) s ≡ step program text_choice s

-- if nothing was published, a run is the run of the text
pub record RunsOverNothing : Type 0 where
  pub starts : (program : ProgramView) (input : List Literal)
      → (version_start program input (by_history [])).state ≡ start program input
  pub goes : (program : ProgramView) (steps : ℕ) (c : Counted)
      → (version_run program (by_history []) steps c).state ≡ text_run program steps c.state
  pub rests : (program : ProgramView) (input : List Literal) (budget : ℕ) (c : Counted)
      → VersionAt program input (by_history []) budget c → TextAt program input budget c.state

-- to go on by some turns and then by others is to go on by all, if the calls of the first part are answered alike
abbrev pub VersionGoesOnAdds : Type 0
VersionGoesOnAdds = (program : ProgramView) (answers other : Answers) (a b : ℕ) (c d e : Counted)
    → AnswerAlike d.calls answers other → VersionGoesOnBy program answers a c d
    → VersionGoesOnBy program other b d e → VersionGoesOnBy program other (a + b) c e

-- so it is in a run of the text
abbrev pub TextGoesOnAdds : Type 0
TextGoesOnAdds = (program : ProgramView) (a b : ℕ) (s t u : State)
    → GoesOnBy program a s t → GoesOnBy program b t u → GoesOnBy program (a + b) s u

-- at a budget a run rests in one state alone, with one number of calls
abbrev pub VersionRestsOnce : Type 0
VersionRestsOnce = (program : ProgramView) (input : List Literal) (answers : Answers) (budget : ℕ) (c d : Counted)
    → VersionAt program input answers budget c → VersionAt program input answers budget d → c ≡ d

-- each call is answered by what a step may enter: the text version, or a bundle with its shape
abbrev pub AnswersMayBeEntered : ProgramView → Answers → Type 0
AnswersMayBeEntered program answers = (call : ℕ) (f : FunId) → MayEnter program (answers call f).entry

-- a run of a checked program on a valid input is valid at each moment, whatever its calls enter
abbrev pub VersionRunsAreValid : Type 0
VersionRunsAreValid = (program : ProgramView) (input : List Literal) (answers : Answers) (steps : ℕ)
    → IsProgram program → AllByRecursion (IsLiteral (length program.functions)) input
    → AnswersMayBeEntered program answers
    → IsValid program (version_run program answers steps (version_start program input answers)).state

-- no more steps than this follow one another without a turn from a valid moment of a run of a checked program
abbrev pub VersionTurnsComeSoon : Type 0
VersionTurnsComeSoon = (program : ProgramView) (answers : Answers) (steps : ℕ) (c : Counted) → IsProgram program
    → AnswersMayBeEntered program answers → IsValid program c.state
    → (version_run program answers steps c).state.ending ≡ None
    → (version_run program answers (suc steps) c).state.turns ≡ c.state.turns → suc steps ≤ 135168

-- a run of a checked program rests in some state, whatever the valid input, the budget and what its calls enter
abbrev pub VersionRestsSomewhere : Type 0
VersionRestsSomewhere = (program : ProgramView) (input : List Literal) (answers : Answers) (budget : ℕ)
    → IsProgram program → AllByRecursion (IsLiteral (length program.functions)) input
    → AnswersMayBeEntered program answers → (c : Counted) × VersionAt program input answers budget c

-- the calls of a run, and those of its parts: what was answered to later calls doesn't matter to earlier ones
pub record CallsOfRuns : Type 0 where
  pub count : (program : ProgramView) (answers : Answers) (steps : ℕ) (c : Counted)
      → (version_run program answers steps c).calls ≡ c.calls + length (calls_in program answers steps c)
  pub parts : (program : ProgramView) (answers other : Answers) (m n : ℕ) (c : Counted)
      → AnswerAlike (version_run program answers m c).calls answers other
      → calls_in program other (m + n) c
      ≡ calls_in program answers m c ++ calls_in program other n (version_run program answers m c)
