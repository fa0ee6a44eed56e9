-- Runs whose calls enter the versions that they are answered.
use Rattle.std.specs.Prelude.{◌≡◌, ◌+◌, ℕ, zero, suc, List, [], ◌∷◌, false, Option, None, Some}
use Rattle.sour_syntax.specs.declared.literal.FunId.{FunId}
use Rattle.sour_syntax.specs.declared.literal.Literal.{Literal}
use Rattle.sour_syntax.specs.Program.{ProgramView}
use Rattle.sour_semantics.specs.State.{State}
use Rattle.sour_semantics.specs.Step.{Entry, text_version, Choice, step, entered_code}
use Rattle.sour_semantics.specs.Run.{start_of, IsAtBudget}
use Rattle.sour_versions.specs.History.{TableRead, Answers}
use Rattle.sour_versions.specs.Entering.{entering}

-- a moment of a run that has entered so many functions
pub record Counted : Type 0 where
  pub state : State
  pub calls : ℕ

-- a call enters this, and an anchor leaves only if a predicate is false
abbrev pub entry_choice : Entry → Choice
entry_choice entry = record { entry = entry; leaves = false }

-- the moment after a step that enters this function, if it enters one
abbrev pub counted_by : ProgramView → Answers → Counted → Option FunId → Counted
counted_by program answers c None = record { state = step program (entry_choice text_version) c.state; calls = c.calls }
counted_by program answers c (Some f) =
    record { state = step program (entry_choice (answers (c.calls + 1) f).entry) c.state; calls = c.calls + 1 }

-- the moment after a step
abbrev pub counted_step : ProgramView → Answers → Counted → Counted
counted_step program answers c = counted_by program answers c (entering program c.state)

-- the moment after so many steps
abbrev pub version_run : ProgramView → Answers → ℕ → Counted → Counted
version_run program answers zero c = c
version_run program answers (suc count) c = version_run program answers count (counted_step program answers c)

-- a call, if there is one, and others after it
abbrev pub with_call : Answers → ℕ → Option FunId → List TableRead → List TableRead
with_call answers call None others = others
with_call answers call (Some f) others = answers call f ∷ others

-- the calls of so many steps, in order
abbrev pub calls_in : ProgramView → Answers → ℕ → Counted → List TableRead
calls_in program answers zero c = []
calls_in program answers (suc count) c =
    with_call answers (c.calls + 1) (entering program c.state)
    (calls_in program answers count (counted_step program answers c))

-- the start of a run: main is entered by call 1
abbrev pub version_start : ProgramView → List Literal → Answers → Counted
version_start program input answers = record {
  state = start_of program (entered_code (answers 1 program.main).entry program.main) [] [] input [];
  calls = 1;
}

-- all calls of a run of so many steps
abbrev pub all_calls : ProgramView → List Literal → Answers → ℕ → List TableRead
all_calls program input answers steps =
    answers 1 program.main ∷ calls_in program answers steps (version_start program input answers)

-- the moment at which such a run with this budget rests
pub record VersionAt (program : ProgramView) (input : List Literal) (answers : Answers) (budget : ℕ) (c : Counted)
    : Type 0 where
  pub steps : ℕ
  pub reached : version_run program answers steps (version_start program input answers) ≡ c
  pub rests : IsAtBudget program budget c.state

-- a run goes on from the one moment to the other and rests there, with so many turns more
pub record VersionGoesOnBy (program : ProgramView) (answers : Answers) (turns : ℕ) (c d : Counted) : Type 0 where
  pub steps : ℕ
  pub reached : version_run program answers steps c ≡ d
  pub rests : IsAtBudget program (c.state.turns + turns) d.state
