-- A run whose calls enter versions is a run by choices.
use Rattle.std.proofs.Common.{◌≡◌, ◌+◌, ℕ, zero, suc, List, [], ◌∷◌, Option, None, Some, length, refl, ap, ◌∙◌}
use Rattle.std.specs.List.{AllByRecursion}
use Rattle.sour_syntax.specs.declared.literal.FunId.{FunId}
use Rattle.sour_syntax.specs.Program.{ProgramView}
use Rattle.sour_semantics.specs.Step.{Choice, Entry, text_version, step}
use Rattle.sour_semantics.specs.Agreement.{run_by}
use Rattle.sour_versions.specs.History.{Answers}
use Rattle.sour_versions.specs.Entering.{entering}
use Rattle.sour_versions.specs.VersionRun.{entry_choice, Counted, counted_by, counted_step, version_run}

-- what a step chooses that enters this function, if it enters one
abbrev pub choice_by : Answers → ℕ → Option FunId → Choice
choice_by answers call None = entry_choice text_version
choice_by answers call (Some f) = entry_choice (answers call f).entry

-- what the steps of a run choose
abbrev pub choices_in : ProgramView → Answers → ℕ → Counted → List Choice
choices_in program answers zero c = []
choices_in program answers (suc steps) c =
    choice_by answers (c.calls + 1) (entering program c.state)
    ∷ choices_in program answers steps (counted_step program answers c)

-- a step by its choice
pub chosen-by : (program : ProgramView) (answers : Answers) (c : Counted) (f : Option FunId)
    → step program (choice_by answers (c.calls + 1) f) c.state ≡ (counted_by program answers c f).state
chosen-by program answers c None = refl
chosen-by program answers c (Some f) = refl

-- a run by its choices
pub run-chosen : (program : ProgramView) (answers : Answers) (steps : ℕ) (c : Counted)
    → run_by program (choices_in program answers steps c) c.state ≡ (version_run program answers steps c).state
run-chosen program answers zero c = refl
run-chosen program answers (suc steps) c =
    let next : Counted = counted_step program answers c in
    ap (run_by program (choices_in program answers steps next)) (chosen-by program answers c (entering program c.state))
    ∙ run-chosen program answers steps next

-- there are as many as steps
pub length-choices : (program : ProgramView) (answers : Answers) (steps : ℕ) (c : Counted)
    → length (choices_in program answers steps c) ≡ steps
length-choices program answers zero c = refl
length-choices program answers (suc steps) c =
    ap suc (length-choices program answers steps (counted_step program answers c))

module _ (Holds : Entry → Type 0) (answers : Answers) (text : Holds text_version)
    (holds : (call : ℕ) (f : FunId) → Holds (answers call f).entry) where
  -- what holds of the text version and of each answer holds of a step's choice
  pub holds-choice : (call : ℕ) (f : Option FunId) → Holds (choice_by answers call f).entry
  holds-choice call None = text
  holds-choice call (Some f) = holds call f

  -- and of all choices of a run
  pub holds-choices : (program : ProgramView) (steps : ℕ) (c : Counted)
      → AllByRecursion (λ choice. Holds choice.entry) (choices_in program answers steps c)
  holds-choices program zero c = tt
  holds-choices program (suc steps) c =
      let next : Counted = counted_step program answers c in
      (holds-choice (c.calls + 1) (entering program c.state), holds-choices program steps next)
