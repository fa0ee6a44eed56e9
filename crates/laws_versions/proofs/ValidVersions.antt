-- Runs that enter versions are valid throughout.
use Rattle.std.proofs.Common.{◌≡◌, ℕ, Bool, true, false, cond}
use Rattle.std.proofs.Common.{List, [], Option, None, Some, length, nat_eq, refl, subst, ◌∙◌}
use Rattle.std.specs.List.{AllByRecursion}
use Rattle.sour_syntax.specs.declared.literal.FunId.{FunId}
use Rattle.sour_syntax.specs.declared.literal.Literal.{Literal}
use Rattle.sour_syntax.specs.BodyView.{BodyView}
use Rattle.sour_syntax.specs.Literals.{IsLiteral}
use Rattle.sour_syntax.specs.Program.{ProgramView, IsProgram}
use Rattle.sour_semantics.specs.State.{FrameCode, text, made, State, BundleView}
use Rattle.sour_semantics.specs.Step.{Entry, text_version, bundle}
use Rattle.sour_semantics.specs.Step.{entered_code, body_at}
use Rattle.sour_semantics.specs.Validity.{IsCode, IsValid, MayEnter}
use Rattle.laws_validity.proofs.Runs.{IsValid-start_of, MayStart-main, runs_main, IsValid-run_by}
use Rattle.sour_versions.specs.History.{Answers}
use Rattle.sour_versions.specs.VersionRun.{Counted, version_run, version_start}
use Rattle.laws_versions.specs.RunLaws.{AnswersMayBeEntered, VersionRunsAreValid}
use Rattle.laws_versions.proofs.ChosenVersions.{choices_in, run-chosen}
use Rattle.laws_versions.proofs.ChosenVersions.{holds-choices}
use Rattle.laws_versions.proofs.EnteredFrames.{TakeAlike, TakeAlike-entry}

-- what is found takes as many parameters as a body that is there
record Takes (found : Option BodyView) (count : ℕ) : Type 0 where
  pub body : BodyView
  pub is : found ≡ Some body
  pub parameters : body.parameters ≡ count

-- what takes alike is found
Takes-alike : (one : BodyView) (found : Option BodyView) → TakeAlike (Some one) found → Takes found one.parameters
Takes-alike one None alike = absurd alike
Takes-alike one (Some body) alike = record { body = body; is = refl; parameters = alike }

-- the code of a bundle of a function, or of the text version if it is one of another
IsCode-test : (program : ProgramView) (view : BundleView) (f : FunId) (own : Bool) → MayEnter program (bundle view)
    → IsCode program (cond own (made view.bodies (length view.bodies)) (text f 0))
IsCode-test program view f true may = (view.function, may)
IsCode-test program view f false may = tt

-- the code of an entry is that of the program, or of a bundle with its shape
IsCode-entry : (program : ProgramView) (entry : Entry) (f : FunId) → MayEnter program entry
    → IsCode program (entered_code entry f)
IsCode-entry program text_version f may = tt
IsCode-entry program (bundle view) f may = IsCode-test program view f (nat_eq view.function.0 f.0) may

-- a run of main starts validly, whatever it may enter
pub IsValid-begun : (program : ProgramView) (input : List Literal) (answers : Answers) → IsProgram program
    → AllByRecursion (IsLiteral (length program.functions)) input → AnswersMayBeEntered program answers
    → IsValid program (version_start program input answers).state
IsValid-begun program input answers checked literals may =
    let entry : Entry = (answers 1 program.main).entry in
    let code : FrameCode = entered_code entry program.main in
    let Alike : Option BodyView → Type 0 = λ found. TakeAlike found (body_at program code) in
    let takes : Takes (body_at program code) checked.main.version.body.parameters =
    Takes-alike checked.main.version.body (body_at program code)
    (subst Alike (runs_main program checked.main) (TakeAlike-entry program entry program.main (may 1 program.main))) in
    IsValid-start_of program code takes.body [] [] input [] takes.is
    (IsCode-entry program entry program.main (may 1 program.main))
    (MayStart-main program takes.body.parameters input (takes.parameters ∙ checked.main.parameters) literals)

-- a run from a valid moment stays valid
pub IsValid-version_run : (program : ProgramView) (answers : Answers) (steps : ℕ) (c : Counted) → IsProgram program
    → AnswersMayBeEntered program answers → IsValid program c.state
    → IsValid program (version_run program answers steps c).state
IsValid-version_run program answers steps c checked may valid =
    let Valid : State → Type 0 = IsValid program in
    subst Valid (run-chosen program answers steps c)
    (IsValid-run_by program (choices_in program answers steps c) c.state checked
    (holds-choices (MayEnter program) answers tt may program steps c) valid)

-- a run of main is valid at each moment
pub version_runs_are_valid : VersionRunsAreValid
version_runs_are_valid program input answers steps checked literals may =
    IsValid-version_run program answers steps (version_start program input answers) checked may
    (IsValid-begun program input answers checked literals may)
