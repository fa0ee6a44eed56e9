-- Runs of a checked program whose calls enter lawful bundles.
use Rattle.std.proofs.Common.{◌≡◌, ℕ, Bool, true, false, List, [], cond, length, nat_eq, refl, sym, ap, subst, ◌∙◌}
use Rattle.std.specs.List.{AllByRecursion}
use Rattle.std.proofs.lemmas.Bool.{eqb-true}
use Rattle.std.proofs.lemmas.Option.{same_Some}
use Rattle.sour_syntax.specs.declared.literal.FunId.{FunId}
use Rattle.sour_syntax.specs.declared.literal.Literal.{Literal}
use Rattle.sour_syntax.specs.BodyView.{BodyView}
use Rattle.sour_syntax.specs.Literals.{IsLiteral}
use Rattle.sour_syntax.specs.Program.{ProgramView, IsProgram}
use Rattle.sour_semantics.specs.State.{FrameCode, text, made, State, BundleView}
use Rattle.sour_semantics.specs.Step.{Entry, text_version, bundle, entered_code, body_at, body_or_empty}
use Rattle.sour_semantics.specs.Run.{start_of, start}
use Rattle.sour_semantics.specs.Shape.{TakesParameters}
use Rattle.sour_semantics.specs.Validity.{IsValid}
use Rattle.sour_semantics.specs.Agreement.{Agree, IsLawful}
use Rattle.laws_validity.proofs.Runs.{IsValid-start_of, IsValid-start, MayStart-main, runs_main}
use Rattle.laws_agreement.specs.Laws.{IsLawfulEntry, RunsAreShown}
use Rattle.laws_agreement.proofs.LawfulCalls.{TakesParameters-made, runs_agree}
use Rattle.laws_agreement.proofs.TextAlone.{text_agrees}

-- the start of a run of main that runs this code
abbrev started : ProgramView → FrameCode → List Literal → State
started program code input = start_of program code [] [] input []

-- a run of main starts validly in this code, and shows nothing from there that the text doesn't show
record StartsWell (program : ProgramView) (input : List Literal) (code : FrameCode) : Type 0 where
  pub valid : IsValid program (started program code input)
  pub agrees : Agree program (started program code input) (start program input)

-- the text version of main
StartsWell-text : (program : ProgramView) (input : List Literal) → IsProgram program
    → AllByRecursion (IsLiteral (length program.functions)) input → StartsWell program input (text program.main 0)
StartsWell-text program input checked literals = record {
  valid = IsValid-start program input checked literals;
  agrees = text_agrees program (start program input) checked (tt, tt);
}

-- the last body of a bundle of main has no parameters
top_parameters : (program : ProgramView) (view : BundleView) → IsProgram program → (lawful : IsLawful program view)
    → view.function ≡ program.main → lawful.shape.top.parameters ≡ 0
top_parameters program view checked lawful own =
    let takes : TakesParameters program lawful.shape.top =
    TakesParameters-made program view.bodies (length view.bodies) lawful.shape.top lawful.shape.each lawful.shape.last in
    let same : takes.text ≡ checked.main.version.body =
    same_Some takes.text checked.main.version.body
    (sym takes.found ∙ ap (λ (f : FunId). body_at program (text f 0)) (lawful.shape.own ∙ own) ∙ runs_main program checked.main) in
    takes.count ∙ ap (λ (body : BodyView). body.parameters) same ∙ checked.main.parameters

-- a lawful bundle of main
StartsWell-bundle : (program : ProgramView) (input : List Literal) (view : BundleView) → IsProgram program
    → AllByRecursion (IsLiteral (length program.functions)) input → IsLawful program view → view.function ≡ program.main
    → StartsWell program input (made view.bodies (length view.bodies))
StartsWell-bundle program input view checked literals lawful own =
    let code : FrameCode = made view.bodies (length view.bodies) in
    let Agrees : FunId → Type 0 = λ f. Agree program (started program code input) (started program (text f 0) input) in
    let none : (body_or_empty (body_at program (text view.function 0))).parameters ≡ 0 =
    ap (λ (f : FunId). (body_or_empty (body_at program (text f 0))).parameters) own
    ∙ ap (λ found. (body_or_empty found).parameters) (runs_main program checked.main) ∙ checked.main.parameters in
    record {
      valid = IsValid-start_of program code lawful.shape.top [] [] input [] lawful.shape.last (view.function, lawful.shape)
          (MayStart-main program lawful.shape.top.parameters input (top_parameters program view checked lawful own) literals);
      agrees = subst Agrees own
          (lawful.agrees [] [] input [] (MayStart-main program (body_or_empty (body_at program (text view.function 0))).parameters input none literals));
    }

-- a bundle of main or of another function, of which the text version of main is entered
StartsWell-test : (program : ProgramView) (input : List Literal) (view : BundleView) (own : Bool) → IsProgram program
    → AllByRecursion (IsLiteral (length program.functions)) input → IsLawful program view → nat_eq view.function.0 program.main.0 ≡ own
    → StartsWell program input (cond own (made view.bodies (length view.bodies)) (text program.main 0))
StartsWell-test program input view true checked literals lawful is =
    let numbered : ℕ → FunId = λ n. record { 0 = n } in
    StartsWell-bundle program input view checked literals lawful (ap numbered (eqb-true view.function.0 program.main.0 is))
StartsWell-test program input view false checked literals lawful is = StartsWell-text program input checked literals

-- whatever lawful entry main is entered by
StartsWell-entry : (program : ProgramView) (input : List Literal) (entry : Entry) → IsProgram program
    → AllByRecursion (IsLiteral (length program.functions)) input → IsLawfulEntry program entry
    → StartsWell program input (entered_code entry program.main)
StartsWell-entry program input text_version checked literals lawful = StartsWell-text program input checked literals
StartsWell-entry program input (bundle view) checked literals lawful =
    StartsWell-test program input view (nat_eq view.function.0 program.main.0) checked literals lawful refl

-- the run of the text shows what such a run shows
pub runs_are_shown : RunsAreShown
runs_are_shown program input entry choices checked literals lawful_entry lawful =
    let starts : StartsWell program input (entered_code entry program.main) =
    StartsWell-entry program input entry checked literals lawful_entry in
    runs_agree program choices (started program (entered_code entry program.main) input) (start program input) checked starts.valid lawful
    starts.agrees []
