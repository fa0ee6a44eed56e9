-- Bundles that are lawful because their runs are followed.
use Rattle.std.proofs.Common.{◌≡◌, ℕ, List, [], Some, refl, sym, ap, subst, ◌∙◌, length}
use Rattle.sour_syntax.specs.declared.literal.Literal.{Literal}
use Rattle.sour_syntax.specs.declared.literal.Value.{Value}
use Rattle.sour_syntax.specs.Program.{ProgramView, IsProgram}
use Rattle.sour_semantics.specs.State.{Heap, Frame, FrameCode, text, made, BundleView}
use Rattle.sour_semantics.specs.Step.{body_at, body_or_empty, body_of, entered_frame}
use Rattle.sour_semantics.specs.Run.{start_of}
use Rattle.sour_semantics.specs.Shape.{TakesParameters, HasShape}
use Rattle.sour_semantics.specs.Validity.{MayStart, IsValid}
use Rattle.sour_semantics.specs.Agreement.{IsLawful}
use Rattle.laws_validity.proofs.Runs.{IsValid-start_of}
use Rattle.laws_agreement.proofs.LawfulCalls.{TakesParameters-made}
use Rattle.laws_simulation.specs.Following.{AgreesFromStarts}
use Rattle.laws_simulation.specs.Ties.{IsTie, AreFollowing, StepsAreFollowed}
use Rattle.laws_simulation.proofs.Following.{followed-agrees}
use Rattle.laws_simulation.proofs.Tied.{follow-steps, follow-matches, follow-turns}

-- the run of the top of a bundle starts validly from each start of the text version
pub starts-validly : (program : ProgramView) (view : BundleView) → IsProgram program → HasShape program view
    → (values : List Value) (heap : Heap) (rest : List Literal) (output : List ℕ)
    → MayStart program (body_of program (text view.function 0)).parameters values heap rest output
    → IsValid program (start_of program (made view.bodies (length view.bodies)) values heap rest output)
starts-validly program view checked shape values heap rest output may =
    let takes : TakesParameters program shape.top = TakesParameters-made program view.bodies
    (length view.bodies) shape.top shape.each shape.last in
    let found : body_at program (text view.function 0) ≡ Some takes.text =
    ap (λ f. body_at program (text f 0)) (sym shape.own) ∙ takes.found in
    let same : (body_of program (text view.function 0)).parameters ≡ shape.top.parameters =
    ap (λ one. (body_or_empty one).parameters) found ∙ sym takes.count in
    let May : ℕ → Type 0 = λ count. MayStart program count values heap rest output in
    IsValid-start_of program (made view.bodies (length view.bodies)) shape.top values heap rest output shape.last
    (view.function, shape)
    (subst May same may)

-- a bundle is lawful if each step of tied frames is followed, and its start is tied to that of code that agrees
pub tied-lawful : (program : ProgramView) (view : BundleView) (old : FrameCode) (Ties : Frame → Frame → Type 0)
    → IsProgram program → HasShape program view
    → IsTie program Ties → StepsAreFollowed program Ties
    → ((values : List Value) → Ties
    (entered_frame (made view.bodies (length view.bodies))
    (body_of program (made view.bodies (length view.bodies))) values)
    (entered_frame old (body_of program old) values))
    → AgreesFromStarts program view.function old → IsLawful program view
tied-lawful program view old Ties checked shape is owes starts agrees = record {
  shape = shape;
  agrees = followed-agrees program view.function (made view.bodies (length view.bodies)) old (AreFollowing Ties) checked
      (record {
        starts = λ values heap rest output may. ([], record { same = refl; frames = (starts values, tt) });
        valid = starts-validly program view checked shape;
        steps = λ leaves s t valid follows. follow-steps program Ties is owes leaves s t valid follows;
        turns = λ s t follows. follow-turns program Ties is s t follows;
        matches = λ s t follows. follow-matches program Ties is s t follows;
      })
      agrees;
}
