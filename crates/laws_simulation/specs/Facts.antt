-- What a pass owes that changes instructions of a bundle's top and keeps its labels.
use Rattle.std.specs.Prelude.{◌≡◌, ℕ, List, ◌∷◌, Bool, None, Some, length}
use Rattle.sour_syntax.specs.declared.instruction.Instr.{Instr}
use Rattle.sour_syntax.specs.declared.instruction.Line.{Line}
use Rattle.sour_syntax.specs.declared.literal.Value.{Value}
use Rattle.sour_syntax.specs.BodyView.{BodyView}
use Rattle.sour_syntax.specs.Labels.{from_label, first_label}
use Rattle.sour_syntax.specs.Program.{ProgramView, IsProgram}
use Rattle.sour_syntax.specs.Targets.{made_body}
use Rattle.sour_semantics.specs.State.{Frame, FrameCode, BundleView}
use Rattle.sour_semantics.specs.Step.{lines_of, entered_frame}
use Rattle.sour_semantics.specs.Shape.{IsMadeBody, HasShape}
use Rattle.sour_semantics.specs.Validity.{IsValidFrame}
use Rattle.sour_semantics.specs.Agreement.{IsLawful}
use Rattle.laws_simulation.specs.Carries.{GoesOnAs}
use Rattle.laws_effects.specs.Effect.{World, Deed, effect}
use Rattle.laws_simulation.specs.Relined.{relined_body}
use Rattle.laws_effects.specs.Onward.{IsDeedOf}
use Rattle.laws_simulation.specs.Ties.{resumed}
use Rattle.laws_simulation.specs.Tops.{with_last}

-- a deed that the line may do at which a frame stands among these lines
pub record DeedThere (program : ProgramView) (lines : List Line) (frame : Frame) (world : World)
    (deed : Deed) : Type 0 where
  pub line : Line
  pub rest : List Line
  pub stands : from_label frame.label lines ≡ line ∷ rest
  pub does : IsDeedOf program frame world.heap line.instr (first_label rest) deed

-- facts hold along runs of the changed top, and by them each changed line does what the old one does
pub record KeepsFacts (program : ProgramView) (change : List ℕ → Instr → Instr) (top : BodyView)
    (Fact : Frame → Type 0) : Type 0 where
  pub resumes : (frame : Frame) (x : ℕ) (value : Value) → Fact frame → frame.waits ≡ Some x
      → Fact (resumed frame x value)
  pub starts : (code : FrameCode) (values : List Value) → Fact (entered_frame code (relined_body change top) values)
  -- the deed is one of the old line too
  pub after : (frame : Frame) (arrays : ℕ) (world : World) (deed : Deed)
      → lines_of program frame.code ≡ (relined_body change top).lines → Fact frame
      → IsValidFrame program arrays frame → frame.waits ≡ None
      → DeedThere program (relined_body change top).lines frame world deed
      → DeedThere program top.lines frame world deed → GoesOnAs Fact frame deed
  -- the old line may be told to leave if the changed one isn't
  pub effects : (leaves : Bool) (frame : Frame) (arrays : ℕ) (world : World) (line : Line) (rest : List Line)
      → lines_of program frame.code ≡ (relined_body change top).lines → Fact frame
      → IsValidFrame program arrays frame → from_label frame.label top.lines ≡ line ∷ rest
      → (told : Bool) ×
      (effect program leaves frame world (change line.label line.instr) (first_label rest)
      ≡ effect program told frame world line.instr (first_label rest))

-- a lawful bundle whose top has changed so is lawful, if it has its shape
abbrev pub RelinedIsLawful : Type 1
RelinedIsLawful = (program : ProgramView) (change : List ℕ → Instr → Instr) (view : BundleView) (top : BodyView)
    (Fact : Frame → Type 0) → IsProgram program
    → made_body view.bodies (length view.bodies) ≡ Some top
    → ((lower : List BodyView) → IsMadeBody program lower top → KeepsFacts program change top Fact)
    → IsLawful program view → HasShape program (record view { bodies = with_last (relined_body change) view.bodies })
    → IsLawful program (record view { bodies = with_last (relined_body change) view.bodies })
