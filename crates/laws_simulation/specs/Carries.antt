-- What a pass owes whose code is carried back to the old code, label by label.
use Rattle.std.specs.Prelude.{◌≡◌, ◌<◌, ◌⊎◌, ℕ, List, ◌∷◌, Bool, None, Some, length}
use Rattle.std.specs.List.{AllByRecursion}
use Rattle.sour_syntax.specs.declared.instruction.Line.{Line}
use Rattle.sour_syntax.specs.declared.literal.Value.{Value}
use Rattle.sour_syntax.specs.BodyView.{BodyView}
use Rattle.sour_syntax.specs.Labels.{from_label, first_label}
use Rattle.sour_syntax.specs.Program.{ProgramView}
use Rattle.sour_semantics.specs.State.{Environment, Frame, FrameCode, text, made, State}
use Rattle.sour_semantics.specs.Step.{body_of, lines_of, step}
use Rattle.sour_semantics.specs.Validity.{IsValidFrame}
use Rattle.sour_semantics.specs.Agreement.{free_choice, free_run}
use Rattle.laws_effects.specs.Effect.{World, world_of, Deed, goes, asks, gives, lands, finishes, effect}
use Rattle.laws_simulation.specs.Ties.{AreTied, AreFollowing, resumed}
use Rattle.laws_simulation.specs.Carry.{Carrying, back, back_effect}

-- the code is a version of the text or a body of this bundle
abbrev pub IsOf : List BodyView → FrameCode → Type 0
IsOf new (text f version) = Unit {0}
IsOf new (made bodies number) = bodies ≡ new

-- the code is a version of the text, or a body of this bundle in which the frame may stand
abbrev pub StandsBy : List BodyView → (ℕ → Frame → Type 0) → FrameCode → Frame → Type 0
StandsBy new Stands (text f version) frame = Unit {0}
StandsBy new Stands (made bodies number) frame = (bodies ≡ new) × Stands number frame

-- the frame may stand in its own code
abbrev pub StandsAt : List BodyView → (ℕ → Frame → Type 0) → Frame → Type 0
StandsAt new Stands frame = StandsBy new Stands frame.code frame

-- what is known of the frame that goes on or waits
abbrev pub GoesOnAs : (Frame → Type 0) → Frame → Deed → Type 0
GoesOnAs Fact frame (goes label environment world) = Fact (record frame { label = label; environment = environment })
GoesOnAs Fact frame (asks x f values next) = Fact (record frame { label = next; waits = Some x.0 })
GoesOnAs Fact frame (gives value) = Unit {0}
GoesOnAs Fact frame (lands frames) = Unit {0}
GoesOnAs Fact frame (finishes ending) = Unit {0}

-- what is known of the frame that goes on or waits, and of those that an exit makes
abbrev pub FactsOf : (Frame → Type 0) → Frame → Deed → Type 0
FactsOf Fact frame (goes label environment world) = Fact (record frame { label = label; environment = environment })
FactsOf Fact frame (asks x f values next) = Fact (record frame { label = next; waits = Some x.0 })
FactsOf Fact frame (gives value) = Unit {0}
FactsOf Fact frame (lands frames) = AllByRecursion Fact frames
FactsOf Fact frame (finishes ending) = Unit {0}

-- a frame of the new code, of which this is known, is tied to the frame for which it stands
abbrev pub TiesBack : Carrying → (Frame → Type 0) → Frame → Frame → Type 0
TiesBack by Fact new old = Fact new × (old ≡ back by new)

-- a frame of a body of this bundle that waits for nothing
abbrev pub made_frame : List BodyView → ℕ → List ℕ → Environment → Frame
made_frame new number label environment =
    record { code = made new number; label = label; environment = environment; waits = None }

-- what the kit asks of how frames of the new bodies may stand, and that rows stay as long
pub record Carries (program : ProgramView) (new : List BodyView) (by : Carrying)
    (Stands : ℕ → Frame → Type 0) : Type 0 where
  pub rows : (number : ℕ) → length (body_of program (by.codes number)).variables ≡ length
      (body_of program (made new number)).variables
  -- below the top a frame may stand anyhow
  pub low : (number : ℕ) (frame : Frame) → number < length new → Stands number frame
  -- a frame that got its result may stand as it did
  pub resumes : (number : ℕ) (frame : Frame) (x : ℕ) (value : Value) → Stands number frame → frame.waits ≡ Some x
      → Stands number (resumed frame x value)

-- the line at which a frame stands does what the old line does, which may be told to leave if this one isn't
pub record StepsBack (program : ProgramView) (new : List BodyView) (by : Carrying) (Stands : ℕ → Frame → Type 0)
    (leaves : Bool) (frame : Frame) (world : World) (line : Line) (rest : List Line) : Type 0 where
  pub other : Line
  pub others : List Line
  pub stands : from_label (back by frame).label (lines_of program (back by frame).code) ≡ other ∷ others
  pub told : Bool
  pub effects : effect program told (back by frame) world other.instr (first_label others)
      ≡ back_effect by frame.code (effect program leaves frame world line.instr (first_label rest))
  pub onward : GoesOnAs (StandsAt new Stands) frame
      (effect program leaves frame world line.instr (first_label rest)).deed

-- a step of the new frame is followed by steps of the old one, whatever stands below
abbrev pub IsFollowedFrom : ProgramView → (Frame → Frame → Type 0) → Bool → Frame → Frame → State → Type 0
IsFollowedFrom program Ties leaves new old s = (news olds : List Frame) → AreTied Ties news olds
    → (choices : List Bool) × AreFollowing Ties
    (step program (free_choice leaves) (record s { frames = new ∷ news; ending = None }))
    (free_run program choices (record s { frames = old ∷ olds; ending = None }))

-- each line of the new bodies steps back, or is followed otherwise
abbrev pub OwesLines : ProgramView → List BodyView → Carrying → (ℕ → Frame → Type 0) → (Frame → Frame → Type 0) → Type 0
OwesLines program new by Stands Ties = (leaves : Bool) (number : ℕ) (label : List ℕ) (environment : Environment)
    (s : State) (line : Line) (rest : List Line)
    → Stands number (made_frame new number label environment)
    → IsValidFrame program (length s.heap) (made_frame new number label environment)
    → from_label label (lines_of program (made new number)) ≡ line ∷ rest
    → StepsBack program new by Stands leaves (made_frame new number label environment) (world_of s) line rest
    ⊎ IsFollowedFrom program Ties leaves (made_frame new number label environment)
    (back by (made_frame new number label environment)) s
