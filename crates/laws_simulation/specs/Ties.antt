-- A relation on frames, carried along runs.
use Rattle.std.specs.Prelude.{◌≡◌, ℕ, List, [], ◌∷◌, Bool, None, Some, slice_set}
use Rattle.sour_syntax.specs.declared.instruction.Line.{Line}
use Rattle.sour_syntax.specs.declared.literal.FunId.{FunId}
use Rattle.sour_syntax.specs.declared.literal.Value.{Value}
use Rattle.sour_syntax.specs.BodyView.{BodyView}
use Rattle.sour_syntax.specs.Labels.{from_label, first_label}
use Rattle.sour_syntax.specs.Program.{ProgramView}
use Rattle.sour_semantics.specs.State.{Environment, Frame, text, State}
use Rattle.sour_semantics.specs.Step.{entered_frame, lines_of, step}
use Rattle.sour_semantics.specs.Validity.{IsValid}
use Rattle.sour_semantics.specs.Agreement.{free_choice, free_run}
use Rattle.laws_effects.specs.Effect.{World, Deed, goes, asks, gives, lands, finishes, Effect, effect}

-- frames are tied one by one
abbrev pub AreTied : (Frame → Frame → Type 0) → List Frame → List Frame → Type 0
AreTied Ties [] [] = Unit {0}
AreTied Ties [] (old ∷ olds) = ⊥
AreTied Ties (new ∷ news) [] = ⊥
AreTied Ties (new ∷ news) (old ∷ olds) = Ties new old × AreTied Ties news olds

-- the frame got its result
abbrev pub resumed : Frame → ℕ → Value → Frame
resumed frame x value = record frame { environment = slice_set frame.environment x (Some value); waits = None }

-- what every such relation owes, whatever the pass
pub record IsTie (program : ProgramView) (Ties : Frame → Frame → Type 0) : Type 0 where
  pub waits : (new old : Frame) → Ties new old → new.waits ≡ old.waits
  pub resumes : (new old : Frame) (x : ℕ) (value : Value) → Ties new old → new.waits ≡ Some x
      → Ties (resumed new x value) (resumed old x value)
  pub of_text : (f : FunId) (body : BodyView) (values : List Value)
      → Ties (entered_frame (text f 0) body values) (entered_frame (text f 0) body values)

-- the states differ in their frames alone, and these are tied
pub record AreFollowing (Ties : Frame → Frame → Type 0) (s t : State) : Type 0 where
  pub same : t ≡ record s { frames = t.frames }
  pub frames : AreTied Ties s.frames t.frames

-- what two tied frames do is the same, but for labels and rows, and leaves them tied
abbrev pub AreTiedDeeds : (Frame → Frame → Type 0) → Frame → Frame → Deed → Deed → Type 0
AreTiedDeeds Ties new old (goes label environment world) other =
    (at : List ℕ) × (row : Environment) × (other ≡ goes at row world)
    × Ties (record new { label = label; environment = environment }) (record old { label = at; environment = row })
AreTiedDeeds Ties new old (asks x f values next) other =
    (at : List ℕ) × (other ≡ asks x f values at) × Ties (record new { label = next; waits = Some x.0 })
    (record old { label = at; waits = Some x.0 })
AreTiedDeeds Ties new old (gives value) other = other ≡ gives value
AreTiedDeeds Ties new old (lands tops) other = (others : List Frame) × (other ≡ lands others) × AreTied Ties tops others
AreTiedDeeds Ties new old (finishes ending) other = other ≡ finishes ending

-- two tied frames take the same turn, and do what leaves them tied
pub record AreTiedEffects (Ties : Frame → Frame → Type 0) (new old : Frame) (e other : Effect) : Type 0 where
  pub turn : other.turn ≡ e.turn
  pub deeds : AreTiedDeeds Ties new old e.deed other.deed

-- what a pass owes: each step of a frame, from a valid state, is followed by steps of the frame tied to it
abbrev pub StepsAreFollowed : ProgramView → (Frame → Frame → Type 0) → Type 0
StepsAreFollowed program Ties = (leaves : Bool) (new old : Frame) (news olds : List Frame) (s : State)
    → IsValid program (record s { frames = new ∷ news; ending = None })
    → Ties new old → AreTied Ties news olds
    → (choices : List Bool) × AreFollowing Ties
    (step program (free_choice leaves) (record s { frames = new ∷ news; ending = None }))
    (free_run program choices (record s { frames = old ∷ olds; ending = None }))

-- the lines at which tied frames stand have tied effects, if the old frame may be told to leave when the new one isn't
pub record LinesAgree (program : ProgramView) (Ties : Frame → Frame → Type 0) (leaves : Bool) (new old : Frame)
    (world : World) : Type 0 where
  pub line : Line
  pub rest : List Line
  pub stands : from_label new.label (lines_of program new.code) ≡ line ∷ rest
  pub other : Line
  pub others : List Line
  pub stands_there : from_label old.label (lines_of program old.code) ≡ other ∷ others
  pub told : Bool
  pub effects : AreTiedEffects Ties new old (effect program leaves new world line.instr (first_label rest))
      (effect program told old world other.instr (first_label others))
