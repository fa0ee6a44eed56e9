-- Bundles that differ in their last body alone.
use Rattle.std.specs.Prelude.{◌≡◌, ◌⊎◌, ℕ, List, [], ◌∷◌, ◌++◌, Bool, Some, length, nat_eq, if◌then◌else◌}
use Rattle.sour_syntax.specs.declared.instruction.Line.{Line}
use Rattle.sour_syntax.specs.declared.literal.FunId.{FunId}
use Rattle.sour_syntax.specs.declared.literal.Value.{Value}
use Rattle.sour_syntax.specs.BodyView.{BodyView}
use Rattle.sour_syntax.specs.Labels.{from_label}
use Rattle.sour_syntax.specs.Program.{ProgramView}
use Rattle.sour_semantics.specs.State.{Environment, Frame, made, State, BundleView}
use Rattle.sour_semantics.specs.Validity.{IsValidFrame}
use Rattle.laws_simulation.specs.Carries.{TiesBack, StandsAt, made_frame, StepsBack, IsFollowedFrom}
use Rattle.laws_simulation.specs.Carry.{Carrying, back}
use Rattle.laws_effects.specs.Effect.{world_of}
use Rattle.laws_simulation.specs.Ties.{resumed}

-- the bundle of a function with these bodies below its top
abbrev pub with_top : FunId → List BodyView → BodyView → BundleView
with_top function lower top = record { function = function; bodies = lower ++ top ∷ [] }

-- the last of some bodies changed
abbrev pub with_last : (BodyView → BodyView) → List BodyView → List BodyView
with_last change [] = []
with_last change (body ∷ []) = change body ∷ []
with_last change (body ∷ next ∷ bodies) = body ∷ with_last change (next ∷ bodies)

-- a top gives way to another one with rows as long
pub record TopChange : Type 1 where
  pub lower : List BodyView
  pub top : BodyView
  pub body : BodyView
  pub rows : length top.variables ≡ length body.variables
  -- for each label of the new top that of the old one for which it stands
  pub labels : List ℕ → List ℕ
  -- what is known of frames of the new top
  pub Fact : Frame → Type 0
  pub resumes : (frame : Frame) (x : ℕ) (value : Value) → Fact frame → frame.waits ≡ Some x
      → Fact (resumed frame x value)

-- the bodies with the old top
abbrev pub old_bodies : TopChange → List BodyView
old_bodies change = change.lower ++ change.top ∷ []

-- the bodies with the new top
abbrev pub new_bodies : TopChange → List BodyView
new_bodies change = change.lower ++ change.body ∷ []

-- each body stands for that with the same number, and a label of the new top for one of the old top
abbrev pub by_top : TopChange → Carrying
by_top change = record {
  codes = made (old_bodies change);
  labels = λ number label. if nat_eq number (length (new_bodies change)) then change.labels label else label;
}

-- the fact is known of frames of the new top, and nothing of others
abbrev pub TopStands : TopChange → ℕ → Frame → Type 0
TopStands change number frame = number ≡ length (new_bodies change) → change.Fact frame

-- a frame is tied to the one for which it stands
abbrev pub TopTie : TopChange → Frame → Frame → Type 0
TopTie change = TiesBack (by_top change) (StandsAt (new_bodies change) (TopStands change))

-- a frame of the new top
abbrev pub top_frame : TopChange → List ℕ → Environment → Frame
top_frame change label environment = made_frame (new_bodies change) (length (new_bodies change)) label environment

-- each line of the new top steps back, or is followed otherwise
abbrev pub OwesTop : ProgramView → TopChange → (Frame → Frame → Type 0) → Type 0
OwesTop program change Ties =
    (leaves : Bool) (label : List ℕ) (environment : Environment) (s : State) (line : Line) (rest : List Line)
    → change.Fact (top_frame change label environment) → IsValidFrame program (length s.heap)
    (top_frame change label environment)
    → from_label label change.body.lines ≡ line ∷ rest
    → StepsBack program (new_bodies change) (by_top change) (TopStands change) leaves
    (top_frame change label environment) (world_of s) line rest
    ⊎ IsFollowedFrom program Ties leaves (top_frame change label environment)
    (back (by_top change) (top_frame change label environment)) s

-- a fact of frames that is one of their labels alone
abbrev pub AtLabel : (List ℕ → Type 0) → Frame → Type 0
AtLabel Holds frame = Holds frame.label
