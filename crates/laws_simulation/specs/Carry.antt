-- Code of a new bundle, carried back to the code that it stands for.
use Rattle.std.specs.Prelude.{◌≡◌, ℕ, List, [], ◌∷◌, Result, Ok, Err, map, length}
use Rattle.sour_syntax.specs.declared.exit.Exit.{Exit}
use Rattle.sour_syntax.specs.declared.instruction.Instr.{Instr}
use Rattle.sour_syntax.specs.declared.instruction.Instr.TheVariants.{Branch, Goto, Assume}
use Rattle.sour_syntax.specs.declared.trap.Trap.{Trap}
use Rattle.sour_syntax.specs.Exits.{Continuation, continuations}
use Rattle.sour_syntax.specs.Program.{ProgramView}
use Rattle.sour_semantics.specs.State.{Heap, Frame, FrameCode, text, made}
use Rattle.sour_semantics.specs.Step.{body_of, exit_code, landed_frames}
use Rattle.laws_effects.specs.Effect.{Deed, goes, asks, gives, lands, finishes, Effect}

-- by the number of a body of the new bundle the code for which it stands, and for each of its labels that code's label
pub record Carrying : Type 0 where
  pub codes : ℕ → FrameCode
  pub labels : ℕ → List ℕ → List ℕ

-- the code for which a frame's code stands; a version of the text stands for itself
abbrev pub back_code : Carrying → FrameCode → FrameCode
back_code by (text f version) = text f version
back_code by (made bodies number) = by.codes number

-- the label for which a label of this code stands
abbrev pub back_label : Carrying → FrameCode → List ℕ → List ℕ
back_label by (text f version) label = label
back_label by (made bodies number) label = by.labels number label

-- the frame for which a frame stands
abbrev pub back : Carrying → Frame → Frame
back by frame = record frame { code = back_code by frame.code; label = back_label by frame.code frame.label }

-- a deed in the code for which the frame's code stands
abbrev pub back_deed : Carrying → FrameCode → Deed → Deed
back_deed by code (goes label environment world) = goes (back_label by code label) environment world
back_deed by code (asks x f values next) = asks x f values (back_label by code next)
back_deed by code (gives value) = gives value
back_deed by code (lands frames) = lands (map (back by) frames)
back_deed by code (finishes ending) = finishes ending

-- an effect in the code for which the frame's code stands
abbrev pub back_effect : Carrying → FrameCode → Effect → Effect
back_effect by code e = record { turn = e.turn; deed = back_deed by code e.deed }

-- the frames for which frames stand, if they were made
abbrev pub back_frames : Carrying → Result (List Frame) Trap → Result (List Frame) Trap
back_frames by (Ok frames) = Ok (map (back by) frames)
back_frames by (Err trap) = Err trap

-- the old exit makes of the old frame what the new exit makes of the new one
abbrev pub LandsBack : ProgramView → Carrying → Frame → Exit → Exit → Type 0
LandsBack program by frame exit other = (heap : Heap)
    → landed_frames program (back by frame) heap (continuations other)
    ≡ back_frames by (landed_frames program frame heap (continuations exit))

-- an instruction of the new code is the old one but for its labels and its exits
abbrev pub IsCarried : ProgramView → Carrying → Frame → Instr → Instr → Type 0
IsCarried program by frame (Branch e a b) other =
    other ≡ Branch e (back_label by frame.code a) (back_label by frame.code b)
IsCarried program by frame (Goto a) other = other ≡ Goto (back_label by frame.code a)
IsCarried program by frame (Assume es exit) other =
    (old_exit : Exit) × (other ≡ Assume es old_exit) × LandsBack program by frame exit old_exit
IsCarried program by frame instr other = other ≡ instr

-- an old continuation makes the frame for which the frame of the new one stands
pub record LandsAlike (program : ProgramView) (by : Carrying) (code : FrameCode) (new old : Continuation) : Type 0 where
  pub binds : old.binds ≡ new.binds
  pub waits : old.waits ≡ new.waits
  pub code_is : exit_code (back_code by code) old.target.code ≡ back_code by (exit_code code new.target.code)
  pub label_is : old.target.label ≡ back_label by (exit_code code new.target.code) new.target.label
  pub rows : length (body_of program (back_code by (exit_code code new.target.code))).variables
      ≡ length (body_of program (exit_code code new.target.code)).variables

-- so does each of the old continuations, one by one
abbrev pub AllLandAlike : ProgramView → Carrying → FrameCode → List Continuation → List Continuation → Type 0
AllLandAlike program by code [] [] = Unit {0}
AllLandAlike program by code [] (old ∷ olds) = ⊥
AllLandAlike program by code (new ∷ news) [] = ⊥
AllLandAlike program by code (new ∷ news) (old ∷ olds) =
    LandsAlike program by code new old × AllLandAlike program by code news olds
