-- A step is its effect, applied, and what it does to the turns and to the output.
use Rattle.std.proofs.Common.{◌≡◌, ℕ, Bool, true, false, cond, List, [], ◌∷◌, Option, None, Some, nat_eq, length, refl, sym, subst}
use Rattle.sour_syntax.specs.declared.instruction.Instr.{Instr}
use Rattle.sour_syntax.specs.declared.instruction.Line.{Line}
use Rattle.sour_syntax.specs.declared.literal.FunId.{FunId}
use Rattle.sour_syntax.specs.declared.literal.Value.{Value}
use Rattle.sour_syntax.specs.declared.literal.VarId.{VarId}
use Rattle.sour_syntax.specs.BodyView.{BodyView}
use Rattle.sour_syntax.specs.Labels.{from_label, first_label}
use Rattle.sour_syntax.specs.Program.{ProgramView}
use Rattle.sour_semantics.specs.State.{Frame, FrameCode, State, Ending}
use Rattle.sour_semantics.specs.Step.{Choice, Entry, step, act, act_first, lines_of, entered_code, body_at, enters, calls, returns, resumes}
use Rattle.laws_effects.specs.Effect.{world_of, Deed, goes, asks, gives, lands, finishes, Effect, effect, done, counted, applied, effect_first, effect_unless, effect_next, output_after}
use Rattle.laws_effects.specs.Laws.{StepsByEffect}
use Rattle.laws_effects.proofs.Effects.{acts_by_effect}

module _ (program : ProgramView) (choice : Choice) where
  -- by the lines that are left
  step-first : (frame : Frame) (frames : List Frame) (lines : List Line) (s : State)
      → act_first program choice frame lines (record s { frames = frame ∷ frames; ending = None })
      ≡ applied program choice.entry (effect_first program choice.leaves frame (world_of s) lines)
      (record s { frames = frame ∷ frames; ending = None })
  step-first frame frames [] s = refl
  step-first frame frames (line ∷ lines) s =
      acts_by_effect program choice frame frames line.instr (first_label lines) (record s { ending = None })

  -- by the frames and the end
  step-parts : (frames : List Frame) (ending : Option Ending) (s : State)
      → step program choice (record s { frames = frames; ending = ending })
      ≡ applied program choice.entry (effect_unless program choice.leaves (world_of s) frames ending)
      (record s { frames = frames; ending = ending })
  step-parts frames (Some ending) s = refl
  step-parts [] None s = refl
  step-parts (frame ∷ frames) None s =
      step-first frame frames (from_label frame.label (lines_of program frame.code)) s

-- a step is the effect of what the run does next, applied
pub steps_by_effect : StepsByEffect
steps_by_effect program choice s = step-parts program choice s.frames s.ending s

-- the turns are these, and so is the output
pub record Shows (taken : ℕ) (written : List ℕ) (s : State) : Type 0 where
  pub turns : s.turns ≡ taken
  pub output : s.output ≡ written

-- whichever of two states it is
Shows-cond : (turns : ℕ) (output : List ℕ) (b : Bool) (s t : State) → Shows turns output s → Shows turns output t
    → Shows turns output (cond b s t)
Shows-cond turns output true s t first second = first
Shows-cond turns output false s t first second = second

-- a body that is entered, or a trap instead, takes no turn of its own and writes nothing
Shows-enters : (x : VarId) (code : FrameCode) (found : Option BodyView) (values : List Value) (next : List ℕ)
    (s : State) → Shows s.turns s.output (enters x code found values next s)
Shows-enters x code None values next s = record { turns = refl; output = refl }
Shows-enters x code (Some body) values next s =
    Shows-cond s.turns s.output (nat_eq (length values) body.parameters) _ _ (record { turns = refl; output = refl })
    (record { turns = refl; output = refl })

-- nor does a call
Shows-calls : (program : ProgramView) (entry : Entry) (x : VarId) (f : Option FunId) (values : List Value)
    (next : List ℕ) (s : State) → Shows s.turns s.output (calls program entry x f values next s)
Shows-calls program entry x None values next s = record { turns = refl; output = refl }
Shows-calls program entry x (Some f) values next s =
    Shows-enters x (entered_code entry f) (body_at program (entered_code entry f)) values next s

-- nor does a frame that gets its result
Shows-resumes : (value : Value) (frame : Frame) (frames : List Frame) (waits : Option ℕ) (s : State)
    → Shows s.turns s.output (resumes value frame frames waits s)
Shows-resumes value frame frames None s = record { turns = refl; output = refl }
Shows-resumes value frame frames (Some x) s = record { turns = refl; output = refl }

-- nor does a frame that gives one
Shows-returns : (value : Value) (frames : List Frame) (s : State) → Shows s.turns s.output (returns value frames s)
Shows-returns value [] s = record { turns = refl; output = refl }
Shows-returns value (frame ∷ []) s = record { turns = refl; output = refl }
Shows-returns value (frame ∷ below ∷ frames) s = Shows-resumes value below frames below.waits s

-- a deed takes no turn, and leaves this output
Shows-done : (program : ProgramView) (entry : Entry) (deed : Deed) (s : State)
    → Shows s.turns (output_after deed s.output) (done program entry deed s)
Shows-done program entry (goes label environment world) s = record { turns = refl; output = refl }
Shows-done program entry (asks x f values next) s = Shows-calls program entry x f values next s
Shows-done program entry (gives value) s = Shows-returns value s.frames s
Shows-done program entry (lands tops) s = record { turns = refl; output = refl }
Shows-done program entry (finishes ending) s = record { turns = refl; output = refl }

-- an effect takes its own turn alone
pub shown-applied : (program : ProgramView) (entry : Entry) (e : Effect) (s : State)
    → Shows (counted e.turn s.turns) (output_after e.deed s.output) (applied program entry e s)
shown-applied program entry e s = Shows-done program entry e.deed (record s { turns = counted e.turn s.turns })

-- so does an instruction
pub shown-act : (program : ProgramView) (choice : Choice) (frame : Frame) (frames : List Frame) (instr : Instr)
    (next : List ℕ) (s : State)
    → Shows (counted (effect program choice.leaves frame (world_of s) instr next).turn s.turns)
    (output_after (effect program choice.leaves frame (world_of s) instr next).deed s.output)
    (act program choice frame instr next (record s { frames = frame ∷ frames }))
shown-act program choice frame frames instr next s =
    let e : Effect = effect program choice.leaves frame (world_of s) instr next in
    let Shown : State → Type 0 = Shows (counted e.turn s.turns) (output_after e.deed s.output) in
    subst Shown (sym (acts_by_effect program choice frame frames instr next s))
    (shown-applied program choice.entry e (record s { frames = frame ∷ frames }))

-- so does a step
pub shown-step : (program : ProgramView) (choice : Choice) (s : State)
    → Shows (counted (effect_next program choice.leaves s).turn s.turns)
    (output_after (effect_next program choice.leaves s).deed s.output) (step program choice s)
shown-step program choice s =
    let e : Effect = effect_next program choice.leaves s in
    let Shown : State → Type 0 = Shows (counted e.turn s.turns) (output_after e.deed s.output) in
    subst Shown (sym (steps_by_effect program choice s)) (shown-applied program choice.entry e s)
