-- Runs that begin with more turns.
use Rattle.std.proofs.Common.{◌≡◌, ◌+◌, ℕ, zero, suc, Bool, true, false, List, [], ◌∷◌, Option, None, Some, cond, length, nat_eq, refl, sym, ap, ◌∙◌, arith}
use Rattle.sour_syntax.specs.declared.literal.FunId.{FunId}
use Rattle.sour_syntax.specs.declared.literal.Value.{Value}
use Rattle.sour_syntax.specs.declared.literal.VarId.{VarId}
use Rattle.sour_syntax.specs.BodyView.{BodyView}
use Rattle.sour_syntax.specs.Program.{ProgramView}
use Rattle.sour_semantics.specs.State.{Frame, FrameCode, State}
use Rattle.sour_semantics.specs.Step.{Choice, Entry, text_choice, step, entered_code, enters, calls, resumes, returns, body_at}
use Rattle.sour_semantics.specs.Run.{text_run}
use Rattle.sour_semantics.specs.Agreement.{run_by, free_choice, free_run}
use Rattle.laws_effects.specs.Effect.{Deed, goes, asks, gives, lands, finishes, Effect, done, counted, applied, effect_next}
use Rattle.laws_effects.proofs.Steps.{steps_by_effect}
use Rattle.laws_agreement.specs.Laws.{later, KeepsLater}

-- whichever of two states it is
later-cond : (turns : ℕ) (b : Bool) (s t u v : State) → u ≡ later turns s → v ≡ later turns t → cond b u v ≡ later turns (cond b s t)
later-cond turns true s t u v h k = h
later-cond turns false s t u v h k = k

-- a body is entered
later-enters : (turns : ℕ) (x : VarId) (code : FrameCode) (body : Option BodyView) (values : List Value) (next : List ℕ) (s : State)
    → enters x code body values next (later turns s) ≡ later turns (enters x code body values next s)
later-enters turns x code None values next s = refl
later-enters turns x code (Some body) values next s = later-cond turns (nat_eq (length values) body.parameters) _ _ _ _ refl refl

-- a function is called
later-calls : (turns : ℕ) (program : ProgramView) (entry : Entry) (x : VarId) (f : Option FunId) (values : List Value) (next : List ℕ) (s : State)
    → calls program entry x f values next (later turns s) ≡ later turns (calls program entry x f values next s)
later-calls turns program entry x None values next s = refl
later-calls turns program entry x (Some f) values next s =
    later-enters turns x (entered_code entry f) (body_at program (entered_code entry f)) values next s

-- a waiting frame gets its result
later-resumes : (turns : ℕ) (value : Value) (frame : Frame) (frames : List Frame) (waits : Option ℕ) (s : State)
    → resumes value frame frames waits (later turns s) ≡ later turns (resumes value frame frames waits s)
later-resumes turns value frame frames None s = refl
later-resumes turns value frame frames (Some variable) s = refl

-- the top frame ends with a value
later-returns : (turns : ℕ) (value : Value) (frames : List Frame) (s : State)
    → returns value frames (later turns s) ≡ later turns (returns value frames s)
later-returns turns value [] s = refl
later-returns turns value (frame ∷ []) s = refl
later-returns turns value (frame ∷ below ∷ frames) s = later-resumes turns value below frames below.waits s

-- a deed
later-done : (turns : ℕ) (program : ProgramView) (entry : Entry) (deed : Deed) (s : State)
    → done program entry deed (later turns s) ≡ later turns (done program entry deed s)
later-done turns program entry (goes label environment world) s = refl
later-done turns program entry (asks x f values next) s = later-calls turns program entry x f values next s
later-done turns program entry (gives value) s = later-returns turns value s.frames s
later-done turns program entry (lands tops) s = refl
later-done turns program entry (finishes ending) s = refl

-- the turn of an effect is taken in either order
later-counted : (turn : Bool) (taken turns : ℕ) → counted turn (taken + turns) ≡ counted turn taken + turns
later-counted true taken turns = omega arith
later-counted false taken turns = refl

-- an effect
later-applied : (turns : ℕ) (program : ProgramView) (entry : Entry) (e : Effect) (s : State)
    → applied program entry e (later turns s) ≡ later turns (applied program entry e s)
later-applied turns program entry e s =
    ap (λ n. done program entry e.deed (record s { turns = n })) (later-counted e.turn s.turns turns)
    ∙ later-done turns program entry e.deed (record s { turns = counted e.turn s.turns })

-- a step that begins with more turns has as many more
pub later-step : (turns : ℕ) (program : ProgramView) (choice : Choice) (s : State)
    → step program choice (later turns s) ≡ later turns (step program choice s)
later-step turns program choice s =
    steps_by_effect program choice (later turns s)
    ∙ later-applied turns program choice.entry (effect_next program choice.leaves s) s
    ∙ ap (later turns) (sym (steps_by_effect program choice s))

-- so has a run
pub later-run_by : (turns : ℕ) (program : ProgramView) (choices : List Choice) (s : State)
    → run_by program choices (later turns s) ≡ later turns (run_by program choices s)
later-run_by turns program [] s = refl
later-run_by turns program (choice ∷ choices) s =
    ap (run_by program choices) (later-step turns program choice s) ∙ later-run_by turns program choices (step program choice s)

-- so have free steps
pub later-free_run : (turns : ℕ) (program : ProgramView) (choices : List Bool) (s : State)
    → free_run program choices (later turns s) ≡ later turns (free_run program choices s)
later-free_run turns program [] s = refl
later-free_run turns program (leaves ∷ more) s =
    ap (free_run program more) (later-step turns program (free_choice leaves) s)
    ∙ later-free_run turns program more (step program (free_choice leaves) s)

-- so has a run of the text
pub later-text_run : (turns : ℕ) (program : ProgramView) (steps : ℕ) (s : State)
    → text_run program steps (later turns s) ≡ later turns (text_run program steps s)
later-text_run turns program zero s = refl
later-text_run turns program (suc steps) s =
    ap (text_run program steps) (later-step turns program text_choice s)
    ∙ later-text_run turns program steps (step program text_choice s)

-- a run that begins with more turns has as many more
pub keeps_later : KeepsLater
keeps_later = record {
  step_is = λ program choice turns s. later-step turns program choice s;
  run = λ program choices turns s. later-run_by turns program choices s;
  free = λ program choices turns s. later-free_run turns program choices s;
  of_text = λ program steps turns s. later-text_run turns program steps s;
}
