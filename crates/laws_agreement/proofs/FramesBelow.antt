-- Runs above further frames.
use Rattle.std.proofs.Common.{◌≡◌, ◌⊎◌, inl, inr, ℕ, Bool, true, false, List, [], ◌∷◌, ◌++◌, Option, None, Some, Result, Ok, Err, cond, length, map, nat_eq, refl, sym, ap, subst, ◌∙◌}
use Rattle.std.specs.Prelude.{IfOk}
use Rattle.std.proofs.lemmas.List.{append_assoc}
use Rattle.std.proofs.lemmas.Result.{IfOk-at_ok}
use Rattle.sour_syntax.specs.declared.exit.Exit.{Exit}
use Rattle.sour_syntax.specs.declared.instruction.Instr.{Instr}
use Rattle.sour_syntax.specs.declared.instruction.Line.{Line}
use Rattle.sour_syntax.specs.declared.literal.FunId.{FunId}
use Rattle.sour_syntax.specs.declared.literal.Value.{Value}
use Rattle.sour_syntax.specs.declared.literal.VarId.{VarId}
use Rattle.sour_syntax.specs.declared.trap.Trap.{Trap}
use Rattle.sour_syntax.specs.BodyView.{BodyView}
use Rattle.sour_syntax.specs.Exits.{top_continuation, extra_continuation, continuations, bound_values}
use Rattle.sour_syntax.specs.Labels.{from_label, first_label}
use Rattle.sour_syntax.specs.Program.{ProgramView}
use Rattle.sour_semantics.specs.State.{Heap, Frame, FrameCode, returned, stopped, trapped, stuck, State, Ending}
use Rattle.sour_semantics.specs.Evaluation.{eval_each, in_front}
use Rattle.sour_semantics.specs.Step.{Choice, Entry, step, entered_code, enters, calls, resumes, returns, landed, landed_frames, body_at, lines_of}
use Rattle.sour_semantics.specs.Agreement.{free_choice, free_run}
use Rattle.laws_effects.specs.Effect.{world_of, Deed, goes, asks, gives, lands, finishes, Effect, effect, done, counted, applied, effect_first, effect_unless}
use Rattle.laws_effects.specs.Onward.{IsOwnEnding, IsDeedOf}
use Rattle.laws_effects.proofs.Onward.{effect-is}
use Rattle.laws_effects.proofs.Steps.{steps_by_effect}
use Rattle.laws_validity.proofs.States.{going}
use Rattle.laws_agreement.specs.Laws.{above, HasTop, IsReturned, StaysAbove, ComesBack, StepsAbove, SplitsAt, RunsAbove}

-- a step above further frames stays above them or comes back
abbrev IsAbove : List Frame → State → State → Type 0
IsAbove low alone whole = StaysAbove low alone whole ⊎ ComesBack low alone whole

-- it is the same state, with a top frame and without an end in a value
on : (low : List Frame) (s : State) → HasTop s.frames → ¬ IsReturned s.ending → StaysAbove low s (above low s)
on low s top not_ended = record { same = refl; top = top; going = not_ended }

-- whichever of two states it is
StaysAbove-cond : (low : List Frame) (b : Bool) (s t u v : State) → StaysAbove low s u → StaysAbove low t v
    → StaysAbove low (cond b s t) (cond b u v)
StaysAbove-cond low true s t u v h k = h
StaysAbove-cond low false s t u v h k = k

-- a body is entered
StaysAbove-enters : (low : List Frame) (frame : Frame) (frames : List Frame) (x : VarId) (code : FrameCode) (body : Option BodyView) (values : List Value) (next : List ℕ) (s : State)
    → StaysAbove low (enters x code body values next (going (frame ∷ frames) s)) (enters x code body values next (above low (going (frame ∷ frames) s)))
StaysAbove-enters low frame frames x code None values next s = record { same = refl; top = tt; going = λ none. none }
StaysAbove-enters low frame frames x code (Some body) values next s =
    StaysAbove-cond low (nat_eq (length values) body.parameters) _ _ _ _
    (record { same = refl; top = tt; going = λ none. none })
    (record { same = refl; top = tt; going = λ none. none })

-- a function is called
StaysAbove-calls : (program : ProgramView) (entry : Entry) (low : List Frame) (frame : Frame) (frames : List Frame) (x : VarId) (f : Option FunId) (values : List Value) (next : List ℕ) (s : State)
    → StaysAbove low (calls program entry x f values next (going (frame ∷ frames) s)) (calls program entry x f values next (above low (going (frame ∷ frames) s)))
StaysAbove-calls program entry low frame frames x None values next s = record { same = refl; top = tt; going = λ none. none }
StaysAbove-calls program entry low frame frames x (Some f) values next s =
    StaysAbove-enters low frame frames x (entered_code entry f) (body_at program (entered_code entry f)) values next s

-- a frame of the run itself that waits gets its result
StaysAbove-resumes : (low : List Frame) (value : Value) (frame : Frame) (frames tops : List Frame) (waits : Option ℕ) (s : State)
    → StaysAbove low (resumes value frame frames waits (going tops s)) (resumes value frame (frames ++ low) waits (above low (going tops s)))
StaysAbove-resumes low value frame frames tops None s = record { same = refl; top = tt; going = λ none. none }
StaysAbove-resumes low value frame frames tops (Some variable) s = record { same = refl; top = tt; going = λ none. none }

-- to give a frame its result forgets the frames that there were
resumes-forgets : (value : Value) (frame : Frame) (frames tops : List Frame) (waits : Option ℕ) (s : State)
    → resumes value frame frames waits (record s { frames = tops }) ≡ resumes value frame frames waits s
resumes-forgets value frame frames tops None s = refl
resumes-forgets value frame frames tops (Some variable) s = refl

-- the top frame ends with a value: it goes to a frame of the run itself, or into the further ones
IsAbove-returns : (low : List Frame) (frame : Frame) (frames : List Frame) (value : Value) (s : State)
    → IsAbove low (returns value (frame ∷ frames) (going (frame ∷ frames) s)) (returns value (frame ∷ (frames ++ low)) (above low (going (frame ∷ frames) s)))
IsAbove-returns [] frame [] value s = inr (record { value = value; ended = refl; same = refl })
IsAbove-returns (below ∷ low) frame [] value s = inr (record { value = value; ended = refl; same = resumes-forgets value below low (frame ∷ below ∷ low) below.waits (going (frame ∷ []) s) })
IsAbove-returns low frame (below ∷ frames) value s =
    inl (StaysAbove-resumes low value below frames (frame ∷ below ∷ frames) below.waits s)

-- of some frames, the first of which came, there is a first
HasTop-first : (first : Result Frame Trap) (others : Result (List Frame) Trap) → IfOk (in_front first others) HasTop
HasTop-first (Err trap) others = tt
HasTop-first (Ok first) (Err trap) = tt
HasTop-first (Ok first) (Ok others) = tt

-- an exit makes a top frame
HasTop-landed : (program : ProgramView) (frame : Frame) (heap : Heap) (exit : Exit)
    → IfOk (landed_frames program frame heap (continuations exit)) HasTop
HasTop-landed program frame heap exit =
    HasTop-first
    (landed program frame.code (top_continuation exit)
    (eval_each frame.environment heap (bound_values (top_continuation exit).binds)))
    (landed_frames program frame heap (map extra_continuation exit.extras))

-- frames that have a top have one above others
HasTop-above : (tops frames : List Frame) → HasTop tops → HasTop (tops ++ frames)
HasTop-above [] frames top = absurd top
HasTop-above (first ∷ tops) frames top = tt

-- a run that ends by itself gives no value
own-ending : (ending : Ending) → IsOwnEnding ending → ¬ IsReturned (Some ending)
own-ending (returned value) own = absurd own
own-ending stopped own = λ none. none
own-ending (trapped trap) own = λ none. none
own-ending stuck own = λ none. none

-- a deed of an instruction
IsAbove-done : (program : ProgramView) (entry : Entry) (low : List Frame) (frame : Frame) (frames : List Frame)
    (instr : Instr)
    (next : List ℕ) (deed : Deed) (s : State) → IsDeedOf program frame s.heap instr next deed
    → IsAbove low (done program entry deed (going (frame ∷ frames) s))
    (done program entry deed (above low (going (frame ∷ frames) s)))
IsAbove-done program entry low frame frames instr next (goes label environment world) s is =
    inl (record { same = refl; top = tt; going = λ none. none })
IsAbove-done program entry low frame frames instr next (asks x f values label) s is =
    inl (StaysAbove-calls program entry low frame frames x f values label s)
IsAbove-done program entry low frame frames instr next (gives value) s is = IsAbove-returns low frame frames value s
IsAbove-done program entry low frame frames instr next (lands tops) s is =
    let top : HasTop tops = IfOk-at_ok HasTop is.3 (HasTop-landed program frame s.heap is.1) in
    inl (record {
      same = ap (λ all. going all s) (sym (append_assoc tops frames low));
      top = HasTop-above tops frames top;
      going = λ none. none;
    })
IsAbove-done program entry low frame frames instr next (finishes ending) s is =
    inl (record { same = refl; top = tt; going = own-ending ending is })

-- the first of the lines that are left
IsAbove-first : (program : ProgramView) (choice : Choice) (low : List Frame) (frame : Frame) (frames : List Frame)
    (lines : List Line) (s : State)
    → IsAbove low
    (applied program choice.entry (effect_first program choice.leaves frame (world_of s) lines)
    (going (frame ∷ frames) s))
    (applied program choice.entry (effect_first program choice.leaves frame (world_of s) lines)
    (above low (going (frame ∷ frames) s)))
IsAbove-first program choice low frame frames [] s = inl (record { same = refl; top = tt; going = λ none. none })
IsAbove-first program choice low frame frames (line ∷ lines) s =
    let e : Effect = effect program choice.leaves frame (world_of s) line.instr (first_label lines) in
    IsAbove-done program choice.entry low frame frames line.instr (first_label lines) e.deed
    (record s { turns = counted e.turn s.turns })
    (effect-is program frame (first_label lines) (world_of s) choice.leaves line.instr).does

-- a run that has ended stays as it is
IsAbove-parts : (program : ProgramView) (choice : Choice) (low : List Frame) (ending : Option Ending) (frames : List Frame) (s : State)
    → HasTop frames → ¬ IsReturned ending
    → IsAbove low
    (applied program choice.entry (effect_unless program choice.leaves (world_of s) frames ending)
    (record s { frames = frames; ending = ending }))
    (applied program choice.entry (effect_unless program choice.leaves (world_of s) (frames ++ low) ending)
    (above low (record s { frames = frames; ending = ending })))
IsAbove-parts program choice low None [] s top not_ended = absurd top
IsAbove-parts program choice low None (frame ∷ frames) s top not_ended =
    IsAbove-first program choice low frame frames (from_label frame.label (lines_of program frame.code)) s
IsAbove-parts program choice low (Some ending) frames s top not_ended =
    inl (on low (record s { frames = frames; ending = Some ending }) top not_ended)

-- a step above further frames is the same step, or returns into them
pub steps_above : StepsAbove
steps_above program choice low s top not_ended =
    let Alone : State → Type 0 = λ t. IsAbove low t (step program choice (above low s)) in
    let Whole : State → Type 0 =
    IsAbove low (applied program choice.entry (effect_unless program choice.leaves (world_of s) s.frames s.ending) s) in
    subst Alone (sym (steps_by_effect program choice s))
    (subst Whole (sym (steps_by_effect program choice (above low s)))
    (IsAbove-parts program choice low s.ending s.frames s top not_ended))

-- free steps above further frames
abbrev RunIsAbove : ProgramView → List Frame → List Bool → State → Type 0
RunIsAbove program low choices s =
    StaysAbove low (free_run program choices s) (free_run program choices (above low s)) ⊎ SplitsAt program low choices s

-- one step more before them, which stays above the further frames
RunIsAbove-before : (program : ProgramView) (low : List Frame) (leaves : Bool) (more : List Bool) (s : State)
    → step program (free_choice leaves) (above low s) ≡ above low (step program (free_choice leaves) s)
    → RunIsAbove program low more (step program (free_choice leaves) s) → RunIsAbove program low (leaves ∷ more) s
RunIsAbove-before program low leaves more s first (inl on_top) =
    inl (record { same = ap (free_run program more) first ∙ on_top.same; top = on_top.top; going = on_top.going })
RunIsAbove-before program low leaves more s first (inr splits) = inr (record {
  before = leaves ∷ splits.before;
  after = splits.after;
  split = ap (λ rest. leaves ∷ rest) splits.split;
  back = record {
    value = splits.back.value;
    ended = splits.back.ended;
    same = ap (free_run program splits.before) first ∙ splits.back.same;
  };
})

-- one step before others, by what it does
RunIsAbove-step : (program : ProgramView) (low : List Frame) (leaves : Bool) (more : List Bool) (s : State)
    → IsAbove low (step program (free_choice leaves) s) (step program (free_choice leaves) (above low s))
    → (HasTop (step program (free_choice leaves) s).frames → ¬ IsReturned (step program (free_choice leaves) s).ending
    → RunIsAbove program low more (step program (free_choice leaves) s))
    → RunIsAbove program low (leaves ∷ more) s
RunIsAbove-step program low leaves more s (inl first) others =
    RunIsAbove-before program low leaves more s first.same (others first.top first.going)
RunIsAbove-step program low leaves more s (inr back) others =
    inr (record { before = leaves ∷ []; after = more; split = refl; back = back })

-- free steps above further frames are the same steps, or the first of them return into them
pub runs_above : RunsAbove
runs_above program [] low s top not_ended = inl (on low s top not_ended)
runs_above program (leaves ∷ more) low s top not_ended =
    RunIsAbove-step program low leaves more s (steps_above program (free_choice leaves) low s top not_ended)
    (λ next_top next_going. runs_above program more low (step program (free_choice leaves) s) next_top next_going)
