-- Calls that enter a lawful bundle.
use Rattle.std.proofs.Common.{◌≡◌, ◌+◌, ◌⊎◌, inl, inr, ℕ, zero, suc, Bool, true, false, List, [], ◌∷◌, ◌++◌, Option, None, Some, cond, length, map, nat_eq, slice_get, refl, sym, ap, subst, ◌∙◌, arith}
use Rattle.std.specs.List.{AllByRecursion}
use Rattle.std.proofs.lemmas.Option.{same_Some, none-some}
use Rattle.std.proofs.lemmas.Bool.{eqb-true}
use Rattle.sour_syntax.specs.declared.literal.FunId.{FunId}
use Rattle.sour_syntax.specs.declared.literal.Value.{Value}
use Rattle.sour_syntax.specs.declared.literal.VarId.{VarId}
use Rattle.sour_syntax.specs.BodyView.{BodyView}
use Rattle.sour_syntax.specs.Program.{ProgramView, IsProgram}
use Rattle.sour_syntax.specs.Targets.{made_body}
use Rattle.sour_semantics.specs.State.{Frame, FrameCode, text, made, State, Ending, BundleView}
use Rattle.sour_semantics.specs.Step.{Choice, Entry, text_version, bundle, step, entered_frame, enters, calls, body_at, body_or_empty, body_of}
use Rattle.sour_semantics.specs.Run.{start_of}
use Rattle.sour_semantics.specs.Shape.{TakesParameters, AreMadeBodies, HasShape}
use Rattle.sour_semantics.specs.Validity.{IsValue, IsKept, MayStart, IsValid}
use Rattle.sour_semantics.specs.Agreement.{free_choice, Agree, IsLawful}
use Rattle.laws_effects.specs.Effect.{world_of, Deed, goes, asks, gives, lands, finishes, Effect, done, counted, applied, effect_unless, effect_next}
use Rattle.laws_effects.proofs.Steps.{steps_by_effect}
use Rattle.laws_validity.proofs.Steps.{IsValid-step}
use Rattle.laws_agreement.specs.Laws.{later, above, CallAgrees, IsLawfulEntry, RunsAgree}
use Rattle.laws_validity.proofs.States.{going}
use Rattle.laws_agreement.proofs.RunsAlone.{Agree-later}
use Rattle.laws_agreement.proofs.AgreementAbove.{agrees_above}

-- a call that enters the bundle where it may enter the text version: the values, what stands below, and the rest of the state
record Enters (program : ProgramView) (view : BundleView) (free entered : State) : Type 0 where
  pub values : List Value
  pub below : Frame
  pub low : List Frame
  pub turns : ℕ
  pub before : State
  pub count : length values ≡ (body_of program (text view.function 0)).parameters
  pub to_text : free ≡ above (below ∷ low) (later turns (start_of program (text view.function 0) values before.heap before.rest before.output))
  pub to_bundle : entered ≡ above (below ∷ low) (later turns (start_of program (made view.bodies (length view.bodies)) values before.heap before.rest before.output))

-- the step is the free one, or it enters the bundle
abbrev MayDiffer : ProgramView → BundleView → State → State → Type 0
MayDiffer program view free entered = (entered ≡ free) ⊎ Enters program view free entered

-- what stands at the beginning of a body, above what waits for it
entered-above : (program : ProgramView) (code : FrameCode) (body : BodyView) (values : List Value) (below : Frame) (low : List Frame) (s : State)
    → body_at program code ≡ Some body
    → going (entered_frame code body values ∷ below ∷ low) s ≡ above (below ∷ low) (later s.turns (start_of program code values s.heap s.rest s.output))
entered-above program code body values below low s found =
    let is : body ≡ body_of program code = sym (ap body_or_empty found) in
    let turns : s.turns ≡ 0 + s.turns = omega arith in
    ap (λ b. going (entered_frame code b values ∷ below ∷ low) s) is
    ∙ ap (λ n. going (entered_frame code (body_of program code) values ∷ below ∷ low) (record s { turns = n })) turns

-- the first of two states
cond-true : (b : Bool) (s t : State) → b ≡ true → cond b s t ≡ s
cond-true b s t is = ap (λ c. cond c s t) is

-- the second of two states
cond-false : (b : Bool) (s t : State) → b ≡ false → cond b s t ≡ t
cond-false b s t is = ap (λ c. cond c s t) is

-- both bodies are entered, or the values are too many or too few for both
MayDiffer-enters : (program : ProgramView) (view : BundleView) (x : VarId) (text_one made_one : BodyView) (values : List Value) (next : List ℕ)
    (frame : Frame) (frames : List Frame) (s : State)
    → body_at program (text view.function 0) ≡ Some text_one → body_at program (made view.bodies (length view.bodies)) ≡ Some made_one
    → made_one.parameters ≡ text_one.parameters → (fits : Bool) → nat_eq (length values) text_one.parameters ≡ fits
    → MayDiffer program view
    (enters x (text view.function 0) (Some text_one) values next (going (frame ∷ frames) s))
    (enters x (made view.bodies (length view.bodies)) (Some made_one) values next (going (frame ∷ frames) s))
MayDiffer-enters program view x text_one made_one values next frame frames s text_found made_found same true fits =
    let below : Frame = record frame { label = next; waits = Some x.0 } in
    let made_fits : nat_eq (length values) made_one.parameters ≡ true = ap (nat_eq (length values)) same ∙ fits in
    inr (record {
      values = values;
      below = below;
      low = frames;
      turns = s.turns;
      before = s;
      count = eqb-true (length values) text_one.parameters fits ∙ ap (λ (b : Option BodyView). (body_or_empty b).parameters) (sym text_found);
      to_text = cond-true (nat_eq (length values) text_one.parameters) _ _ fits
          ∙ entered-above program (text view.function 0) text_one values below frames s text_found;
      to_bundle = cond-true (nat_eq (length values) made_one.parameters) _ _ made_fits
          ∙ entered-above program (made view.bodies (length view.bodies)) made_one values below frames s made_found;
    })
MayDiffer-enters program view x text_one made_one values next frame frames s text_found made_found same false fits =
    let made_fits : nat_eq (length values) made_one.parameters ≡ false = ap (nat_eq (length values)) same ∙ fits in
    inl (cond-false (nat_eq (length values) made_one.parameters) _ _ made_fits
    ∙ sym (cond-false (nat_eq (length values) text_one.parameters) _ _ fits))

-- a body that is found among those of a bundle takes the parameters of its function
TakesParameters-found : (program : ProgramView) (earlier bodies : List BodyView) (place : ℕ) (body : BodyView) → AreMadeBodies program earlier bodies
    → slice_get bodies place ≡ Some body → TakesParameters program body
TakesParameters-found program earlier [] place body are found = absurd (none-some body found)
TakesParameters-found program earlier (first ∷ bodies) zero body are found =
    let Takes : BodyView → Type 0 = TakesParameters program in
    subst Takes (same_Some first body found) are.0.takes
TakesParameters-found program earlier (first ∷ bodies) (suc place) body are found =
    TakesParameters-found program (earlier ++ first ∷ []) bodies place body are.1 found

-- so does the body that has a number
pub TakesParameters-made : (program : ProgramView) (bodies : List BodyView) (number : ℕ) (body : BodyView) → AreMadeBodies program [] bodies
    → made_body bodies number ≡ Some body → TakesParameters program body
TakesParameters-made program bodies zero body are found = absurd (none-some body found)
TakesParameters-made program bodies (suc place) body are found = TakesParameters-found program [] bodies place body are found

-- the function of the bundle is called
MayDiffer-own : (program : ProgramView) (view : BundleView) (x : VarId) (values : List Value) (next : List ℕ) (frame : Frame) (frames : List Frame) (s : State)
    → HasShape program view
    → MayDiffer program view
    (enters x (text view.function 0) (body_at program (text view.function 0)) values next (going (frame ∷ frames) s))
    (enters x (made view.bodies (length view.bodies)) (body_at program (made view.bodies (length view.bodies))) values next (going (frame ∷ frames) s))
MayDiffer-own program view x values next frame frames s shape =
    let takes : TakesParameters program shape.top = TakesParameters-made program view.bodies (length view.bodies) shape.top shape.each shape.last in
    let text_found : body_at program (text view.function 0) ≡ Some takes.text =
    ap (λ f. body_at program (text f 0)) (sym shape.own) ∙ takes.found in
    let Text : Option BodyView → Type 0 = λ found. MayDiffer program view
    (enters x (text view.function 0) found values next (going (frame ∷ frames) s))
    (enters x (made view.bodies (length view.bodies)) (Some shape.top) values next (going (frame ∷ frames) s)) in
    let Made : Option BodyView → Type 0 = λ found. MayDiffer program view
    (enters x (text view.function 0) (body_at program (text view.function 0)) values next (going (frame ∷ frames) s))
    (enters x (made view.bodies (length view.bodies)) found values next (going (frame ∷ frames) s)) in
    subst Made (sym shape.last) (subst Text (sym text_found)
    (MayDiffer-enters program view x takes.text shape.top values next frame frames s text_found shape.last takes.count
    (nat_eq (length values) takes.text.parameters) refl))

-- a function is called: that of the bundle or another
MayDiffer-function : (program : ProgramView) (view : BundleView) (x : VarId) (f : FunId) (values : List Value) (next : List ℕ)
    (frame : Frame) (frames : List Frame) (s : State) → HasShape program view → (own : Bool) → nat_eq view.function.0 f.0 ≡ own
    → MayDiffer program view
    (enters x (text f 0) (body_at program (text f 0)) values next (going (frame ∷ frames) s))
    (enters x (cond own (made view.bodies (length view.bodies)) (text f 0)) (body_at program (cond own (made view.bodies (length view.bodies)) (text f 0))) values next (going (frame ∷ frames) s))
MayDiffer-function program view x f values next frame frames s shape true is =
    let numbered : ℕ → FunId = λ n. record { 0 = n } in
    let same : view.function ≡ f = ap numbered (eqb-true view.function.0 f.0 is) in
    let Called : FunId → Type 0 = λ g. MayDiffer program view
    (enters x (text g 0) (body_at program (text g 0)) values next (going (frame ∷ frames) s))
    (enters x (made view.bodies (length view.bodies)) (body_at program (made view.bodies (length view.bodies))) values next (going (frame ∷ frames) s)) in
    subst Called same (MayDiffer-own program view x values next frame frames s shape)
MayDiffer-function program view x f values next frame frames s shape false is = inl refl

-- a function is called, if there is one
MayDiffer-calls : (program : ProgramView) (view : BundleView) (x : VarId) (f : Option FunId) (values : List Value) (next : List ℕ)
    (frame : Frame) (frames : List Frame) (s : State) → HasShape program view
    → MayDiffer program view (calls program text_version x f values next (going (frame ∷ frames) s)) (calls program (bundle view) x f values next (going (frame ∷ frames) s))
MayDiffer-calls program view x None values next frame frames s shape = inl refl
MayDiffer-calls program view x (Some f) values next frame frames s shape =
    MayDiffer-function program view x f values next frame frames s shape (nat_eq view.function.0 f.0) refl

-- the choice that enters the bundle
abbrev entering : BundleView → Bool → Choice
entering view leaves = record { entry = bundle view; leaves = leaves }

-- a deed: only a call differs
MayDiffer-done : (program : ProgramView) (view : BundleView) (frame : Frame) (frames : List Frame) (deed : Deed)
    (s : State)
    → HasShape program view
    → MayDiffer program view (done program text_version deed (going (frame ∷ frames) s))
    (done program (bundle view) deed (going (frame ∷ frames) s))
MayDiffer-done program view frame frames (goes label environment world) s shape = inl refl
MayDiffer-done program view frame frames (asks x f values next) s shape =
    MayDiffer-calls program view x f values next frame frames s shape
MayDiffer-done program view frame frames (gives value) s shape = inl refl
MayDiffer-done program view frame frames (lands tops) s shape = inl refl
MayDiffer-done program view frame frames (finishes ending) s shape = inl refl

-- an effect of a run, by its frames and its end
MayDiffer-parts : (program : ProgramView) (view : BundleView) (leaves : Bool) (ending : Option Ending) (frames : List Frame) (s : State) → HasShape program view
    → MayDiffer program view
    (applied program text_version (effect_unless program leaves (world_of s) frames ending)
    (record s { frames = frames; ending = ending }))
    (applied program (bundle view) (effect_unless program leaves (world_of s) frames ending)
    (record s { frames = frames; ending = ending }))
MayDiffer-parts program view leaves None [] s shape = inl refl
MayDiffer-parts program view leaves None (frame ∷ frames) s shape =
    let e : Effect = effect_unless program leaves (world_of s) (frame ∷ frames) None in
    MayDiffer-done program view frame frames e.deed (record s { turns = counted e.turn s.turns }) shape
MayDiffer-parts program view leaves (Some ending) frames s shape = inl refl

-- only at a call do steps differ
MayDiffer-step : (program : ProgramView) (view : BundleView) (leaves : Bool) (s : State) → HasShape program view
    → MayDiffer program view (step program (free_choice leaves) s) (step program (entering view leaves) s)
MayDiffer-step program view leaves s shape =
    let Free : State → Type 0 = λ t. MayDiffer program view t (step program (entering view leaves) s) in
    let Entered : State → Type 0 = MayDiffer program view
    (applied program text_version (effect_next program leaves s) s) in
    subst Free (sym (steps_by_effect program (free_choice leaves) s))
    (subst Entered (sym (steps_by_effect program (entering view leaves) s))
    (MayDiffer-parts program view leaves s.ending s.frames s shape))

-- the first values of a row are values
are-values : (functions arrays : ℕ) (values : List Value) (others : List (Option Value))
    → AllByRecursion (IsKept functions arrays) (map Some values ++ others) → AllByRecursion (IsValue functions arrays) values
are-values functions arrays [] others kept = tt
are-values functions arrays (value ∷ values) others kept = (kept.0, are-values functions arrays values others kept.1)

-- a call that enters the text version in a valid state starts it validly
starts-validly : (program : ProgramView) (code : FrameCode) (values : List Value) (low : List Frame) (turns : ℕ) (s : State)
    → length values ≡ (body_of program code).parameters
    → IsValid program (above low (later turns (start_of program code values s.heap s.rest s.output)))
    → MayStart program (body_of program code).parameters values s.heap s.rest s.output
starts-validly program code values low turns s count valid = record {
  count = count;
  are = are-values (length program.functions) (length s.heap) values _ valid.frames.0.values;
  heap_is = valid.heap;
  input = valid.input;
  room = valid.output;
}

-- a step that enters a lawful bundle, or is the free one
entered-agrees : (program : ProgramView) (view : BundleView) (free entered t : State) → MayDiffer program view free entered → IsValid program free
    → IsLawful program view → Agree program free t → Agree program entered t
entered-agrees program view free entered t (inl same) valid lawful agrees =
    let Agrees : State → Type 0 = λ s. Agree program s t in
    subst Agrees (sym same) agrees
entered-agrees program view free entered t (inr enters) valid lawful agrees =
    let Agrees : State → Type 0 = λ s. Agree program s t in
    let Valid : State → Type 0 = IsValid program in
    let s : State = enters.before in
    let text_start : State = start_of program (text view.function 0) enters.values s.heap s.rest s.output in
    let made_start : State = start_of program (made view.bodies (length view.bodies)) enters.values s.heap s.rest s.output in
    let may : MayStart program (body_of program (text view.function 0)).parameters enters.values s.heap s.rest s.output =
    starts-validly program (text view.function 0) enters.values (enters.below ∷ enters.low) enters.turns s enters.count (subst Valid enters.to_text valid) in
    let alone : Agree program made_start text_start = lawful.agrees enters.values s.heap s.rest s.output may in
    let longer : Agree program (later enters.turns made_start) (later enters.turns text_start) =
    Agree-later program enters.turns made_start text_start alone in
    subst Agrees (sym enters.to_bundle)
    (agrees_above program enters.below enters.low (later enters.turns made_start) (later enters.turns text_start) t
    tt (λ none. none) tt (λ none. none) longer (subst Agrees enters.to_text agrees))

-- a call may enter a lawful bundle
pub call_agrees : CallAgrees
call_agrees program view leaves s t checked valid lawful agrees =
    let free : State = step program (free_choice leaves) s in
    let next : Agree program free t = λ choices. agrees (leaves ∷ choices) in
    entered-agrees program view free (step program (entering view leaves) s) t
    (MayDiffer-step program view leaves s lawful.shape)
    (IsValid-step program (free_choice leaves) s checked valid tt) lawful next

-- a step with a choice that is lawful
step-agrees : (program : ProgramView) (entry : Entry) (leaves : Bool) (s t : State) → IsProgram program → IsValid program s
    → IsLawfulEntry program entry → Agree program s t
    → IsValid program (step program (record { entry = entry; leaves = leaves }) s) × Agree program (step program (record { entry = entry; leaves = leaves }) s) t
step-agrees program text_version leaves s t checked valid lawful agrees =
    (IsValid-step program (free_choice leaves) s checked valid tt, λ choices. agrees (leaves ∷ choices))
step-agrees program (bundle view) leaves s t checked valid lawful agrees =
    (IsValid-step program (entering view leaves) s checked valid lawful.shape, call_agrees program view leaves s t checked valid lawful agrees)

-- each call of a run may enter a lawful bundle
pub runs_agree : RunsAgree
runs_agree program [] s t checked valid lawful agrees = agrees
runs_agree program (choice ∷ choices) s t checked valid lawful agrees =
    let next : IsValid program (step program choice s) × Agree program (step program choice s) t =
    step-agrees program choice.entry choice.leaves s t checked valid lawful.0 agrees in
    runs_agree program choices (step program choice s) t checked next.0 lawful.1 next.1
