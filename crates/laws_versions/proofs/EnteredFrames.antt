-- A function is counted if its version is entered.
use Rattle.std.proofs.Common.{◌≡◌, ℕ, Bool, true, false, cond, List, [], ◌∷◌, Option, None, Some, Result, Ok, Err}
use Rattle.std.proofs.Common.{length, nat_eq, refl, sym, ap, subst, ◌∙◌}
use Rattle.std.proofs.lemmas.Bool.{eqb-true}
use Rattle.sour_syntax.specs.declared.instruction.Instr.{Instr}
use Rattle.sour_syntax.specs.declared.instruction.Instr.TheVariants.{Call}
use Rattle.sour_syntax.specs.declared.instruction.Line.{Line}
use Rattle.sour_syntax.specs.declared.literal.FunId.{FunId}
use Rattle.sour_syntax.specs.declared.literal.Value.{Value}
use Rattle.sour_syntax.specs.declared.literal.VarId.{VarId}
use Rattle.sour_syntax.specs.declared.trap.Trap.{Trap}
use Rattle.sour_syntax.specs.declared.trap.Trap.TheVariants.{ArgCount}
use Rattle.sour_syntax.specs.BodyView.{BodyView}
use Rattle.sour_syntax.specs.Labels.{from_label, first_label}
use Rattle.sour_syntax.specs.Program.{ProgramView}
use Rattle.sour_semantics.specs.State.{Frame, FrameCode, text, made, trapped, State, Ending, BundleView}
use Rattle.sour_semantics.specs.Evaluation.{function_in, operand, eval_each}
use Rattle.sour_semantics.specs.Step.{Entry, text_version, bundle, text_choice, step, given, takes_turn}
use Rattle.sour_semantics.specs.Step.{ends, body_at, lines_of, entered_code, entered_frame, waits_for, enters, calls}
use Rattle.sour_semantics.specs.Step.{act, act_first}
use Rattle.sour_semantics.specs.Shape.{TakesParameters, HasShape}
use Rattle.sour_semantics.specs.Validity.{MayEnter}
use Rattle.laws_agreement.proofs.LawfulCalls.{TakesParameters-made}
use Rattle.sour_versions.specs.Entering.{taking, called, entered_by, entered_first, entering}
use Rattle.sour_versions.specs.VersionRun.{entry_choice}
use Rattle.laws_versions.specs.RunLaws.{HasEntered, CountsWhatIsEntered}

-- there is no body on either side, or one on each, with as many parameters
abbrev pub TakeAlike : Option BodyView → Option BodyView → Type 0
TakeAlike None None = Unit {0}
TakeAlike None (Some other) = ⊥
TakeAlike (Some one) None = ⊥
TakeAlike (Some one) (Some other) = other.parameters ≡ one.parameters

-- a body takes what it takes
TakeAlike-same : (found : Option BodyView) → TakeAlike found found
TakeAlike-same None = tt
TakeAlike-same (Some body) = refl

-- the top of a bundle takes what the text version of its function takes
TakeAlike-own : (program : ProgramView) (view : BundleView) → HasShape program view
    → TakeAlike (body_at program (text view.function 0)) (body_at program (made view.bodies (length view.bodies)))
TakeAlike-own program view shape =
    let found_text : Option BodyView = body_at program (text view.function 0) in
    let takes : TakesParameters program shape.top =
    TakesParameters-made program view.bodies (length view.bodies) shape.top shape.each shape.last in
    let is : found_text ≡ Some takes.text = ap (λ f. body_at program (text f 0)) (sym shape.own) ∙ takes.found in
    let Text : Option BodyView → Type 0 = λ found. TakeAlike found (Some shape.top) in
    let Made : Option BodyView → Type 0 = TakeAlike found_text in
    subst Made (sym shape.last) (subst Text (sym is) takes.count)

-- so does what a bundle of a function, or of another, is entered as
TakeAlike-test : (program : ProgramView) (view : BundleView) (f : FunId) (own : Bool) → nat_eq view.function.0 f.0 ≡ own
    → HasShape program view
    → TakeAlike (body_at program (text f 0))
    (body_at program (cond own (made view.bodies (length view.bodies)) (text f 0)))
TakeAlike-test program view f true is shape =
    let numbered : ℕ → FunId = λ n. record { 0 = n } in
    let top : FrameCode = made view.bodies (length view.bodies) in
    let Alike : FunId → Type 0 = λ g. TakeAlike (body_at program (text g 0)) (body_at program top) in
    subst Alike (ap numbered (eqb-true view.function.0 f.0 is)) (TakeAlike-own program view shape)
TakeAlike-test program view f false is shape = TakeAlike-same (body_at program (text f 0))

-- whatever may be entered takes what the text version takes
pub TakeAlike-entry : (program : ProgramView) (entry : Entry) (f : FunId) → MayEnter program entry
    → TakeAlike (body_at program (text f 0)) (body_at program (entered_code entry f))
TakeAlike-entry program text_version f may = TakeAlike-same (body_at program (text f 0))
TakeAlike-entry program (bundle view) f may = TakeAlike-test program view f (nat_eq view.function.0 f.0) refl may

module _ (program : ProgramView) (entry : Entry) where
  -- if a function is counted, its frame stands on top; if none is, the state is that after a step of the text
  abbrev IsAsCounted : Option FunId → State → State → Type 0
  IsAsCounted None s other = s ≡ other
  IsAsCounted (Some f) s other = HasEntered program entry f s

  -- so it is if a body is entered, by whether it takes the values
  counted-test : (x : VarId) (f : FunId) (one body : BodyView) (values : List Value) (next : List ℕ) (s : State)
      (takes : Bool) → body_at program (entered_code entry f) ≡ Some body → s.ending ≡ None
      → nat_eq (length values) one.parameters ≡ takes
      → IsAsCounted (cond takes (Some f) None)
      (cond takes (record s { frames = entered_frame (entered_code entry f) body values ∷ waits_for x next s.frames })
      (ends (trapped ArgCount) s))
      (enters x (text f 0) (Some one) values next s)
  counted-test x f one body values next s true runs going is = record {
    body = body;
    runs = runs;
    values = values;
    below = waits_for x next s.frames;
    frames = refl;
    going = going;
  }
  counted-test x f one body values next s false runs going is =
      let whole : State = record s { frames = entered_frame (text f 0) one values ∷ waits_for x next s.frames } in
      sym (ap (λ takes. cond takes whole (ends (trapped ArgCount) s)) is)

  -- whether or not there is a body
  counted-enters : (x : VarId) (f : FunId) (found other : Option BodyView) (values : List Value) (next : List ℕ)
      (s : State) → body_at program (entered_code entry f) ≡ other → s.ending ≡ None → TakeAlike found other
      → IsAsCounted (taking f values found) (enters x (entered_code entry f) other values next s)
      (enters x (text f 0) found values next s)
  counted-enters x f None None values next s runs going alike = refl
  counted-enters x f None (Some other) values next s runs going alike = absurd alike
  counted-enters x f (Some one) None values next s runs going alike = absurd alike
  counted-enters x f (Some one) (Some other) values next s runs going alike =
      let frame : Frame = entered_frame (entered_code entry f) other values in
      let entered : State = record s { frames = frame ∷ waits_for x next s.frames } in
      let takes : Bool = nat_eq (length values) one.parameters in
      let Counts : ℕ → Type 0 = λ n. IsAsCounted (cond takes (Some f) None)
      (cond (nat_eq (length values) n) entered (ends (trapped ArgCount) s))
      (enters x (text f 0) (Some one) values next s) in
      subst Counts (sym alike) (counted-test x f one other values next s takes runs going refl)

  -- if a function is called, whether or not its arguments have values
  counted-calls : (x : VarId) (f : Option FunId) (r : Result (List Value) Trap) (next : List ℕ) (s : State)
      → MayEnter program entry → s.ending ≡ None
      → IsAsCounted (called program f r)
      (given r (λ values. calls program entry x f values next s) s)
      (given r (λ values. calls program text_version x f values next s) s)
  counted-calls x None (Err trap) next s may going = refl
  counted-calls x None (Ok values) next s may going = refl
  counted-calls x (Some f) (Err trap) next s may going = refl
  counted-calls x (Some f) (Ok values) next s may going =
      counted-enters x f (body_at program (text f 0)) (body_at program (entered_code entry f)) values next s refl going
      (TakeAlike-entry program entry f may)

  -- if an instruction is carried out
  counted-act : (frame : Frame) (instr : Instr) (next : List ℕ) (s : State) → MayEnter program entry → s.ending ≡ None
      → IsAsCounted (entered_by program frame s.heap instr) (act program (entry_choice entry) frame instr next s)
      (act program text_choice frame instr next s)
  counted-act frame (Call x callee es) next s may going =
      counted-calls x (function_in (operand frame.environment callee)) (eval_each frame.environment s.heap es) next
      (takes_turn s) may going
  counted-act frame instr next s may going = refl

  -- the first of the lines that are left
  counted-first : (frame : Frame) (lines : List Line) (s : State) → MayEnter program entry → s.ending ≡ None
      → IsAsCounted (entered_first program frame s.heap lines) (act_first program (entry_choice entry) frame lines s)
      (act_first program text_choice frame lines s)
  counted-first frame [] s may going = refl
  counted-first frame (line ∷ lines) s may going = counted-act frame line.instr (first_label lines) s may going

  -- a step, by the frames and the end
  counted-parts : (frames : List Frame) (ending : Option Ending) (s : State) → MayEnter program entry
      → IsAsCounted (entering program (record s { frames = frames; ending = ending }))
      (step program (entry_choice entry) (record s { frames = frames; ending = ending }))
      (step program text_choice (record s { frames = frames; ending = ending }))
  counted-parts frames (Some ending) s may = refl
  counted-parts [] None s may = refl
  counted-parts (frame ∷ frames) None s may =
      counted-first frame (from_label frame.label (lines_of program frame.code))
      (record s { frames = frame ∷ frames; ending = None }) may refl

  -- a step, by what it counts
  counted-step : (f : Option FunId) (s : State) → MayEnter program entry → entering program s ≡ f
      → IsAsCounted f (step program (entry_choice entry) s) (step program text_choice s)
  counted-step f s may is =
      let Counts : Option FunId → Type 0 =
      λ g. IsAsCounted g (step program (entry_choice entry) s) (step program text_choice s) in
      subst Counts is (counted-parts s.frames s.ending s may)

-- what a step counts is what it enters
pub counts_what_is_entered : CountsWhatIsEntered
counts_what_is_entered = record {
  entered = λ program entry f s may some. counted-step program entry (Some f) s may some;
  elsewhere = λ program entry s may none. counted-step program entry None s may none;
}
