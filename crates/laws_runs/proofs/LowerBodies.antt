-- Leaving at an anchor leads to an earlier body of the bundle or to a version of the text.
use Rattle.std.proofs.Common.{◌≡◌, ◌<◌, ◌+◌, ◌*◌, ◌≤◌, ℕ, List, [], ◌∷◌, ◌++◌, Bool, true, false, cond, Some, Result, Ok, Err, length, map, refl, sym, ap, ◌∙◌, subst, arith}
use Rattle.std.specs.Prelude.{IfOk}
use Rattle.std.specs.Str.{bytes_eq}
use Rattle.sour_syntax.specs.declared.exit.Exit.{Exit}
use Rattle.sour_syntax.specs.declared.instruction.Line.{Line}
use Rattle.sour_syntax.specs.declared.literal.Value.{Value}
use Rattle.sour_syntax.specs.declared.trap.Trap.{Trap}
use Rattle.sour_syntax.specs.BodyView.{BodyView}
use Rattle.sour_syntax.specs.Exits.{Continuation, top_continuation, extra_continuation, continuations, bound_values}
use Rattle.sour_syntax.specs.Labels.{from_label}
use Rattle.sour_syntax.specs.Program.{ProgramView, IsProgram}
use Rattle.sour_syntax.proofs.NoExits.{All-from_label, label-from_label}
use Rattle.sour_semantics.specs.State.{Heap, Frame, FrameCode}
use Rattle.sour_semantics.specs.Evaluation.{eval_each}
use Rattle.sour_semantics.specs.Step.{body_at, lines_of, exit_code, landed, landed_frames, is_anchor}
use Rattle.sour_semantics.proofs.Places.{lines_of-body}
use Rattle.laws_validity.proofs.Bodies.{depth, Leads, IsBodyOf, IsBodyOf-code}
use Rattle.laws_validity.proofs.Values.{IfOk-any, IfOk-in_front}

-- no more steps than this can follow without a turn: the lines that the top frame has left, and 4096 more for each body into which anchors may lead
abbrev pub left : ProgramView → List Frame → ℕ
left program [] = 0
left program (frame ∷ frames) = depth frame.code * 4096 + length (from_label frame.label (lines_of program frame.code))

-- the lines from a label on, by whether the first line has it
length-taken : (test : Bool) (line : Line) (lines found : List Line) → length found ≤ length lines
    → length (cond test (line ∷ lines) found) ≤ length (line ∷ lines)
length-taken true line lines found within = omega arith
length-taken false line lines found within = omega arith

-- the lines from a label on are no more than all
length-from_label : (label : List ℕ) (lines : List Line) → length (from_label label lines) ≤ length lines
length-from_label label [] = omega arith
length-from_label label (line ∷ lines) = length-taken (bytes_eq line.label label) line lines (from_label label lines) (length-from_label label lines)

-- a frame has no more lines left than a body may have
pub left-most : (program : ProgramView) (code : FrameCode) (label : List ℕ) (body : BodyView) → body_at program code ≡ Some body
    → length body.lines ≤ 4096 → length (from_label label (lines_of program code)) ≤ 4096
left-most program code label body runs few =
    omega (arith, length-from_label label (lines_of program code), ap length (lines_of-body program code body runs))

-- a frame that stands at an anchor runs made code
pub anchor_made : (program : ProgramView) (code : FrameCode) (body : BodyView) (label : List ℕ) (line : Line) (rest : List Line)
    → IsBodyOf program code body → from_label label body.lines ≡ line ∷ rest → is_anchor label ≡ true → 0 < depth code
anchor_made program code body label line rest is stands anchor =
    let Made : Line → Type 0 = λ line. is_anchor line.label ≡ true → 0 < depth code in
    let made : Made line = All-from_label Made label body.lines line rest is.anchors stands in
    made (ap is_anchor (label-from_label label body.lines line rest stands) ∙ anchor)

-- the top one of these frames runs this code
abbrev pub HasTop : FrameCode → List Frame → Type 0
HasTop code [] = ⊥
HasTop code (frame ∷ frames) = frame.code ≡ code

-- a frame that a continuation makes runs the code that is named
IfOk-code : (program : ProgramView) (from : FrameCode) (continuation : Continuation) (r : Result (List Value) Trap)
    → IfOk (landed program from continuation r) (λ (frame : Frame). frame.code ≡ exit_code from continuation.target.code)
IfOk-code program from continuation (Ok values) = refl
IfOk-code program from continuation (Err trap) = tt

-- the top one of the frames that an exit makes runs the code that the exit names
pub IfOk-top : (program : ProgramView) (frame : Frame) (heap : Heap) (exit : Exit)
    → IfOk (landed_frames program frame heap (continuations exit)) (HasTop (exit_code frame.code exit.target.code))
IfOk-top program frame heap exit =
    let code : FrameCode = exit_code frame.code exit.target.code in
    let values : Result (List Value) Trap = eval_each frame.environment heap (bound_values exit.map) in
    let others : Result (List Frame) Trap = landed_frames program frame heap (map extra_continuation exit.extras) in
    IfOk-in_front (λ (first : Frame). first.code ≡ code) (λ (frames : List Frame). Unit {0}) (HasTop code)
    (landed program frame.code (top_continuation exit) values) others (λ first frames same any. same)
    (IfOk-code program frame.code (top_continuation exit) values) (IfOk-any others)

-- the frames that an anchor makes have less left
pub left-lower : (program : ProgramView) (from : FrameCode) (continuation : Continuation) (landed below : List Frame) → IsProgram program
    → Leads program from continuation → 0 < depth from → HasTop (exit_code from continuation.target.code) landed
    → left program (landed ++ below) ≤ depth from * 4096
left-lower program from continuation [] below is leads made top = absurd top
left-lower program from continuation (frame ∷ landed) below is leads made top =
    let code : FrameCode = exit_code from continuation.target.code in
    let one : IsBodyOf program code leads.body = IsBodyOf-code program code leads.body is leads.names.fine leads.names.found in
    let Low : FrameCode → Type 0 =
    λ code. depth code * 4096 + length (from_label frame.label (lines_of program code)) ≤ depth from * 4096 in
    let low : Low code =
    omega (arith, leads.names.lower made, left-most program code frame.label leads.body leads.names.found one.lines) in
    subst Low (sym top) low
