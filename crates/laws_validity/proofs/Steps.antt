-- A step from a valid state gives a valid state.
use Rattle.std.proofs.Common.{◌≡◌, ℕ, List, [], ◌∷◌, ◌++◌, Option, None, Some, set, length, refl, sym, ap, arith}
use Rattle.std.specs.Prelude.{is_some, IfOk}
use Rattle.std.specs.List.{AllByRecursion}
use Rattle.std.proofs.lemmas.List.{map-set}
use Rattle.sour_syntax.specs.declared.expression.Expr.{Expr}
use Rattle.sour_syntax.specs.declared.expression.Simple.TheVariants as simple
use Rattle.sour_syntax.specs.declared.instruction.Instr.{Instr}
use Rattle.sour_syntax.specs.declared.instruction.Instr.TheVariants.{Var, Drop, Assign, ArrayLength, ArrayList, Store, Print, Read, Branch, Goto, Call, Return, Stop, Assume}
use Rattle.sour_syntax.specs.declared.instruction.Line.{Line}
use Rattle.sour_syntax.specs.BodyView.{BodyView}
use Rattle.sour_syntax.specs.Labels.{from_label, first_label}
use Rattle.sour_syntax.specs.Literals.{simple_literals, literals_of_expr, literals_of_each}
use Rattle.sour_syntax.specs.Program.{ProgramView, IsProgram}
use Rattle.sour_syntax.proofs.Everywhere.{AllByRecursion-parts, AllByRecursion-set}
use Rattle.sour_syntax.proofs.NamedScopes.{set-same}
use Rattle.sour_semantics.specs.State.{Environment, Frame, Ending, State}
use Rattle.sour_semantics.specs.Evaluation.{number_in, truth_in, function_in, operand, eval, eval_each, holds_each}
use Rattle.sour_semantics.specs.Text.{value_text}
use Rattle.sour_semantics.specs.Step.{Choice, body_or_empty, lines_of, takes_turn, stays, act, act_first, act_top, unless_ended, step}
use Rattle.sour_semantics.specs.Validity.{IsValidFrame, IsValid, MayChoose, scope_of}
use Rattle.laws_validity.proofs.Bodies.{IsBodyOf, IsBodyOf-code}
use Rattle.laws_validity.proofs.Values.{IsValueOf, IsKeptOf, IsLiteralOf, IfOk-any, IfOk-eval, IfOk-eval_each}
use Rattle.laws_validity.proofs.Reached.{reached}
use Rattle.laws_validity.proofs.Frames.{StandsBefore, StandsBefore-frame, IsValidFrame-moved}
use Rattle.laws_validity.proofs.States.{going, IsValid-moved, IsValid-given, IsValid-turn, IsValid-branches, IsValid-set, IsValid-reads, IsValid-prints, IsValid-returns}
use Rattle.laws_validity.proofs.Arrays.{IsValid-makes, IsValid-makes_empty, IsValid-writes}
use Rattle.laws_validity.proofs.Calls.{IsValid-calls}
use Rattle.laws_validity.proofs.Leaving.{IsValid-assumes}

-- an expression of the top frame
IfOk-top : (program : ProgramView) (frame : Frame) (frames : List Frame) (s : State) (e : Expr)
    → IsValid program (going (frame ∷ frames) s) → AllByRecursion (IsLiteralOf program) (literals_of_expr e)
    → IfOk (eval frame.environment s.heap e) (IsValueOf program s.heap)
IfOk-top program frame frames s e valid literals =
    IfOk-eval program frame.environment s.heap e valid.heap valid.frames.0.values literals

-- some expressions of the top frame
IfOk-top_each : (program : ProgramView) (frame : Frame) (frames : List Frame) (s : State) (es : List Expr)
    → IsValid program (going (frame ∷ frames) s) → AllByRecursion (IsLiteralOf program) (literals_of_each es)
    → IfOk (eval_each frame.environment s.heap es) (AllByRecursion (IsValueOf program s.heap))
IfOk-top_each program frame frames s es valid literals =
    IfOk-eval_each program frame.environment s.heap es valid.heap valid.frames.0.values literals

-- an instruction before which the top frame stands
IsValid-act : (program : ProgramView) (choice : Choice) (frame : Frame) (frames : List Frame) (instr : Instr) (next : List ℕ) (s : State)
    → MayChoose program choice → IsValid program (going (frame ∷ frames) s) → StandsBefore program frame instr next
    → IsValid program (act program choice frame instr next (going (frame ∷ frames) s))
IsValid-act program choice frame frames (Var x e) next s may valid at =
    IsValid-given program (frame ∷ frames) s (IsValueOf program s.heap) (eval frame.environment s.heap e) _ valid
    (IfOk-top program frame frames s e valid at.literals)
    (λ value is. IsValid-set program frame frames s (Var x e) next x value valid at (0, omega arith, refl) refl is)
IsValid-act program choice frame frames (Drop x) next s may valid at =
    let environment : Environment = set frame.environment x.0 None in
    IsValid-moved program frame frames s next environment valid
    (IsValidFrame-moved program (length s.heap) frame (Drop x) next next environment at (0, omega arith, refl)
    (map-set is_some frame.environment x.0 None)
    (AllByRecursion-set (IsKeptOf program s.heap) frame.environment x.0 None valid.frames.0.values tt))
IsValid-act program choice frame frames (Assign x e) next s may valid at =
    IsValid-given program (frame ∷ frames) s (IsValueOf program s.heap) (eval frame.environment s.heap e) _ valid
    (IfOk-top program frame frames s e valid at.literals)
    (λ value is. IsValid-set program frame frames s (Assign x e) next x value valid at (0, omega arith, refl)
    (set-same (scope_of frame.environment) x.0 at.fine.needs.0) is)
IsValid-act program choice frame frames (ArrayLength x e) next s may valid at =
    IsValid-given program (frame ∷ frames) s (IsValueOf program s.heap) (eval frame.environment s.heap e) _ valid
    (IfOk-top program frame frames s e valid at.literals)
    (λ value is. IsValid-makes_empty program frame frames s (ArrayLength x e) next x (number_in value) valid at (0, omega arith, refl) refl)
IsValid-act program choice frame frames (ArrayList x es) next s may valid at =
    IsValid-given program (frame ∷ frames) s (AllByRecursion (IsValueOf program s.heap)) (eval_each frame.environment s.heap es) _ valid
    (IfOk-top_each program frame frames s es valid at.literals)
    (λ cells are. IsValid-makes program frame frames s (ArrayList x es) next x cells valid at (0, omega arith, refl) refl are)
IsValid-act program choice frame frames (Store x index e) next s may valid at =
    let parts = AllByRecursion-parts (IsLiteralOf program) (simple_literals index) (literals_of_expr e) at.literals in
    IsValid-given program (frame ∷ frames) s (IsValueOf program s.heap) (eval frame.environment s.heap e) _ valid
    (IfOk-top program frame frames s e valid parts.1)
    (λ value is. IsValid-writes program frame frames s (Store x index e) next (operand frame.environment (simple.Var x))
    (number_in (operand frame.environment index)) value valid at (0, omega arith, refl) refl is)
IsValid-act program choice frame frames (Read x) next s may valid at = IsValid-reads program frame frames s x s.rest next valid at valid.input
IsValid-act program choice frame frames (Print e) next s may valid at =
    IsValid-given program (frame ∷ frames) s (IsValueOf program s.heap) (eval frame.environment s.heap e) _ valid
    (IfOk-top program frame frames s e valid at.literals)
    (λ value is. IsValid-prints program frame frames s (value_text program s.heap value ++ 10 ∷ []) next valid
    (IsValidFrame-moved program (length s.heap) frame (Print e) next next frame.environment at (0, omega arith, refl) refl
    valid.frames.0.values))
IsValid-act program choice frame frames (Branch e first second) next s may valid at =
    let turned = IsValid-turn program (frame ∷ frames) s valid in
    IsValid-given program (frame ∷ frames) (takes_turn s) (IsValueOf program s.heap) (eval frame.environment s.heap e) _ turned
    (IfOk-top program frame frames s e valid at.literals)
    (λ value is. IsValid-branches program frame frames (takes_turn s) (truth_in value) first second turned
    (IsValidFrame-moved program (length s.heap) frame (Branch e first second) next first frame.environment at (0, omega arith, refl) refl
    valid.frames.0.values)
    (IsValidFrame-moved program (length s.heap) frame (Branch e first second) next second frame.environment at (1, omega arith, refl) refl
    valid.frames.0.values))
IsValid-act program choice frame frames (Goto label) next s may valid at =
    IsValid-moved program frame frames (takes_turn s) label frame.environment (IsValid-turn program (frame ∷ frames) s valid)
    (IsValidFrame-moved program (length s.heap) frame (Goto label) next label frame.environment at (0, omega arith, refl) refl
    valid.frames.0.values)
IsValid-act program choice frame frames (Call x callee es) next s may valid at =
    let turned = IsValid-turn program (frame ∷ frames) s valid in
    let parts = AllByRecursion-parts (IsLiteralOf program) (simple_literals callee) (literals_of_each es) at.literals in
    IsValid-given program (frame ∷ frames) (takes_turn s) (AllByRecursion (IsValueOf program s.heap))
    (eval_each frame.environment s.heap es) _ turned
    (IfOk-top_each program frame frames s es valid parts.1)
    (λ values are. IsValid-calls program choice.entry frame frames (takes_turn s) x callee es next
    (function_in (operand frame.environment callee)) values may turned at are)
IsValid-act program choice frame frames (Return e) next s may valid at =
    let turned = IsValid-turn program (frame ∷ frames) s valid in
    IsValid-given program (frame ∷ frames) (takes_turn s) (IsValueOf program s.heap) (eval frame.environment s.heap e) _ turned
    (IfOk-top program frame frames s e valid at.literals)
    (λ value is. IsValid-returns program frame frames (takes_turn s) value turned is)
IsValid-act program choice frame frames Stop next s may valid at =
    record { frames = valid.frames; heap = valid.heap; input = valid.input; output = valid.output; ending = tt }
IsValid-act program choice frame frames (Assume es exit) next s may valid at =
    IsValid-given program (frame ∷ frames) s _ (holds_each frame.environment s.heap es) _ valid (IfOk-any (holds_each frame.environment s.heap es))
    (λ holds any. IsValid-assumes program frame frames s es exit next (stays choice frame.label holds) valid at)

-- the first of the lines from the top frame's label on
IsValid-act_first : (program : ProgramView) (choice : Choice) (frame : Frame) (frames : List Frame) (lines : List Line) (s : State)
    → IsProgram program → MayChoose program choice → (valid : IsValid program (going (frame ∷ frames) s))
    → from_label frame.label valid.frames.0.body.lines ≡ lines
    → IsValid program (act_first program choice frame lines (going (frame ∷ frames) s))
IsValid-act_first program choice frame frames [] s is may valid none =
    let top : IsValidFrame program (length s.heap) frame = valid.frames.0 in
    let one : IsBodyOf program frame.code top.body = IsBodyOf-code program frame.code top.body is top.code top.runs in
    absurd (reached top.body top.count frame.label _ one.is top.path none)
IsValid-act_first program choice frame frames (line ∷ rest) s is may valid stands =
    IsValid-act program choice frame frames line.instr (first_label rest) s may valid
    (StandsBefore-frame program (length s.heap) frame line rest is valid.frames.0 valid.ending.0 (record { stands = stands }))

-- the instruction at which the top frame stands
IsValid-act_top : (program : ProgramView) (choice : Choice) (frames : List Frame) (s : State) → IsProgram program → MayChoose program choice
    → IsValid program (going frames s) → IsValid program (act_top program choice frames (going frames s))
IsValid-act_top program choice [] s is may valid = absurd valid.ending
IsValid-act_top program choice (frame ∷ frames) s is may valid =
    IsValid-act_first program choice frame frames (from_label frame.label (lines_of program frame.code)) s is may valid
    (ap (λ (found : Option BodyView). from_label frame.label (body_or_empty found).lines) (sym valid.frames.0.runs))

-- a run that has ended stays as it is
IsValid-unless_ended : (program : ProgramView) (choice : Choice) (ending : Option Ending) (frames : List Frame) (s : State)
    → IsProgram program → MayChoose program choice → IsValid program (record s { frames = frames; ending = ending })
    → IsValid program
    (unless_ended ending (act_top program choice frames (record s { frames = frames; ending = ending }))
    (record s { frames = frames; ending = ending }))
IsValid-unless_ended program choice None frames s is may valid = IsValid-act_top program choice frames s is may valid
IsValid-unless_ended program choice (Some ending) frames s is may valid = valid

-- a step from a valid state gives a valid state
pub IsValid-step : (program : ProgramView) (choice : Choice) (s : State) → IsProgram program → IsValid program s
    → MayChoose program choice → IsValid program (step program choice s)
IsValid-step program choice s is valid may = IsValid-unless_ended program choice s.ending s.frames s is may valid
