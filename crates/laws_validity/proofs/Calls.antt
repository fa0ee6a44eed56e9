-- A valid state stays valid when a function is called.
use Rattle.std.proofs.Common.{◌≡◌, ℕ, List, ◌∷◌, Bool, true, false, cond, Option, None, Some, eqb, length, refl, arith}
use Rattle.std.specs.List.{AllByRecursion}
use Rattle.std.proofs.lemmas.Bool.{eqb-true}
use Rattle.sour_syntax.specs.declared.expression.Expr.{Expr}
use Rattle.sour_syntax.specs.declared.expression.Simple.{Simple}
use Rattle.sour_syntax.specs.declared.instruction.Instr.TheVariants.{Call}
use Rattle.sour_syntax.specs.declared.literal.FunId.{FunId}
use Rattle.sour_syntax.specs.declared.literal.Value.{Value}
use Rattle.sour_syntax.specs.declared.literal.VarId.{VarId}
use Rattle.sour_syntax.specs.declared.trap.Trap.TheVariants.{ArgCount}
use Rattle.sour_syntax.specs.BodyView.{BodyView}
use Rattle.sour_syntax.specs.Program.{ProgramView}
use Rattle.sour_semantics.specs.State.{Frame, FrameCode, text, made, trapped, State, BundleView}
use Rattle.sour_semantics.specs.Step.{Entry, text_version, bundle, body_at, ends, entered_code, entered_frame, waits_for, enters, calls}
use Rattle.sour_semantics.specs.Validity.{IsCode, IsValid, MayEnter}
use Rattle.laws_validity.proofs.Values.{IsValueOf}
use Rattle.laws_validity.proofs.Frames.{StandsBefore, IsValidFrame-entered}
use Rattle.laws_validity.proofs.States.{going, IsValid-trapped}

-- a body is entered or not, by the test of the number of values
entered : (program : ProgramView) (frame : Frame) (frames : List Frame) (s : State) (x : VarId) (callee : Simple) (es : List Expr)
    (next : List ℕ) (code : FrameCode) (body : BodyView) (values : List Value) (test : Bool)
    → eqb (length values) body.parameters ≡ test → body_at program code ≡ Some body → IsCode program code
    → IsValid program (going (frame ∷ frames) s) → StandsBefore program frame (Call x callee es) next
    → AllByRecursion (IsValueOf program s.heap) values
    → IsValid program
    (cond test (going (entered_frame code body values ∷ waits_for x next (frame ∷ frames)) s)
    (ends (trapped ArgCount) (going (frame ∷ frames) s)))
entered program frame frames s x callee es next code body values true same runs fine valid at are = record {
  frames = (
    IsValidFrame-entered program (length s.heap) code body values runs fine (eqb-true (length values) body.parameters same) are,
    (at.onward (length s.heap) next frame.environment (Some x.0) (0, omega arith, refl) refl valid.frames.0.values at.places.0, valid.frames.1),
  );
  heap = valid.heap;
  input = valid.input;
  output = valid.output;
  ending = (refl, (tt, valid.ending.1));
}
entered program frame frames s x callee es next code body values false same runs fine valid at are =
    IsValid-trapped program (frame ∷ frames) s _ valid

-- what may be a body is entered
IsValid-enters : (program : ProgramView) (frame : Frame) (frames : List Frame) (s : State) (x : VarId) (callee : Simple) (es : List Expr)
    (next : List ℕ) (code : FrameCode) (found : Option BodyView) (values : List Value) → body_at program code ≡ found → IsCode program code
    → IsValid program (going (frame ∷ frames) s) → StandsBefore program frame (Call x callee es) next
    → AllByRecursion (IsValueOf program s.heap) values
    → IsValid program (enters x code found values next (going (frame ∷ frames) s))
IsValid-enters program frame frames s x callee es next code None values runs fine valid at are =
    IsValid-trapped program (frame ∷ frames) s _ valid
IsValid-enters program frame frames s x callee es next code (Some body) values runs fine valid at are =
    entered program frame frames s x callee es next code body values (eqb (length values) body.parameters) refl runs fine valid at are

-- a bundle is entered or the text version is, by whether it is of the function
IsCode-test : (program : ProgramView) (view : BundleView) (f : FunId) (test : Bool) → MayEnter program (bundle view)
    → IsCode program (cond test (made view.bodies (length view.bodies)) (text f 0))
IsCode-test program view f true shape = (view.function, shape)
IsCode-test program view f false shape = tt

-- what a call may enter is code of the program
IsCode-entered : (program : ProgramView) (entry : Entry) (f : FunId) → MayEnter program entry → IsCode program (entered_code entry f)
IsCode-entered program text_version f may = tt
IsCode-entered program (bundle view) f may = IsCode-test program view f (eqb view.function.0 f.0) may

-- what may be a function is called
pub IsValid-calls : (program : ProgramView) (entry : Entry) (frame : Frame) (frames : List Frame) (s : State) (x : VarId) (callee : Simple)
    (es : List Expr) (next : List ℕ) (function : Option FunId) (values : List Value) → MayEnter program entry
    → IsValid program (going (frame ∷ frames) s) → StandsBefore program frame (Call x callee es) next
    → AllByRecursion (IsValueOf program s.heap) values
    → IsValid program (calls program entry x function values next (going (frame ∷ frames) s))
IsValid-calls program entry frame frames s x callee es next None values may valid at are =
    IsValid-trapped program (frame ∷ frames) s _ valid
IsValid-calls program entry frame frames s x callee es next (Some f) values may valid at are =
    IsValid-enters program frame frames s x callee es next (entered_code entry f) (body_at program (entered_code entry f)) values
    refl (IsCode-entered program entry f may) valid at are
