-- A valid state stays valid when the top frame leaves by an exit.
use Rattle.std.proofs.Common.{◌≡◌, ◌<◌, ℕ, List, [], ◌∷◌, ◌++◌, Bool, true, false, Option, None, Some, Result, Ok, Err, set, map, length, replicate, refl, sym, ap, ◌∙◌, subst, arith}
use Rattle.std.specs.Prelude.{IfOk, IfSome}
use Rattle.std.specs.List.{AllByRecursion}
use Rattle.std.proofs.lemmas.List.{length-map, length-replicate}
use Rattle.sour_syntax.specs.declared.exit.Bind.{Bind}
use Rattle.sour_syntax.specs.declared.exit.Exit.{Exit}
use Rattle.sour_syntax.specs.declared.exit.Extra.{Extra}
use Rattle.sour_syntax.specs.declared.expression.Expr.{Expr}
use Rattle.sour_syntax.specs.declared.instruction.Instr.TheVariants.{Assume}
use Rattle.sour_syntax.specs.declared.literal.Value.{Value}
use Rattle.sour_syntax.specs.declared.literal.VarId.{VarId}
use Rattle.sour_syntax.specs.declared.trap.Trap.{Trap}
use Rattle.sour_syntax.specs.BodyView.{BodyView}
use Rattle.sour_syntax.specs.Exits.{Continuation, top_continuation, extra_continuation, continuations, bound_names, bound_values, extras_values, exit_values}
use Rattle.sour_syntax.specs.Literals.{literals_of_expr, literals_of_each}
use Rattle.sour_syntax.specs.Program.{ProgramView}
use Rattle.sour_syntax.specs.Scopes.{Scope, HasScope, scope_with}
use Rattle.sour_syntax.specs.Targets.{scope_of_names}
use Rattle.sour_syntax.proofs.Everywhere.{AllByRecursion-append, AllByRecursion-parts, AllByRecursion-replicate, AllByRecursion-set}
use Rattle.sour_semantics.specs.State.{Environment, Heap, Frame, FrameCode, State}
use Rattle.sour_semantics.specs.Evaluation.{eval, eval_each}
use Rattle.sour_semantics.specs.Step.{body_or_empty, body_of, exit_code, bound, landed_frame, landed, landed_frames, leaves, is_anchor, takes_exit_turn, takes_turn, assumes}
use Rattle.sour_semantics.specs.Validity.{IsKept, IsValidFrame, IsValidHeap, Waits, IsStanding, IsValid, scope_of}
use Rattle.sour_semantics.proofs.Environments.{length-bound, scope_of-landed}
use Rattle.laws_validity.proofs.Values.{IsValueOf, IsKeptOf, IsLiteralOf, IfOk-both, IfOk-any, IfOk-in_front, IfOk-eval_each}
use Rattle.laws_validity.proofs.Bodies.{Leads}
use Rattle.laws_validity.proofs.Frames.{StandsBefore, IsValidFrame-moved}
use Rattle.laws_validity.proofs.States.{going, IsValid-moved, IsValid-given, IsValid-turn}

-- a row in which some variables get values keeps values
are_bound : (functions arrays : ℕ) (row : Environment) (names : List VarId) (values : List Value)
    → AllByRecursion (IsKept functions arrays) row → AllByRecursion (λ (value : Value). IsKept functions arrays (Some value)) values
    → AllByRecursion (IsKept functions arrays) (bound row names values)
are_bound functions arrays row [] values all are = all
are_bound functions arrays row (x ∷ names) [] all are = all
are_bound functions arrays row (x ∷ names) (value ∷ values) all are =
    are_bound functions arrays (set row x.0 (Some value)) names values
    (AllByRecursion-set (IsKept functions arrays) row x.0 (Some value) all are.0) are.1

-- as many values of the run as there are variables in a map
abbrev AreFor : ProgramView → Heap → Continuation → List Value → Type 0
AreFor program heap continuation values =
    (length values ≡ length (bound_names continuation.binds)) × AllByRecursion (IsValueOf program heap) values

-- the frame that a continuation makes of such values is valid
IsValidFrame-landed : (program : ProgramView) (from : FrameCode) (heap : Heap) (continuation : Continuation) (values : List Value)
    → Leads program from continuation → AreFor program heap continuation values
    → IsValidFrame program (length heap) (landed_frame program from continuation values)
IsValidFrame-landed program from heap continuation values leads are =
    let names : List VarId = bound_names continuation.binds in
    let code : FrameCode = exit_code from continuation.target.code in
    let count : ℕ = length (body_of program code).variables in
    let known : body_of program code ≡ leads.body = ap body_or_empty leads.names.found in
    let scope : scope_of_names (length leads.body.variables) names ≡ scope_of (bound (replicate count None) names values) =
    sym (scope_of-landed count names values are.0
    ∙ ap (λ (body : BodyView). scope_of_names (length body.variables) names) known) in
    let Placed : ℕ → Type 0 = λ count. IfSome continuation.waits (λ x. x < count) in
    let places : length leads.body.variables ≡ length (bound (replicate count None) names values) =
    sym (length-bound (replicate count None) names values
    ∙ length-replicate count None
    ∙ ap (λ (body : BodyView). length body.variables) known) in
    let HasPath : Scope → Type 0 =
    λ scope. HasScope leads.body leads.count continuation.target.label (scope_with continuation.waits scope) in
    record {
      body = leads.body;
      runs = leads.names.found;
      code = leads.names.fine;
      count = leads.count;
      path = subst HasPath scope leads.path;
      values = are_bound (length program.functions) (length heap) (replicate count None) names values
          (AllByRecursion-replicate (IsKeptOf program heap) count None tt) are.1;
      place = subst Placed places leads.waits;
    }

-- there are as many values as expressions
pub IfOk-count : (environment : Environment) (heap : Heap) (es : List Expr)
    → IfOk (eval_each environment heap es) (λ (values : List Value). length values ≡ length es)
IfOk-count environment heap [] = refl
IfOk-count environment heap (e ∷ es) =
    IfOk-in_front (λ (value : Value). Unit {0}) (λ (values : List Value). length values ≡ length es)
    (λ (values : List Value). length values ≡ length (e ∷ es)) (eval environment heap e) (eval_each environment heap es)
    (λ value values any same. omega (arith, same)) (IfOk-any (eval environment heap e)) (IfOk-count environment heap es)

-- as many values as a map has expressions are as many as its variables
pub counted : (r : Result (List Value) Trap) (binds : List Bind)
    → IfOk r (λ (values : List Value). length values ≡ length (bound_values binds))
    → IfOk r (λ (values : List Value). length values ≡ length (bound_names binds))
counted (Ok values) binds same =
    same ∙ length-map binds (λ (bind : Bind). bind.value) ∙ sym (length-map binds (λ (bind : Bind). bind.name))
counted (Err trap) binds same = tt

-- what was evaluated for a continuation: as many values as it has variables
IfOk-values : (program : ProgramView) (frame : Frame) (heap : Heap) (continuation : Continuation) → IsValidHeap program heap
    → IsValidFrame program (length heap) frame
    → AllByRecursion (IsLiteralOf program) (literals_of_each (bound_values continuation.binds))
    → IfOk (eval_each frame.environment heap (bound_values continuation.binds)) (AreFor program heap continuation)
IfOk-values program frame heap continuation fine valid literals =
    let es : List Expr = bound_values continuation.binds in
    let Counts : List Value → Type 0 = λ values. length values ≡ length (bound_names continuation.binds) in
    IfOk-both Counts (AllByRecursion (IsValueOf program heap)) (eval_each frame.environment heap es)
    (counted (eval_each frame.environment heap es) continuation.binds (IfOk-count frame.environment heap es))
    (IfOk-eval_each program frame.environment heap es fine valid.values literals)

-- a frame that a continuation makes is valid, and waits where that says so
abbrev HasLanded : ProgramView → Heap → Option ℕ → Frame → Type 0
HasLanded program heap waits frame = IsValidFrame program (length heap) frame × (frame.waits ≡ waits)

-- the frame that a continuation makes of what was evaluated
IfOk-landed : (program : ProgramView) (from : FrameCode) (heap : Heap) (continuation : Continuation) (r : Result (List Value) Trap)
    → Leads program from continuation → IfOk r (AreFor program heap continuation)
    → IfOk (landed program from continuation r) (HasLanded program heap continuation.waits)
IfOk-landed program from heap continuation (Ok values) leads are =
    (IsValidFrame-landed program from heap continuation values leads are, refl)
IfOk-landed program from heap continuation (Err trap) leads are = tt

-- the literals of some expressions behind others
literals_of_each-parts : (program : ProgramView) (es others : List Expr) → AllByRecursion (IsLiteralOf program) (literals_of_each (es ++ others))
    → AllByRecursion (IsLiteralOf program) (literals_of_each es) × AllByRecursion (IsLiteralOf program) (literals_of_each others)
literals_of_each-parts program [] others all = (tt, all)
literals_of_each-parts program (e ∷ es) others all =
    let parts : AllByRecursion (IsLiteralOf program) (literals_of_expr e) × AllByRecursion (IsLiteralOf program) (literals_of_each (es ++ others)) =
    AllByRecursion-parts (IsLiteralOf program) (literals_of_expr e) (literals_of_each (es ++ others)) all in
    let rest : AllByRecursion (IsLiteralOf program) (literals_of_each es) × AllByRecursion (IsLiteralOf program) (literals_of_each others) =
    literals_of_each-parts program es others parts.1 in
    (AllByRecursion-append (IsLiteralOf program) (literals_of_expr e) (literals_of_each es) parts.0 rest.0, rest.1)

-- the frames that wait are valid
record AreWaiting (program : ProgramView) (heap : Heap) (frames : List Frame) : Type 0 where
  pub valid : AllByRecursion (IsValidFrame program (length heap)) frames
  pub wait : AllByRecursion (λ (frame : Frame). Waits frame.waits) frames

-- the frames that leaving makes are valid and stand
record AreStanding (program : ProgramView) (heap : Heap) (frames : List Frame) : Type 0 where
  pub valid : AllByRecursion (IsValidFrame program (length heap)) frames
  pub stand : IsStanding frames

-- the frames that further continuations make
IfOk-landed_extras : (program : ProgramView) (frame : Frame) (heap : Heap) (extras : List Extra) → IsValidHeap program heap
    → IsValidFrame program (length heap) frame → AllByRecursion (Leads program frame.code) (map extra_continuation extras)
    → AllByRecursion (IsLiteralOf program) (literals_of_each (extras_values extras))
    → IfOk (landed_frames program frame heap (map extra_continuation extras)) (AreWaiting program heap)
IfOk-landed_extras program frame heap [] fine valid leads literals = record { valid = tt; wait = tt }
IfOk-landed_extras program frame heap (extra ∷ extras) fine valid leads literals =
    let continuation : Continuation = extra_continuation extra in
    let parts = literals_of_each-parts program (bound_values extra.map) (extras_values extras) literals in
    let values : Result (List Value) Trap = eval_each frame.environment heap (bound_values extra.map) in
    IfOk-in_front (HasLanded program heap continuation.waits) (AreWaiting program heap) (AreWaiting program heap)
    (landed program frame.code continuation values) (landed_frames program frame heap (map extra_continuation extras))
    (λ first others is are. record { valid = (is.0, are.valid); wait = (subst Waits (sym is.1) tt, are.wait) })
    (IfOk-landed program frame.code heap continuation values leads.0 (IfOk-values program frame heap continuation fine valid parts.0))
    (IfOk-landed_extras program frame heap extras fine valid leads.1 parts.1)

-- the frames that an exit makes
IfOk-landed_frames : (program : ProgramView) (frame : Frame) (heap : Heap) (exit : Exit) → IsValidHeap program heap
    → IsValidFrame program (length heap) frame → AllByRecursion (Leads program frame.code) (continuations exit)
    → AllByRecursion (IsLiteralOf program) (literals_of_each (exit_values exit))
    → IfOk (landed_frames program frame heap (continuations exit)) (AreStanding program heap)
IfOk-landed_frames program frame heap exit fine valid leads literals =
    let continuation : Continuation = top_continuation exit in
    let parts = literals_of_each-parts program (bound_values exit.map) (extras_values exit.extras) literals in
    let values : Result (List Value) Trap = eval_each frame.environment heap (bound_values exit.map) in
    IfOk-in_front (HasLanded program heap None) (AreWaiting program heap) (AreStanding program heap)
    (landed program frame.code continuation values) (landed_frames program frame heap (map extra_continuation exit.extras))
    (λ first others is are. record { valid = (is.0, are.valid); stand = (is.1, are.wait) })
    (IfOk-landed program frame.code heap continuation values leads.0 (IfOk-values program frame heap continuation fine valid parts.0))
    (IfOk-landed_extras program frame heap exit.extras fine valid leads.1 parts.1)

-- frames that stand stand also above others that wait
IsStanding-above : (landed below : List Frame) → IsStanding landed → AllByRecursion (λ (frame : Frame). Waits frame.waits) below
    → IsStanding (landed ++ below)
IsStanding-above [] below stand wait = absurd stand
IsStanding-above (top ∷ landed) below stand wait =
    (stand.0, AllByRecursion-append (λ (frame : Frame). Waits frame.waits) landed below stand.1 wait)

-- the top frame leaves
IsValid-leaves : (program : ProgramView) (frame : Frame) (frames : List Frame) (s : State) (exit : Exit)
    → IsValid program (going (frame ∷ frames) s) → AllByRecursion (Leads program frame.code) (continuations exit)
    → AllByRecursion (IsLiteralOf program) (literals_of_each (exit_values exit))
    → IsValid program (leaves program frame exit (going (frame ∷ frames) s))
IsValid-leaves program frame frames s exit valid leads literals =
    IsValid-given program (frame ∷ frames) s (AreStanding program s.heap) (landed_frames program frame s.heap (continuations exit)) _ valid
    (IfOk-landed_frames program frame s.heap exit valid.heap valid.frames.0 leads literals)
    (λ landed are. record {
      frames = AllByRecursion-append (IsValidFrame program (length s.heap)) landed frames are.valid valid.frames.1;
      heap = valid.heap;
      input = valid.input;
      output = valid.output;
      ending = IsStanding-above landed frames are.stand valid.ending.1;
    })

-- the top frame leaves, after a turn or without
leaves_after : (program : ProgramView) (frame : Frame) (frames : List Frame) (s : State) (exit : Exit) (anchor : Bool)
    → IsValid program (going (frame ∷ frames) s) → AllByRecursion (Leads program frame.code) (continuations exit)
    → AllByRecursion (IsLiteralOf program) (literals_of_each (exit_values exit))
    → IsValid program (leaves program frame exit (takes_exit_turn anchor (going (frame ∷ frames) s)))
leaves_after program frame frames s exit true valid leads literals = IsValid-leaves program frame frames s exit valid leads literals
leaves_after program frame frames s exit false valid leads literals =
    IsValid-leaves program frame frames (takes_turn s) exit (IsValid-turn program (frame ∷ frames) s valid) leads literals

-- the top frame goes on or leaves
pub IsValid-assumes : (program : ProgramView) (frame : Frame) (frames : List Frame) (s : State) (es : List Expr) (exit : Exit) (next : List ℕ)
    (on : Bool) → IsValid program (going (frame ∷ frames) s) → StandsBefore program frame (Assume es exit) next
    → IsValid program (assumes program frame exit next on (going (frame ∷ frames) s))
IsValid-assumes program frame frames s es exit next true valid at =
    IsValid-moved program frame frames s next frame.environment valid
    (IsValidFrame-moved program (length s.heap) frame (Assume es exit) next next frame.environment at (0, omega arith, refl) refl
    valid.frames.0.values)
IsValid-assumes program frame frames s es exit next false valid at =
    let parts = AllByRecursion-parts (IsLiteralOf program) (literals_of_each es) (literals_of_each (exit_values exit)) at.literals in
    leaves_after program frame frames s exit (is_anchor frame.label) valid at.leads parts.1
