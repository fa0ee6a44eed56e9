use Rattle.std.specs.Prelude.{ℕ, ◌+◌, ◌-◌, ℤ, pos, negsuc, List, [], ◌∷◌, ◌++◌, Bool, ◌&&◌, Option, None, Some, Result, Ok, Err, true, false, length, map, replicate, nat_eq, nat_lt, slice_get, slice_set, if◌then◌else◌}
use Rattle.sour_syntax.specs.declared.instruction.Instr.{Instr}
use Rattle.sour_syntax.specs.declared.instruction.Instr.TheVariants.{Var, Drop, Assign, ArrayLength, ArrayList, Store, Print, Read, Branch, Goto, Call, Return, Stop, Assume}
use Rattle.sour_syntax.specs.declared.expression.Simple.TheVariants as simple
use Rattle.sour_syntax.specs.declared.instruction.Line.{Line}
use Rattle.sour_syntax.specs.declared.literal.FunId.{FunId}
use Rattle.sour_syntax.specs.declared.literal.ArrayId.{ArrayId}
use Rattle.sour_syntax.specs.declared.literal.Literal.{Literal}
use Rattle.sour_syntax.specs.declared.literal.Literal.TheVariants.{Nil}
use Rattle.sour_syntax.specs.declared.literal.Value.{Value}
use Rattle.sour_syntax.specs.declared.literal.Value.TheVariants.{Plain, Array}
use Rattle.sour_syntax.specs.declared.literal.VarId.{VarId}
use Rattle.sour_syntax.specs.declared.exit.Code.{Code}
use Rattle.sour_syntax.specs.declared.exit.Code.TheVariants.{Text, Made}
use Rattle.sour_syntax.specs.declared.exit.Exit.{Exit}
use Rattle.sour_syntax.specs.declared.trap.Trap.{Trap}
use Rattle.sour_syntax.specs.declared.trap.Trap.TheVariants.{BadType, Bounds, NotFunction, ArgCount, HeapFull, InputEnd, OutputFull}
use Rattle.sour_syntax.specs.BodyView.{BodyView}
use Rattle.sour_syntax.specs.Exits.{Continuation, continuations, bound_names, bound_values}
use Rattle.sour_syntax.specs.Labels.{from_label, first_label}
use Rattle.sour_syntax.specs.Program.{ProgramView}
use Rattle.sour_syntax.specs.Targets.{text_body, made_body}
use Rattle.sour_semantics.specs.State.{Environment, Heap, Frame, FrameCode, text, made, Ending, stopped, returned, trapped, stuck, State, BundleView}
use Rattle.sour_semantics.specs.Evaluation.{number_in, truth_in, function_in, operand, eval, eval_each, in_front, holds_each}
use Rattle.sour_semantics.specs.Text.{value_text}

-- what a call of a function may enter
pub data Entry : Type 0 where
  -- the first version that the text gives
  text_version : Entry
  -- a bundle of the function
  bundle : (view : BundleView) → Entry

-- what a step may choose
pub record Choice : Type 0 where
  -- what a call enters
  pub entry : Entry
  -- whether the frame leaves at an anchor, whatever its predicates say
  pub leaves : Bool

-- the choice of a run that enters text versions alone and leaves only where a predicate is false
abbrev pub text_choice : Choice
text_choice = record { entry = text_version; leaves = false }

-- the body that a code names, if there is one
abbrev pub body_at : ProgramView → FrameCode → Option BodyView
body_at program (text function version) = text_body (slice_get program.functions function.0) version
body_at program (made bodies number) = made_body bodies number

-- a body without lines where there is none
abbrev pub body_or_empty : Option BodyView → BodyView
body_or_empty None = record { function = record { 0 = 0 }; parameters = 0; variables = []; lines = [] }
body_or_empty (Some body) = body

-- the body that a frame runs
abbrev pub body_of : ProgramView → FrameCode → BodyView
body_of program code = body_or_empty (body_at program code)

-- its lines
abbrev pub lines_of : ProgramView → FrameCode → List Line
lines_of program code = (body_of program code).lines

-- the run ends
abbrev pub ends : Ending → State → State
ends ending s = record s { ending = Some ending }

-- a turn is taken
abbrev pub takes_turn : State → State
takes_turn s = record s { turns = s.turns + 1 }

-- the top frame stands at a label
abbrev pub at_label : List ℕ → List Frame → List Frame
at_label label [] = []
at_label label (frame ∷ frames) = record frame { label = label } ∷ frames

abbrev pub goes_to : List ℕ → State → State
goes_to label s = record s { frames = at_label label s.frames }

-- a variable of the top frame has a value
abbrev pub with_variable : VarId → Value → List Frame → List Frame
with_variable x value [] = []
with_variable x value (frame ∷ frames) =
    record frame { environment = slice_set frame.environment x.0 (Some value) } ∷ frames

-- a variable of the top frame has no value
abbrev pub without_variable : VarId → List Frame → List Frame
without_variable x [] = []
without_variable x (frame ∷ frames) =
    record frame { environment = slice_set frame.environment x.0 None } ∷ frames

abbrev pub clears : VarId → State → State
clears x s = record s { frames = without_variable x s.frames }

abbrev pub sets : VarId → Value → State → State
sets x value s = record s { frames = with_variable x value s.frames }

-- the next value of the input is read into a variable
abbrev pub reads : VarId → List Literal → List ℕ → State → State
reads x [] next s = ends (trapped InputEnd) s
reads x (literal ∷ rest) next s = goes_to next (sets x (Plain literal) (record s { rest = rest }))

-- the run goes on with what was evaluated, or ends with a trap
abbrev pub given : {A : Type 0} → Result A Trap → (A → State) → State → State
given (Ok value) onward s = onward value
given (Err trap) onward s = ends (trapped trap) s

-- the run goes to the one label or the other as the truth value says, if there is one
abbrev pub branches : Option Bool → List ℕ → List ℕ → State → State
branches None first second s = ends (trapped BadType) s
branches (Some true) first second s = goes_to first s
branches (Some false) first second s = goes_to second s

-- the most cells that a run may make
abbrev pub cell_limit : ℕ
cell_limit = 4194304

-- how many cells the arrays have together
abbrev pub count_heap : Heap → ℕ
count_heap [] = 0
count_heap (cells ∷ heap) = length cells + count_heap heap

-- the number of the next array
abbrev pub next_array : Heap → ArrayId
next_array heap = record { 0 = length heap }

-- a new array with these cells, if the heap has room for them: the variable refers to it
abbrev pub makes : VarId → List Value → List ℕ → State → State
makes x cells next s =
    if nat_lt cell_limit (count_heap s.heap + length cells)
    then ends (trapped HeapFull) s
    else goes_to next (sets x (Array (next_array s.heap)) (record s { heap = s.heap ++ cells ∷ [] }))

-- a new array of this length, whose cells are nil
abbrev pub makes_empty : VarId → Option ℤ → List ℕ → State → State
makes_empty x None next s = ends (trapped BadType) s
makes_empty x (Some (negsuc n)) next s = ends (trapped Bounds) s
makes_empty x (Some (pos count)) next s = makes x (replicate count (Plain Nil)) next s

-- a value is written into a cell at an index that counts from 0, if it is there
abbrev pub writes_cell : ArrayId → List Value → ℤ → Value → List ℕ → State → State
writes_cell a cells (negsuc n) value next s = ends (trapped Bounds) s
writes_cell a cells (pos place) value next s =
    if nat_lt place (length cells)
    then goes_to next (record s { heap = slice_set s.heap a.0 (slice_set cells place value) })
    else ends (trapped Bounds) s

-- a value is written into a cell of an array, if there is one and there is an index
abbrev pub writes_array : ArrayId → Option (List Value) → Option ℤ → Value → List ℕ → State → State
writes_array a None index value next s = ends (trapped BadType) s
writes_array a (Some cells) None value next s = ends (trapped BadType) s
writes_array a (Some cells) (Some index) value next s = writes_cell a cells index value next s

-- a value is written into a cell of the array to which a value refers
abbrev pub writes : Value → Option ℤ → Value → List ℕ → State → State
writes (Plain literal) index value next s = ends (trapped BadType) s
writes (Array a) index value next s = writes_array a (slice_get s.heap a.0) index value next s

-- the most bytes that a run may write
abbrev pub output_limit : ℕ
output_limit = 1048576

-- a line is written, if the output has room for all of it
abbrev pub prints : List ℕ → List ℕ → State → State
prints line next s =
    if nat_lt output_limit (length (s.output ++ line))
    then ends (trapped OutputFull) s
    else goes_to next (record s { output = s.output ++ line })

-- the values with which a frame begins: its parameters have these, and the other variables none
abbrev pub first_environment : BodyView → List Value → Environment
first_environment body values = map Some values ++ replicate (length body.variables - length values) None

-- a frame at the first line of this code, which is this body, with these values of the parameters
abbrev pub entered_frame : FrameCode → BodyView → List Value → Frame
entered_frame code body values = record {
  code = code;
  label = first_label body.lines;
  environment = first_environment body values;
  waits = None;
}

-- the code of a function that a call enters; a bundle of another function isn't entered
abbrev pub entered_code : Entry → FunId → FrameCode
entered_code text_version f = text f 0
entered_code (bundle view) f = if nat_eq view.function.0 f.0 then made view.bodies (length view.bodies) else text f 0

-- the top frame waits at a label for a result
abbrev pub waits_for : VarId → List ℕ → List Frame → List Frame
waits_for x label [] = []
waits_for x label (frame ∷ frames) = record frame { label = label; waits = Some x.0 } ∷ frames

-- a body is entered, if it takes so many values: its frame is put on top, and the one below waits
abbrev pub enters : VarId → FrameCode → Option BodyView → List Value → List ℕ → State → State
enters x code None values next s = ends (trapped NotFunction) s
enters x code (Some body) values next s =
    if nat_eq (length values) body.parameters
    then record s { frames = entered_frame code body values ∷ waits_for x next s.frames }
    else ends (trapped ArgCount) s

-- a function is called with these values, if there is one
abbrev pub calls : ProgramView → Entry → VarId → Option FunId → List Value → List ℕ → State → State
calls program entry x None values next s = ends (trapped NotFunction) s
calls program entry x (Some f) values next s =
    enters x (entered_code entry f) (body_at program (entered_code entry f)) values next s

-- a waiting frame gets its result
abbrev pub resumes : Value → Frame → List Frame → Option ℕ → State → State
resumes value frame frames None s = ends stuck (record s { frames = frame ∷ frames })
resumes value frame frames (Some variable) s =
    record s { frames = record frame { environment = slice_set frame.environment variable (Some value); waits = None } ∷ frames }

-- the top frame ends with a value: the frame below gets it, or else the run ends with it
abbrev pub returns : Value → List Frame → State → State
returns value [] s = ends (returned value) s
returns value (frame ∷ []) s = ends (returned value) s
returns value (frame ∷ below ∷ frames) s = resumes value below frames below.waits s

-- the code that an exit of this code names; made code is named by made code alone
abbrev pub exit_code : FrameCode → Code → FrameCode
exit_code code (Text f version) = text f version
exit_code (text function version) (Made number) = text function version
exit_code (made bodies own) (Made number) = made bodies number

-- the row in which these variables have these values
abbrev pub bound : Environment → List VarId → List Value → Environment
bound row [] values = row
bound row (x ∷ xs) [] = row
bound row (x ∷ xs) (value ∷ values) = bound (slice_set row x.0 (Some value)) xs values

-- the frame that a continuation makes of the values in its map, out of a frame that runs this code
abbrev pub landed_frame : ProgramView → FrameCode → Continuation → List Value → Frame
landed_frame program code continuation values = record {
  code = exit_code code continuation.target.code;
  label = continuation.target.label;
  environment = bound (replicate (length (body_of program (exit_code code continuation.target.code)).variables) None)
      (bound_names continuation.binds) values;
  waits = continuation.waits;
}

-- a frame, if its values were evaluated
abbrev pub landed : ProgramView → FrameCode → Continuation → Result (List Value) Trap → Result Frame Trap
landed program code continuation (Ok values) = Ok (landed_frame program code continuation values)
landed program code continuation (Err trap) = Err trap

-- the frames that some continuations make out of a frame, in order; their values are evaluated in that frame, and the first that traps ends it
abbrev pub landed_frames : ProgramView → Frame → Heap → List Continuation → Result (List Frame) Trap
landed_frames program frame heap [] = Ok []
landed_frames program frame heap (continuation ∷ continuations) =
    in_front
    (landed program frame.code continuation (eval_each frame.environment heap (bound_values continuation.binds)))
    (landed_frames program frame heap continuations)

-- these frames take the place of the top one
abbrev pub replaces_top : List Frame → List Frame → List Frame
replaces_top landed [] = landed
replaces_top landed (frame ∷ frames) = landed ++ frames

-- the top frame leaves by an exit
abbrev pub leaves : ProgramView → Frame → Exit → State → State
leaves program frame exit s =
    given (landed_frames program frame s.heap (continuations exit)) (λ landed. record s { frames = replaces_top landed s.frames }) s

-- a label that begins with `@` is that of an anchor: an assume that a pass made
abbrev pub is_anchor : List ℕ → Bool
is_anchor [] = false
is_anchor (byte ∷ bytes) = nat_eq byte 64

-- an exit of an assume takes a turn, but that of an anchor takes none
abbrev pub takes_exit_turn : Bool → State → State
takes_exit_turn true s = s
takes_exit_turn false s = takes_turn s

-- the frame goes on where it stays, and leaves where not
abbrev pub assumes : ProgramView → Frame → Exit → List ℕ → Bool → State → State
assumes program frame exit next true s = goes_to next s
assumes program frame exit next false s = leaves program frame exit (takes_exit_turn (is_anchor frame.label) s)

-- whether a frame stays at an assume whose predicates say this: not where it is told to leave at an anchor
abbrev pub stays : Choice → List ℕ → Bool → Bool
stays choice label holds = if choice.leaves && is_anchor label then false else holds

-- one instruction of the top frame; `next` is the label of the line behind it
abbrev pub act : ProgramView → Choice → Frame → Instr → List ℕ → State → State
act program choice frame (Var x e) next s =
    given (eval frame.environment s.heap e) (λ value. goes_to next (sets x value s)) s
act program choice frame (Drop x) next s = goes_to next (clears x s)
act program choice frame (Assign x e) next s =
    given (eval frame.environment s.heap e) (λ value. goes_to next (sets x value s)) s
act program choice frame (ArrayLength x e) next s =
    given (eval frame.environment s.heap e) (λ value. makes_empty x (number_in value) next s) s
act program choice frame (ArrayList x es) next s =
    given (eval_each frame.environment s.heap es) (λ cells. makes x cells next s) s
act program choice frame (Store x index e) next s =
    given (eval frame.environment s.heap e)
    (λ value. writes (operand frame.environment (simple.Var x)) (number_in (operand frame.environment index)) value next s) s
act program choice frame (Read x) next s = reads x s.rest next s
act program choice frame (Print e) next s =
    given (eval frame.environment s.heap e) (λ value. prints (value_text program s.heap value ++ 10 ∷ []) next s) s
act program choice frame (Branch e first second) next s =
    given (eval frame.environment s.heap e) (λ value. branches (truth_in value) first second (takes_turn s)) (takes_turn s)
act program choice frame (Goto label) next s = goes_to label (takes_turn s)
act program choice frame (Call x callee es) next s =
    given (eval_each frame.environment s.heap es)
    (λ values. calls program choice.entry x (function_in (operand frame.environment callee)) values next (takes_turn s))
    (takes_turn s)
act program choice frame (Return e) next s =
    given (eval frame.environment s.heap e) (λ value. returns value s.frames (takes_turn s)) (takes_turn s)
act program choice frame Stop next s = ends stopped s
act program choice frame (Assume es exit) next s =
    given (holds_each frame.environment s.heap es)
    (λ holds. assumes program frame exit next (stays choice frame.label holds) s) s

-- the first of the lines that are left
abbrev pub act_first : ProgramView → Choice → Frame → List Line → State → State
act_first program choice frame [] s = ends stuck s
act_first program choice frame (line ∷ lines) s = act program choice frame line.instr (first_label lines) s

-- the instruction at which the top frame stands
abbrev pub act_top : ProgramView → Choice → List Frame → State → State
act_top program choice [] s = ends stuck s
act_top program choice (frame ∷ frames) s =
    act_first program choice frame (from_label frame.label (lines_of program frame.code)) s

abbrev pub unless_ended : Option Ending → State → State → State
unless_ended None next s = next
unless_ended (Some ending) next s = s

-- one step of a run; a run that has ended stays as it is
abbrev pub step : ProgramView → Choice → State → State
step program choice s = unless_ended s.ending (act_top program choice s.frames s) s
