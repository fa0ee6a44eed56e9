-- What an instruction does, apart from the frames below its own.
use Rattle.std.specs.Prelude.{ℕ, ℤ, pos, negsuc, ◌+◌, List, [], ◌∷◌, ◌++◌, Bool, true, false, not, ◌&&◌, Option, None, Some, Result, Ok, Err, length, nat_lt, replicate, slice_get, slice_set, if◌then◌else◌}
use Rattle.sour_syntax.specs.declared.instruction.Instr.{Instr}
use Rattle.sour_syntax.specs.declared.instruction.Instr.TheVariants.{Var, Drop, Assign, ArrayLength, ArrayList, Store, Print, Read, Branch, Goto, Call, Return, Stop, Assume}
use Rattle.sour_syntax.specs.declared.expression.Simple.TheVariants as simple
use Rattle.sour_syntax.specs.declared.exit.Exit.{Exit}
use Rattle.sour_syntax.specs.declared.literal.ArrayId.{ArrayId}
use Rattle.sour_syntax.specs.declared.literal.FunId.{FunId}
use Rattle.sour_syntax.specs.declared.literal.Literal.{Literal}
use Rattle.sour_syntax.specs.declared.literal.Literal.TheVariants.{Nil}
use Rattle.sour_syntax.specs.declared.literal.Value.{Value}
use Rattle.sour_syntax.specs.declared.literal.Value.TheVariants.{Plain, Array}
use Rattle.sour_syntax.specs.declared.literal.VarId.{VarId}
use Rattle.sour_syntax.specs.declared.trap.Trap.{Trap}
use Rattle.sour_syntax.specs.declared.trap.Trap.TheVariants.{BadType, Bounds, HeapFull, InputEnd, OutputFull}
use Rattle.sour_syntax.specs.declared.instruction.Line.{Line}
use Rattle.sour_syntax.specs.Exits.{continuations}
use Rattle.sour_syntax.specs.Labels.{from_label, first_label}
use Rattle.sour_syntax.specs.Program.{ProgramView}
use Rattle.sour_semantics.specs.State.{Environment, Heap, Frame, Ending, stopped, trapped, stuck, State}
use Rattle.sour_semantics.specs.Evaluation.{number_in, truth_in, function_in, operand, eval, eval_each, holds_each}
use Rattle.sour_semantics.specs.Text.{value_text}
use Rattle.sour_semantics.specs.Step.{Entry, cell_limit, count_heap, next_array, output_limit, landed_frames, is_anchor, ends, calls, returns, replaces_top, lines_of}

-- what a run has beside its frames, its turns and its end
pub record World : Type 0 where
  pub heap : Heap
  pub rest : List Literal
  pub output : List ℕ

-- the world of a state
abbrev pub world_of : State → World
world_of s = record { heap = s.heap; rest = s.rest; output = s.output }

-- what an instruction does in the end
pub data Deed : Type 0 where
  -- the frame goes on at a label with an environment, in another world
  goes : (label : List ℕ) (environment : Environment) (world : World) → Deed
  -- a function is called, if there is one, and the frame waits at a label
  asks : (x : VarId) (f : Option FunId) (values : List Value) (next : List ℕ) → Deed
  -- the frame ends with a value
  gives : (value : Value) → Deed
  -- these frames take the place of the frame
  lands : (frames : List Frame) → Deed
  -- the run ends
  finishes : (ending : Ending) → Deed

-- a deed, and whether it takes a turn
pub record Effect : Type 0 where
  pub turn : Bool
  pub deed : Deed

-- the deed for a value, or the end by a trap
abbrev pub tried : {A : Type 0} → Result A Trap → (A → Deed) → Deed
tried (Ok value) onward = onward value
tried (Err trap) onward = finishes (trapped trap)

-- reads the next literal of the input into a variable
abbrev pub does_read : VarId → List Literal → List ℕ → Environment → World → Deed
does_read x [] next environment world = finishes (trapped InputEnd)
does_read x (literal ∷ rest) next environment world =
    goes next (slice_set environment x.0 (Some (Plain literal))) (record world { rest = rest })

-- makes an array of these cells, if the heap has room
abbrev pub does_make : VarId → List Value → List ℕ → Environment → World → Deed
does_make x cells next environment world =
    if nat_lt cell_limit (count_heap world.heap + length cells)
    then finishes (trapped HeapFull)
    else goes next (slice_set environment x.0 (Some (Array (next_array world.heap))))
    (record world { heap = world.heap ++ cells ∷ [] })

-- makes an array of so many cells that hold nil
abbrev pub does_make_empty : VarId → Option ℤ → List ℕ → Environment → World → Deed
does_make_empty x None next environment world = finishes (trapped BadType)
does_make_empty x (Some (negsuc n)) next environment world = finishes (trapped Bounds)
does_make_empty x (Some (pos count)) next environment world =
    does_make x (replicate count (Plain Nil)) next environment world

-- writes a cell of an array, if the index is one of its places
abbrev pub does_write_cell : ArrayId → List Value → ℤ → Value → List ℕ → Environment → World → Deed
does_write_cell a cells (negsuc n) value next environment world = finishes (trapped Bounds)
does_write_cell a cells (pos place) value next environment world =
    if nat_lt place (length cells)
    then goes next environment (record world { heap = slice_set world.heap a.0 (slice_set cells place value) })
    else finishes (trapped Bounds)

-- the same, by the array that is found and by the number that the index is
abbrev pub does_write_array : ArrayId → Option (List Value) → Option ℤ → Value → List ℕ → Environment → World → Deed
does_write_array a None index value next environment world = finishes (trapped BadType)
does_write_array a (Some cells) None value next environment world = finishes (trapped BadType)
does_write_array a (Some cells) (Some index) value next environment world =
    does_write_cell a cells index value next environment world

-- the same, by the value that should be an array
abbrev pub does_write : Value → Option ℤ → Value → List ℕ → Environment → World → Deed
does_write (Plain literal) index value next environment world = finishes (trapped BadType)
does_write (Array a) index value next environment world =
    does_write_array a (slice_get world.heap a.0) index value next environment world

-- appends a line to the output, if that has room
abbrev pub does_print : List ℕ → List ℕ → Environment → World → Deed
does_print line next environment world =
    if nat_lt output_limit (length (world.output ++ line))
    then finishes (trapped OutputFull)
    else goes next environment (record world { output = world.output ++ line })

-- goes to the first label or to the second, by a truth value
abbrev pub does_branch : Option Bool → List ℕ → List ℕ → Environment → World → Deed
does_branch None first second environment world = finishes (trapped BadType)
does_branch (Some true) first second environment world = goes first environment world
does_branch (Some false) first second environment world = goes second environment world

-- the frame goes on at an assume if it stays, or leaves
abbrev pub does_assume : ProgramView → Frame → Exit → List ℕ → World → Bool → Effect
does_assume program frame exit next world true = record { turn = false; deed = goes next frame.environment world }
does_assume program frame exit next world false =
    record {
      turn =
          not (is_anchor frame.label);
      deed = tried (landed_frames program frame world.heap (continuations exit)) lands;
    }

-- the same, by what the predicates say and by whether it is told to leave
abbrev pub does_try : ProgramView → Frame → Exit → List ℕ → World → Bool → Result Bool Trap → Effect
does_try program frame exit next world told (Err trap) = record { turn = false; deed = finishes (trapped trap) }
does_try program frame exit next world told (Ok holds) =
    does_assume program frame exit next world (if told then false else holds)

-- a deed that takes no turn
abbrev pub without_turn : Deed → Effect
without_turn deed = record { turn = false; deed = deed }

-- a deed that takes a turn
abbrev pub with_turn : Deed → Effect
with_turn deed = record { turn = true; deed = deed }

-- what an instruction of a frame does in this world; told to leave, the frame leaves if it is at an anchor
abbrev pub effect : ProgramView → Bool → Frame → World → Instr → List ℕ → Effect
effect program told frame world (Var x e) next =
    without_turn (tried (eval frame.environment world.heap e)
    (λ value. goes next (slice_set frame.environment x.0 (Some value)) world))
effect program told frame world (Drop x) next = without_turn (goes next (slice_set frame.environment x.0 None) world)
effect program told frame world (Assign x e) next =
    without_turn (tried (eval frame.environment world.heap e)
    (λ value. goes next (slice_set frame.environment x.0 (Some value)) world))
effect program told frame world (ArrayLength x e) next =
    without_turn (tried (eval frame.environment world.heap e)
    (λ value. does_make_empty x (number_in value) next frame.environment world))
effect program told frame world (ArrayList x es) next =
    without_turn (tried (eval_each frame.environment world.heap es)
    (λ cells. does_make x cells next frame.environment world))
effect program told frame world (Store x index e) next =
    without_turn (tried (eval frame.environment world.heap e)
    (λ value. does_write (operand frame.environment (simple.Var x))
    (number_in (operand frame.environment index)) value next frame.environment world))
effect program told frame world (Read x) next = without_turn (does_read x world.rest next frame.environment world)
effect program told frame world (Print e) next =
    without_turn (tried (eval frame.environment world.heap e)
    (λ value. does_print (value_text program world.heap value ++ 10 ∷ []) next frame.environment world))
effect program told frame world (Branch e first second) next =
    with_turn (tried (eval frame.environment world.heap e)
    (λ value. does_branch (truth_in value) first second frame.environment world))
effect program told frame world (Goto label) next = with_turn (goes label frame.environment world)
effect program told frame world (Call x callee es) next =
    with_turn (tried (eval_each frame.environment world.heap es)
    (λ values. asks x (function_in (operand frame.environment callee)) values next))
effect program told frame world (Return e) next = with_turn (tried (eval frame.environment world.heap e) gives)
effect program told frame world Stop next = without_turn (finishes stopped)
effect program told frame world (Assume es exit) next =
    does_try program frame exit next world (told && is_anchor frame.label) (holds_each frame.environment world.heap es)

-- the top frame goes on at a label with an environment
abbrev pub moved_top : List ℕ → Environment → List Frame → List Frame
moved_top label environment [] = []
moved_top label environment (frame ∷ frames) = record frame { label = label; environment = environment } ∷ frames

-- a deed of the top frame, done
abbrev pub done : ProgramView → Entry → Deed → State → State
done program entry (goes label environment world) s = record s {
  frames = moved_top label environment s.frames;
  heap = world.heap;
  rest = world.rest;
  output = world.output;
}
done program entry (asks x f values next) s = calls program entry x f values next s
done program entry (gives value) s = returns value s.frames s
done program entry (lands tops) s = record s { frames = replaces_top tops s.frames }
done program entry (finishes ending) s = ends ending s

-- so many turns were taken, after a turn more or none
abbrev pub counted : Bool → ℕ → ℕ
counted true turns = turns + 1
counted false turns = turns

-- an effect of the top frame, applied
abbrev pub applied : ProgramView → Entry → Effect → State → State
applied program entry e s = done program entry e.deed (record s { turns = counted e.turn s.turns })

-- what the first of the lines that are left does; if there is none, the run ends
abbrev pub effect_first : ProgramView → Bool → Frame → World → List Line → Effect
effect_first program told frame world [] = without_turn (finishes stuck)
effect_first program told frame world (line ∷ lines) = effect program told frame world line.instr (first_label lines)

-- what the top frame does
abbrev pub effect_top : ProgramView → Bool → World → List Frame → Effect
effect_top program told world [] = without_turn (finishes stuck)
effect_top program told world (frame ∷ frames) =
    effect_first program told frame world (from_label frame.label (lines_of program frame.code))

-- what a run does; one that has ended does nothing more
abbrev pub effect_unless : ProgramView → Bool → World → List Frame → Option Ending → Effect
effect_unless program told world frames None = effect_top program told world frames
effect_unless program told world frames (Some ending) = without_turn (finishes ending)

-- what a run does next
abbrev pub effect_next : ProgramView → Bool → State → Effect
effect_next program told s = effect_unless program told (world_of s) s.frames s.ending

-- the output that a deed leaves
abbrev pub output_after : Deed → List ℕ → List ℕ
output_after (goes label environment world) output = world.output
output_after (asks x f values next) output = output
output_after (gives value) output = output
output_after (lands frames) output = output
output_after (finishes ending) output = output
