-- How a valid state goes further while its run goes on.
use Rattle.std.proofs.Common.{◌≡◌, ◌≤◌, ℕ, List, [], ◌∷◌, ◌++◌, Bool, true, false, cond, Option, None, Some, Result, Ok, Err, set, ltb, length, refl, ◌∙◌, arith, Contains}
use Rattle.std.specs.Prelude.{IfOk, is_some}
use Rattle.std.specs.List.{AllByRecursion}
use Rattle.std.proofs.lemmas.List.{map-set}
use Rattle.std.proofs.lemmas.Bool.{ltb-false}
use Rattle.sour_syntax.specs.declared.instruction.Instr.{Instr}
use Rattle.sour_syntax.specs.declared.instruction.Instr.TheVariants.{Read}
use Rattle.sour_syntax.specs.declared.literal.Literal.{Literal}
use Rattle.sour_syntax.specs.declared.literal.Value.{Value}
use Rattle.sour_syntax.specs.declared.literal.Value.TheVariants.{Plain}
use Rattle.sour_syntax.specs.declared.literal.VarId.{VarId}
use Rattle.sour_syntax.specs.declared.trap.Trap.{Trap}
use Rattle.sour_syntax.specs.declared.trap.Trap.TheVariants.{OutputFull}
use Rattle.sour_syntax.specs.Program.{ProgramView}
use Rattle.sour_syntax.specs.Scopes.{scope_after, following_labels}
use Rattle.sour_syntax.proofs.Everywhere.{AllByRecursion-weaker, AllByRecursion-set}
use Rattle.sour_semantics.specs.State.{Environment, Heap, Frame, trapped, State}
use Rattle.sour_semantics.specs.Step.{ends, goes_to, sets, takes_turn, given, branches, reads, prints, output_limit, resumes, returns}
use Rattle.sour_semantics.specs.Validity.{IsValidFrame, IsValidHeap, Waits, IsValid, scope_of}
use Rattle.laws_validity.proofs.Values.{IsValueOf, IsKeptOf, IsLiteralOf}
use Rattle.laws_validity.proofs.Frames.{moved, StandsBefore, IsValidFrame-more, IsValidFrame-moved, IsValidFrame-resumed}

-- the state with these frames, of a run that goes on
abbrev pub going : List Frame → State → State
going frames s = record s { frames = frames; ending = None }

-- a run that goes on ends by a trap
pub IsValid-trapped : (program : ProgramView) (frames : List Frame) (s : State) (trap : Trap) → IsValid program (going frames s)
    → IsValid program (ends (trapped trap) (going frames s))
IsValid-trapped program frames s trap valid =
    record { frames = valid.frames; heap = valid.heap; input = valid.input; output = valid.output; ending = tt }

-- the top frame goes to a label with an environment
pub IsValid-moved : (program : ProgramView) (frame : Frame) (frames : List Frame) (s : State) (label : List ℕ) (environment : Environment)
    → IsValid program (going (frame ∷ frames) s) → IsValidFrame program (length s.heap) (moved frame label environment)
    → IsValid program (going (moved frame label environment ∷ frames) s)
IsValid-moved program frame frames s label environment valid top = record {
  frames = (top, valid.frames.1);
  heap = valid.heap;
  input = valid.input;
  output = valid.output;
  ending = valid.ending;
}

-- the heap gives way to one with as many arrays or more
pub IsValid-heap : (program : ProgramView) (frames : List Frame) (s : State) (heap : Heap) → IsValid program (going frames s)
    → IsValidHeap program heap → length s.heap ≤ length heap → IsValid program (going frames (record s { heap = heap }))
IsValid-heap program frames s heap valid fine more = record {
  frames = AllByRecursion-weaker (IsValidFrame program (length s.heap)) (IsValidFrame program (length heap))
      (IsValidFrame-more program (length s.heap) (length heap) more) frames valid.frames;
  heap = fine;
  input = valid.input;
  output = valid.output;
  ending = valid.ending;
}

-- the run goes on with what was evaluated, or ends with a trap
pub IsValid-given : {A : Type 0} (program : ProgramView) (frames : List Frame) (s : State) (P : A → Type 0) (r : Result A Trap)
    (onward : A → State) → IsValid program (going frames s) → IfOk r P → ((value : A) → P value → IsValid program (onward value))
    → IsValid program (given r onward (going frames s))
IsValid-given program frames s P (Ok value) onward valid fine ok = ok value fine
IsValid-given program frames s P (Err trap) onward valid fine ok = IsValid-trapped program frames s trap valid

-- a turn is taken
pub IsValid-turn : (program : ProgramView) (frames : List Frame) (s : State) → IsValid program (going frames s)
    → IsValid program (going frames (takes_turn s))
IsValid-turn program frames s valid =
    record { frames = valid.frames; heap = valid.heap; input = valid.input; output = valid.output; ending = valid.ending }

-- a branch goes to one of its labels
pub IsValid-branches : (program : ProgramView) (frame : Frame) (frames : List Frame) (s : State) (test : Option Bool) (first second : List ℕ)
    → IsValid program (going (frame ∷ frames) s) → IsValidFrame program (length s.heap) (moved frame first frame.environment)
    → IsValidFrame program (length s.heap) (moved frame second frame.environment)
    → IsValid program (branches test first second (going (frame ∷ frames) s))
IsValid-branches program frame frames s None first second valid a b = IsValid-trapped program (frame ∷ frames) s _ valid
IsValid-branches program frame frames s (Some true) first second valid a b =
    IsValid-moved program frame frames s first frame.environment valid a
IsValid-branches program frame frames s (Some false) first second valid a b =
    IsValid-moved program frame frames s second frame.environment valid b

-- a variable gets a value, and the run goes to the next line
pub IsValid-set : (program : ProgramView) (frame : Frame) (frames : List Frame) (s : State) (instr : Instr) (next : List ℕ) (x : VarId)
    (value : Value) → IsValid program (going (frame ∷ frames) s) → StandsBefore program frame instr next
    → Contains (following_labels instr next) next → set (scope_of frame.environment) x.0 true ≡ scope_after instr (scope_of frame.environment)
    → IsValueOf program s.heap value → IsValid program (goes_to next (sets x value (going (frame ∷ frames) s)))
IsValid-set program frame frames s instr next x value valid at follows scope is =
    let environment : Environment = set frame.environment x.0 (Some value) in
    IsValid-moved program frame frames s next environment valid
    (IsValidFrame-moved program (length s.heap) frame instr next next environment at follows
    (map-set is_some frame.environment x.0 (Some value) ∙ scope)
    (AllByRecursion-set (IsKeptOf program s.heap) frame.environment x.0 (Some value) valid.frames.0.values is))

-- the next value of the input is read
pub IsValid-reads : (program : ProgramView) (frame : Frame) (frames : List Frame) (s : State) (x : VarId) (input : List Literal) (next : List ℕ)
    → IsValid program (going (frame ∷ frames) s) → StandsBefore program frame (Read x) next
    → AllByRecursion (IsLiteralOf program) input → IsValid program (reads x input next (going (frame ∷ frames) s))
IsValid-reads program frame frames s x [] next valid at literals = IsValid-trapped program (frame ∷ frames) s _ valid
IsValid-reads program frame frames s x (literal ∷ input) next valid at literals =
    let left : IsValid program (going (frame ∷ frames) (record s { rest = input })) =
    record { frames = valid.frames; heap = valid.heap; input = literals.1; output = valid.output; ending = valid.ending } in
    IsValid-set program frame frames (record s { rest = input }) (Read x) next x (Plain literal) left at (0, omega arith, refl) refl literals.0

-- a line is written or not, by the test of the room
printed : (program : ProgramView) (frame : Frame) (frames : List Frame) (s : State) (line next : List ℕ) (test : Bool)
    → ltb output_limit (length (s.output ++ line)) ≡ test
    → IsValid program (going (frame ∷ frames) s) → IsValidFrame program (length s.heap) (moved frame next frame.environment)
    → IsValid program
    (cond test (ends (trapped OutputFull) (going (frame ∷ frames) s))
    (goes_to next (going (frame ∷ frames) (record s { output = s.output ++ line }))))
printed program frame frames s line next true is valid top = IsValid-trapped program (frame ∷ frames) s _ valid
printed program frame frames s line next false is valid top = record {
  frames = (top, valid.frames.1);
  heap = valid.heap;
  input = valid.input;
  output = ltb-false output_limit (length (s.output ++ line)) is;
  ending = valid.ending;
}

-- a line is written where the output has room
pub IsValid-prints : (program : ProgramView) (frame : Frame) (frames : List Frame) (s : State) (line next : List ℕ)
    → IsValid program (going (frame ∷ frames) s) → IsValidFrame program (length s.heap) (moved frame next frame.environment)
    → IsValid program (prints line next (going (frame ∷ frames) s))
IsValid-prints program frame frames s line next valid top =
    printed program frame frames s line next (ltb output_limit (length (s.output ++ line))) refl valid top

-- the frame below gets its result
IsValid-resumes : (program : ProgramView) (frame below : Frame) (frames : List Frame) (s : State) (value : Value) (waits : Option ℕ)
    → IsValid program (going (frame ∷ below ∷ frames) s) → IsValueOf program s.heap value → below.waits ≡ waits → Waits waits
    → IsValid program (resumes value below frames waits (going (frame ∷ below ∷ frames) s))
IsValid-resumes program frame below frames s value None valid is same waits = absurd waits
IsValid-resumes program frame below frames s value (Some variable) valid is same waits = record {
  frames = (IsValidFrame-resumed program (length s.heap) below variable value valid.frames.1.0 same is, valid.frames.1.1);
  heap = valid.heap;
  input = valid.input;
  output = valid.output;
  ending = (refl, valid.ending.1.1);
}

-- the top frame ends with a value
pub IsValid-returns : (program : ProgramView) (frame : Frame) (frames : List Frame) (s : State) (value : Value)
    → IsValid program (going (frame ∷ frames) s) → IsValueOf program s.heap value
    → IsValid program (returns value (frame ∷ frames) (going (frame ∷ frames) s))
IsValid-returns program frame [] s value valid is =
    record { frames = valid.frames; heap = valid.heap; input = valid.input; output = valid.output; ending = is }
IsValid-returns program frame (below ∷ frames) s value valid is =
    IsValid-resumes program frame below frames s value below.waits valid is refl valid.ending.1.0
