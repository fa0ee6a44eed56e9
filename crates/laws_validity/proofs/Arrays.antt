-- A valid state stays valid when an array is made and when a cell is written.
use Rattle.std.proofs.Common.{◌≡◌, ◌+◌, ℕ, List, [], ◌∷◌, ◌++◌, Bool, true, false, cond, Option, None, Some, set, ltb, length, replicate, refl, arith, Contains}
use Rattle.std.specs.Prelude.{ℤ, pos, negsuc}
use Rattle.std.specs.List.{AllByRecursion, slice_get}
use Rattle.std.proofs.lemmas.List.{length-set, length_push}
use Rattle.std.proofs.lemmas.Bool.{ltb-false}
use Rattle.sour_syntax.specs.declared.instruction.Instr.{Instr}
use Rattle.sour_syntax.specs.declared.literal.ArrayId.{ArrayId}
use Rattle.sour_syntax.specs.declared.literal.Literal.TheVariants.{Nil}
use Rattle.sour_syntax.specs.declared.literal.Value.{Value}
use Rattle.sour_syntax.specs.declared.literal.Value.TheVariants.{Plain, Array}
use Rattle.sour_syntax.specs.declared.literal.VarId.{VarId}
use Rattle.sour_syntax.specs.declared.trap.Trap.TheVariants.{HeapFull, Bounds}
use Rattle.sour_syntax.specs.Program.{ProgramView}
use Rattle.sour_syntax.specs.Scopes.{scope_after, following_labels}
use Rattle.sour_syntax.proofs.Everywhere.{AllByRecursion-replicate}
use Rattle.sour_semantics.specs.State.{Heap, Frame, trapped, State}
use Rattle.sour_semantics.specs.Step.{ends, goes_to, sets, cell_limit, count_heap, next_array, makes, makes_empty, writes_cell, writes_array, writes}
use Rattle.sour_semantics.specs.Validity.{IsValid, scope_of}
use Rattle.laws_validity.proofs.Values.{IsValueOf}
use Rattle.laws_validity.proofs.Heaps.{IsValidHeap-made, IsValidHeap-written}
use Rattle.laws_validity.proofs.Frames.{StandsBefore, IsValidFrame-moved}
use Rattle.laws_validity.proofs.States.{going, IsValid-trapped, IsValid-moved, IsValid-heap, IsValid-set}

-- an array is made or not, by the test of the room
made : (program : ProgramView) (frame : Frame) (frames : List Frame) (s : State) (instr : Instr) (next : List ℕ) (x : VarId)
    (cells : List Value) (test : Bool) → ltb cell_limit (count_heap s.heap + length cells) ≡ test
    → IsValid program (going (frame ∷ frames) s) → StandsBefore program frame instr next
    → Contains (following_labels instr next) next → set (scope_of frame.environment) x.0 true ≡ scope_after instr (scope_of frame.environment)
    → AllByRecursion (IsValueOf program s.heap) cells
    → IsValid program
    (cond test (ends (trapped HeapFull) (going (frame ∷ frames) s))
    (goes_to next (sets x (Array (next_array s.heap)) (going (frame ∷ frames) (record s { heap = s.heap ++ cells ∷ [] })))))
made program frame frames s instr next x cells true is valid at follows scope are = IsValid-trapped program (frame ∷ frames) s _ valid
made program frame frames s instr next x cells false is valid at follows scope are =
    let heap : Heap = s.heap ++ cells ∷ [] in
    let longer : length heap ≡ length s.heap + 1 = length_push s.heap cells in
    IsValid-set program frame frames (record s { heap = heap }) instr next x (Array (next_array s.heap))
    (IsValid-heap program (frame ∷ frames) s heap valid
    (IsValidHeap-made program s.heap cells valid.heap are (ltb-false cell_limit (count_heap s.heap + length cells) is))
    (omega (arith, longer)))
    at follows scope (omega (arith, longer))

-- an array of these values is made
pub IsValid-makes : (program : ProgramView) (frame : Frame) (frames : List Frame) (s : State) (instr : Instr) (next : List ℕ) (x : VarId)
    (cells : List Value) → IsValid program (going (frame ∷ frames) s) → StandsBefore program frame instr next
    → Contains (following_labels instr next) next → set (scope_of frame.environment) x.0 true ≡ scope_after instr (scope_of frame.environment)
    → AllByRecursion (IsValueOf program s.heap) cells → IsValid program (makes x cells next (going (frame ∷ frames) s))
IsValid-makes program frame frames s instr next x cells valid at follows scope are =
    made program frame frames s instr next x cells (ltb cell_limit (count_heap s.heap + length cells)) refl valid at follows scope are

-- an array of this length is made
pub IsValid-makes_empty : (program : ProgramView) (frame : Frame) (frames : List Frame) (s : State) (instr : Instr) (next : List ℕ) (x : VarId)
    (count : Option ℤ) → IsValid program (going (frame ∷ frames) s) → StandsBefore program frame instr next
    → Contains (following_labels instr next) next → set (scope_of frame.environment) x.0 true ≡ scope_after instr (scope_of frame.environment)
    → IsValid program (makes_empty x count next (going (frame ∷ frames) s))
IsValid-makes_empty program frame frames s instr next x None valid at follows scope = IsValid-trapped program (frame ∷ frames) s _ valid
IsValid-makes_empty program frame frames s instr next x (Some (negsuc n)) valid at follows scope =
    IsValid-trapped program (frame ∷ frames) s _ valid
IsValid-makes_empty program frame frames s instr next x (Some (pos count)) valid at follows scope =
    IsValid-makes program frame frames s instr next x (replicate count (Plain Nil)) valid at follows scope
    (AllByRecursion-replicate (IsValueOf program s.heap) count (Plain Nil) tt)

-- a cell is written or not, by the test of its place
written : (program : ProgramView) (frame : Frame) (frames : List Frame) (s : State) (instr : Instr) (next : List ℕ) (a : ArrayId)
    (cells : List Value) (place : ℕ) (value : Value) (test : Bool)
    → IsValid program (going (frame ∷ frames) s) → StandsBefore program frame instr next
    → Contains (following_labels instr next) next → scope_of frame.environment ≡ scope_after instr (scope_of frame.environment)
    → slice_get s.heap a.0 ≡ Some cells → IsValueOf program s.heap value
    → IsValid program
    (cond test (goes_to next (going (frame ∷ frames) (record s { heap = set s.heap a.0 (set cells place value) })))
    (ends (trapped Bounds) (going (frame ∷ frames) s)))
written program frame frames s instr next a cells place value true valid at follows scope found is =
    let heap : Heap = set s.heap a.0 (set cells place value) in
    let same : length heap ≡ length s.heap = length-set s.heap a.0 (set cells place value) in
    let over : IsValid program (going (frame ∷ frames) (record s { heap = heap })) =
    IsValid-heap program (frame ∷ frames) s heap valid (IsValidHeap-written program s.heap a.0 place cells value valid.heap found is)
    (omega (arith, same)) in
    IsValid-moved program frame frames (record s { heap = heap }) next frame.environment over
    (IsValidFrame-moved program (length heap) frame instr next next frame.environment at follows scope over.frames.0.values)
written program frame frames s instr next a cells place value false valid at follows scope found is =
    IsValid-trapped program (frame ∷ frames) s _ valid

-- a value is written into a cell that may be there
IsValid-writes_cell : (program : ProgramView) (frame : Frame) (frames : List Frame) (s : State) (instr : Instr) (next : List ℕ) (a : ArrayId)
    (cells : List Value) (index : ℤ) (value : Value)
    → IsValid program (going (frame ∷ frames) s) → StandsBefore program frame instr next
    → Contains (following_labels instr next) next → scope_of frame.environment ≡ scope_after instr (scope_of frame.environment)
    → slice_get s.heap a.0 ≡ Some cells → IsValueOf program s.heap value
    → IsValid program (writes_cell a cells index value next (going (frame ∷ frames) s))
IsValid-writes_cell program frame frames s instr next a cells (negsuc n) value valid at follows scope found is =
    IsValid-trapped program (frame ∷ frames) s _ valid
IsValid-writes_cell program frame frames s instr next a cells (pos place) value valid at follows scope found is =
    written program frame frames s instr next a cells place value (ltb place (length cells)) valid at follows scope found is

-- a value is written into a cell of an array that may be there
IsValid-writes_array : (program : ProgramView) (frame : Frame) (frames : List Frame) (s : State) (instr : Instr) (next : List ℕ) (a : ArrayId)
    (found : Option (List Value)) (index : Option ℤ) (value : Value)
    → IsValid program (going (frame ∷ frames) s) → StandsBefore program frame instr next
    → Contains (following_labels instr next) next → scope_of frame.environment ≡ scope_after instr (scope_of frame.environment)
    → slice_get s.heap a.0 ≡ found → IsValueOf program s.heap value
    → IsValid program (writes_array a found index value next (going (frame ∷ frames) s))
IsValid-writes_array program frame frames s instr next a None index value valid at follows scope found is =
    IsValid-trapped program (frame ∷ frames) s _ valid
IsValid-writes_array program frame frames s instr next a (Some cells) None value valid at follows scope found is =
    IsValid-trapped program (frame ∷ frames) s _ valid
IsValid-writes_array program frame frames s instr next a (Some cells) (Some index) value valid at follows scope found is =
    IsValid-writes_cell program frame frames s instr next a cells index value valid at follows scope found is

-- a value is written into a cell of what may be an array
pub IsValid-writes : (program : ProgramView) (frame : Frame) (frames : List Frame) (s : State) (instr : Instr) (next : List ℕ)
    (array : Value) (index : Option ℤ) (value : Value)
    → IsValid program (going (frame ∷ frames) s) → StandsBefore program frame instr next
    → Contains (following_labels instr next) next → scope_of frame.environment ≡ scope_after instr (scope_of frame.environment)
    → IsValueOf program s.heap value → IsValid program (writes array index value next (going (frame ∷ frames) s))
IsValid-writes program frame frames s instr next (Plain literal) index value valid at follows scope is =
    IsValid-trapped program (frame ∷ frames) s _ valid
IsValid-writes program frame frames s instr next (Array a) index value valid at follows scope is =
    IsValid-writes_array program frame frames s instr next a (slice_get s.heap a.0) index value valid at follows scope refl is
