-- How a heap gets one more array, and how a cell of it is written.
use Rattle.std.proofs.Common.{◌≡◌, ◌≤◌, ◌+◌, ℕ, List, [], ◌∷◌, ◌++◌, Some, length, set, sym, subst, arith}
use Rattle.std.specs.List.{AllByRecursion, slice_get}
use Rattle.std.proofs.lemmas.List.{length-set, length_push}
use Rattle.sour_syntax.specs.declared.literal.Value.{Value}
use Rattle.sour_syntax.specs.Program.{ProgramView}
use Rattle.sour_syntax.proofs.Everywhere.{AllByRecursion-weaker, AllByRecursion-append, AllByRecursion-found, AllByRecursion-set}
use Rattle.sour_semantics.specs.State.{Heap}
use Rattle.sour_semantics.specs.Step.{count_heap, cell_limit}
use Rattle.sour_semantics.specs.Validity.{IsValue, IsValidHeap}
use Rattle.sour_semantics.proofs.Heaps.{count_heap-push, count_heap-set}
use Rattle.laws_validity.proofs.Values.{IsValueOf, IsValue-more}

-- a heap stays valid with one more array of values, if there is room for it
pub IsValidHeap-made : (program : ProgramView) (heap : Heap) (cells : List Value) → IsValidHeap program heap
    → AllByRecursion (IsValueOf program heap) cells → count_heap heap + length cells ≤ cell_limit
    → IsValidHeap program (heap ++ cells ∷ [])
IsValidHeap-made program heap cells valid are room =
    let more : (value : Value) → IsValueOf program heap value → IsValueOf program (heap ++ cells ∷ []) value =
    IsValue-more (length program.functions) (length heap) (length (heap ++ cells ∷ [])) (omega (arith, length_push heap cells)) in
    let more_each : (row : List Value) → AllByRecursion (IsValueOf program heap) row
    → AllByRecursion (IsValueOf program (heap ++ cells ∷ [])) row =
    AllByRecursion-weaker (IsValueOf program heap) (IsValueOf program (heap ++ cells ∷ [])) more in
    record {
      cells = omega (arith, count_heap-push heap cells, room);
      values = AllByRecursion-append (AllByRecursion (IsValueOf program (heap ++ cells ∷ []))) heap (cells ∷ [])
          (AllByRecursion-weaker (AllByRecursion (IsValueOf program heap)) (AllByRecursion (IsValueOf program (heap ++ cells ∷ [])))
          more_each heap valid.values)
          (more_each cells are, tt);
    }

-- a heap stays valid when a value is written into a cell
pub IsValidHeap-written : (program : ProgramView) (heap : Heap) (array place : ℕ) (cells : List Value) (value : Value)
    → IsValidHeap program heap → slice_get heap array ≡ Some cells → IsValueOf program heap value
    → IsValidHeap program (set heap array (set cells place value))
IsValidHeap-written program heap array place cells value valid found is =
    let written : List Value = set cells place value in
    let row : AllByRecursion (IsValueOf program heap) cells =
    AllByRecursion-found (AllByRecursion (IsValueOf program heap)) heap array cells valid.values found in
    let values : AllByRecursion (AllByRecursion (IsValueOf program heap)) (set heap array written) =
    AllByRecursion-set (AllByRecursion (IsValueOf program heap)) heap array written valid.values
    (AllByRecursion-set (IsValueOf program heap) cells place value row is) in
    let AreValues : ℕ → Type 0 =
    λ arrays. AllByRecursion (AllByRecursion (IsValue (length program.functions) arrays)) (set heap array written) in
    record {
      cells = omega (arith, count_heap-set heap array cells written found (length-set cells place value), valid.cells);
      values = subst AreValues (sym (length-set heap array written)) values;
    }
