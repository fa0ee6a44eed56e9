-- How many cells the arrays of a heap have together.
use Rattle.std.proofs.Common.{◌≡◌, ◌+◌, ℕ, zero, suc, List, [], ◌∷◌, ◌++◌, Some, length, set, ap, arith}
use Rattle.std.specs.List.{slice_get}
use Rattle.sour_syntax.specs.declared.literal.Value.{Value}
use Rattle.sour_semantics.specs.State.{Heap}
use Rattle.sour_semantics.specs.Step.{count_heap}

-- with one array more
pub count_heap-push : (heap : Heap) (cells : List Value) → count_heap (heap ++ cells ∷ []) ≡ count_heap heap + length cells
count_heap-push [] cells = omega arith
count_heap-push (first ∷ heap) cells = omega (arith, count_heap-push heap cells)

-- an array put in the place of one that has as many cells
pub count_heap-set : (heap : Heap) (place : ℕ) (old cells : List Value) → slice_get heap place ≡ Some old → length cells ≡ length old → count_heap (set heap place cells) ≡ count_heap heap
count_heap-set [] place old cells found same = cc
count_heap-set (first ∷ heap) zero old cells found same = let is : first ≡ old = cc in omega (arith, same, ap length is)
count_heap-set (first ∷ heap) (suc place) old cells found same = omega (arith, count_heap-set heap place old cells found same)
