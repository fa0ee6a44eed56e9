-- A value written into a heap.
use Rattle.std.proofs.Common.{◌≡◌, ◌∙◌, ℕ, List, Option, Some, set, ap, sym, subst}
use Rattle.std.specs.Prelude.{IfSome}
use Rattle.std.specs.List.{slice_get}
use Rattle.sour_syntax.specs.declared.literal.Value.{Value}
use Rattle.sour_semantics.specs.State.{Heap}

-- a value written into an array that is there
pub written-array : (heap seen : Heap) (array place : ℕ) (cells new : List Value) (value : Value) → heap ≡ seen → slice_get heap array ≡ Some cells → new ≡ set cells place value
    → IfSome (slice_get seen array) (λ old. set heap array new ≡ set seen array (set old place value))
written-array heap seen array place cells new value same found is =
    let Written : Option (List Value) → Type 0 = λ here. IfSome here (λ old. set heap array new ≡ set seen array (set old place value)) in
    let there : slice_get seen array ≡ Some cells = ap (λ h. slice_get h array) (sym same) ∙ found in
    let kept : set heap array new ≡ set seen array (set cells place value) = cc in
    subst Written (sym there) kept
