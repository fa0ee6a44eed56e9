use Rattle.std.proofs.Common.{◌≡◌, ◌∙◌, Some, length, refl, sym, ap, arith}
use Rattle.std.specs.List.{slice_get}
use Rattle.std.proofs.lemmas.Option.{slice_get_read}
use Rattle.std.proofs.lemmas.List.{length-set}
use Rattle.sour_semantics.specs.State.{Heap}
use Rattle.sour_semantics.proofs.Heaps.{count_heap-set}
use Rattle.sour_machine.proofs.HeapLaws.{written-array}
use Rattle.sour_machine.proofs.heap.Heap.write.Goals as goal

pub invariant_of-self : goal.invariant_of-self
invariant_of-self c =
    let heap : Heap = c.self.inside.arrays.items in
    let found : slice_get heap c.args.array.0 ≡ Some c.index_mut.result.now = slice_get_read heap (length heap) c.args.array.0 c.index_mut.result.now refl (omega (arith, ap length c.self.view_is)) c.index_mut.ensures.value in
    let long : length c.set.new.self ≡ length c.index_mut.result.now = ap length c.set.ensures ∙ length-set c.index_mut.result.now c.args.place c.args.value in
    (c.self.invariant.0 ∙ sym (count_heap-set heap c.args.array.0 c.index_mut.result.now c.set.new.self found long), c.self.invariant.1)

pub returns : goal.returns
returns c =
    let heap : Heap = c.self.inside.arrays.items in
    let found : slice_get heap c.args.array.0 ≡ Some c.index_mut.result.now = slice_get_read heap (length heap) c.args.array.0 c.index_mut.result.now refl (omega (arith, ap length c.self.view_is)) c.index_mut.ensures.value in
    written-array heap c.args.self.now c.args.array.0 c.args.place c.index_mut.result.now c.set.new.self c.args.value c.self.view_is found c.set.ensures
