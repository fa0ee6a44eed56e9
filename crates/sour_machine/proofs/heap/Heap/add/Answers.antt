use Rattle.std.proofs.Common.{◌≤◌, ◌-◌, ◌∙◌, length, ap, arith}
use Rattle.sour_semantics.specs.Step.{cell_limit, count_heap}
use Rattle.sour_semantics.proofs.Heaps.{count_heap-push}
use Rattle.sour_machine.proofs.heap.Heap.add.Goals as goal

pub invariant_of-self-2 : goal.invariant_of-self-2
invariant_of-self-2 c =
    let pushed = ap count_heap c.in_ok-push.ensures.items ∙ count_heap-push c.self.inside.arrays.items c.args.cells in
    let room : length c.args.cells ≤ cell_limit - count_heap c.args.self.now = c.requires in
    let same = ap count_heap c.self.view_is in
    (omega (arith, pushed, c.self.invariant.0, c.len-count.ensures), omega (arith, c.self.invariant.0, c.self.invariant.1, same, room, c.len-count.ensures))
