use Rattle.std.proofs.Common.{◌+◌, ◌^◌, ◌<◌, length, sym, ◌∙◌, arith}
use Rattle.laws_scope.proofs.NameLaws.{distinct_more, numbered}
use Rattle.sour_scope.proofs.names.DistinctNames.put.Goals as goal

pub invariant_of-self-2 : goal.invariant_of-self-2
invariant_of-self-2 c =
    let room : length c.self.inside.names + 1 < 2 ^ 32 = omega (arith, c.len.ensures.value, c.if-len.false) in
    distinct_more _ _ _ c.in_ok-add.field-0 _ c.self.invariant.0 room c.in_ok-add.ensures.ok

pub returns : goal.returns
returns c =
    rw (sym c.self.view_is, sym (c.in_ok-copy.ensures.items ∙ c.as_bytes.ensures)) (numbered _ _ _ c.in_ok-add.field-0 c.self.invariant.0 c.in_ok-add.ensures.ok).0
