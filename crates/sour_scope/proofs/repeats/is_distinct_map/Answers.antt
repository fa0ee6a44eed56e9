use Rattle.std.proofs.Common.{ℕ, List}
use Rattle.std.proofs.lemmas.Bool.{false≢true}
use Rattle.sour_raw.specs.declared.raw.RawBind.{RawBind}
use Rattle.sour_scope.proofs.RepeatLaws.{seen_more, seen_twice}
use Rattle.sour_scope.proofs.repeats.is_distinct_map.Goals as goal

-- the name of a bind
abbrev named : RawBind → List ℕ
named bind = bind.name

pub returns-then-not-branch : goal.returns-then-not-branch
returns-then-not-branch c = (
  λ wrong. absurd (false≢true wrong),
  λ differ. absurd (seen_twice named c.args.binds.now c.loop-bind.bind-index c.bind-item.result c.loop-bind.seen c.as_bytes.result.now
      c.in_ok-add.field-0 c.loop-bind.invariant.seen_are c.loop-bind-test.true c.bind-item.is c.as_bytes.ensures c.if-not-branch.true
      c.in_ok-add.ensures.whether differ),
)

pub loop-bind-preserved : goal.loop-bind-preserved
loop-bind-preserved c =
    let more = seen_more named c.args.binds.now c.loop-bind.bind-index c.bind-item.result c.loop-bind.seen c.as_bytes.result.now
    c.in_ok-add.field-0 c.add.new.self c.loop-bind.invariant.seen_are c.loop-bind.invariant.differ c.loop-bind-test.true c.bind-item.is
    c.as_bytes.ensures c.if-not-branch.false c.in_ok-add.ensures.whether c.in_ok-add.ensures.put in
    record { seen_are = more.0; differ = more.1 }
