use Rattle.std.proofs.Common.{◌≡◌, ◌+◌, take, true, not, ap, sym, ◌∙◌, subst, arith}
use Rattle.std.specs.Result.{is_ok}
use Rattle.std.specs.Io.KnownBytes.{Consumes}
use Rattle.sour_ports.proofs.ToldBytes.{LosesFirst-more, LosesAtMost-more, Consumes-more, length-more, take-front}
use Rattle.sour_ports.proofs.reading.read_all.Goals as goal

pub loop-count-preserved : goal.loop-count-preserved
loop-count-preserved g c =
    let ok : is_ok c.extend_from_slice.result ≡ true = c.is_err.ensures.negation ∙ ap not c.if-is_err.false in
    let items = rw ok at c.extend_from_slice.ensures.items in
    let within = c.in-Ok-read.ensures.bound in
    let same =
    ap (take c.in-Ok-read.count) c.deref.ensures.value
    ∙ take-front c.read.new.into _ c.in-Ok-read.count c.truncate.new.self.len within (omega (arith, c.read.auto.into))
    in
    let len =
    length-more c.loop-count.bytes.items c.deref.result.now c.read.new.into c.extend_from_slice.new.self.items c.in-Ok-read.count items same within
    in
    record {
      short = omega (arith, c.extend_from_slice.new.self.ok.0, c.loop-count.bytes.ok.0, len);
      ready = omega arith;
      taken =
          subst (Consumes _ _) (sym items)
          (Consumes-more _ _ _ c.loop-count.bytes.items c.deref.result.now c.read.new.into c.in-Ok-read.count same c.loop-count.invariant.taken c.in-Ok-read.ensures.given);
      count = omega (arith, c.in-Ok-read.ensures.count);
    }

pub returns-then-limit-len-clause-too_long : goal.returns-then-limit-len-clause-too_long
returns-then-limit-len-clause-too_long g c = λ _.
    LosesFirst-more _ _ _ c.loop-count.bytes.items c.read.new.into c.in-Ok-read.count (c.args.limit + 1)
    c.loop-count.invariant.taken c.in-Ok-read.ensures.given c.in-Ok-read.ensures.bound
    (omega (arith, c.in-Ok-read.ensures.bound, c.read.auto.into, c.loop-count.bytes.ok.0))

pub returns-then-is_err-clause-stopped : goal.returns-then-is_err-clause-stopped
returns-then-is_err-clause-stopped g c = λ _.
    LosesAtMost-more _ _ _ c.loop-count.bytes.items c.read.new.into c.in-Ok-read.count c.args.limit
    c.loop-count.invariant.taken c.in-Ok-read.ensures.given c.in-Ok-read.ensures.bound
    (omega (arith, c.loop-count.bytes.ok.0))
