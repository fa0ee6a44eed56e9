use Rattle.std.proofs.Common.{length, ap, arith}
use Rattle.sour_ports.proofs.ToldBytes.{Appends-more}
use Rattle.sour_ports.proofs.writing.write_all.Goals as goal

pub loop-at-preserved : goal.loop-at-preserved
loop-at-preserved g c = record {
  within = omega (arith, c.in_ok-at.ensures.bound);
  taken = Appends-more _ _ _ c.args.bytes.now c.loop-at.at c.in_ok-at.field-0 c.loop-at.invariant.taken c.in_ok-at.ensures.appended;
  count = omega (arith, c.in_ok-at.ensures.count);
  untouched = λ none. absurd (omega (arith, ap length none));
}
