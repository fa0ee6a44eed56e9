use Rattle.sour_machine.proofs.Operations.{divided-left_over}
use Rattle.sour_machine.proofs.arithmetic.left_over.Goals as goal

pub returns : goal.returns
returns c = divided-left_over c.args.a c.args.b c.wrapping_rem.result c.ranges.a c.ranges.b c.if-b-eq0.false c.wrapping_rem.ensures
