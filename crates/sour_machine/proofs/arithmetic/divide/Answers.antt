use Rattle.sour_machine.proofs.Operations.{divided-checked}
use Rattle.sour_machine.proofs.arithmetic.divide.Goals as goal

pub returns : goal.returns
returns c = divided-checked c.args.a c.args.b c.checked_div.result c.number_of.result c.ranges.a c.ranges.b c.if-b-eq0.false c.checked_div.ensures c.number_of.ensures
