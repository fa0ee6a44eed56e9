use Rattle.std.proofs.Common.{sym}
use Rattle.sour_scope.proofs.NumberLaws.{never_before}
use Rattle.sour_scope.proofs.numbers.Numbers.stands_before.Goals as goal

pub returns-in-None : goal.returns-in-None
returns-in-None c = λ names are within. never_before c.args.self.now names c.args.name.now c.args.number are (sym c.in-None.ensures) within
