use Rattle.std.proofs.Common.{◌+◌, refl}
use Rattle.sour_machine.proofs.ArrayLaws.{ComesDeclaring-set}
use Rattle.sour_machine.proofs.arrays.make.Goals as goal

pub returns-clause-comes : goal.returns-clause-comes
returns-clause-comes c = ComesDeclaring-set c.args.x (c.args.moment.now.frame.place + 1) c.args.moment.now.frame.env _ c.args.moment.now.end _ c.requires.going refl c.set.ensures
