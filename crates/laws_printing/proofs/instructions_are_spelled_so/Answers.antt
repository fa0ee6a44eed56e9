use Rattle.laws_printing.proofs.Examples.{are_spelled_so}
use Rattle.laws_printing.proofs.instructions_are_spelled_so.Goals as goal

pub returns : goal.returns
returns c = are_spelled_so
