use Rattle.laws_printing.proofs.ProgramsShort.{programs_are_short}
use Rattle.laws_printing.proofs.programs_are_short.Goals as goal

pub returns : goal.returns
returns c = programs_are_short
