use Rattle.laws_printing.proofs.ProgramsRead.{programs_are_read}
use Rattle.laws_printing.proofs.programs_are_read.Goals as goal

pub returns : goal.returns
returns c = programs_are_read
