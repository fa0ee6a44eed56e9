use Rattle.laws_printing.proofs.ProgramsWritten.{programs_are_written}
use Rattle.laws_printing.proofs.programs_are_written.Goals as goal

pub returns : goal.returns
returns c = programs_are_written
