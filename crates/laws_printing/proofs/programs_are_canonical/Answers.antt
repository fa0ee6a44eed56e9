use Rattle.laws_printing.proofs.ProgramsShort.{programs_are_canonical}
use Rattle.laws_printing.proofs.programs_are_canonical.Goals as goal

pub returns : goal.returns
returns c = programs_are_canonical
