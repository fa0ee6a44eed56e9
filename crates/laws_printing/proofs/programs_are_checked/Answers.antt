use Rattle.laws_printing.proofs.ProgramsChecked.{programs_are_checked}
use Rattle.laws_printing.proofs.programs_are_checked.Goals as goal

pub returns : goal.returns
returns c = programs_are_checked
