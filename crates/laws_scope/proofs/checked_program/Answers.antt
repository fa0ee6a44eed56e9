use Rattle.laws_scope.proofs.ProgramLaws.{checked_program}
use Rattle.laws_scope.proofs.checked_program.Goals as goal

pub returns : goal.returns
returns c = checked_program
