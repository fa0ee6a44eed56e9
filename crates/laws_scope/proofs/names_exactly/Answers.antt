use Rattle.laws_scope.proofs.NameStage.{names_exactly}
use Rattle.laws_scope.proofs.names_exactly.Goals as goal

pub returns : goal.returns
returns c = names_exactly
