use Rattle.laws_scope.proofs.NameStage.{main_exactly}
use Rattle.laws_scope.proofs.main_exactly.Goals as goal

pub returns : goal.returns
returns c = main_exactly
