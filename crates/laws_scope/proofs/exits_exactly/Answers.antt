use Rattle.laws_scope.proofs.ExitStage.{exits_exactly}
use Rattle.laws_scope.proofs.exits_exactly.Goals as goal

pub returns : goal.returns
returns c = exits_exactly
