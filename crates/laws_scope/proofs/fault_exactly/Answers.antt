use Rattle.laws_scope.proofs.FaultStage.{fault_exactly}
use Rattle.laws_scope.proofs.fault_exactly.Goals as goal

pub returns : goal.returns
returns c = fault_exactly
