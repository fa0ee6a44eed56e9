use Rattle.laws_scope.proofs.ScopeStage.{scopes_exactly}
use Rattle.laws_scope.proofs.scopes_exactly.Goals as goal

pub returns : goal.returns
returns c = scopes_exactly
