use Rattle.laws_scope.proofs.Acceptance.{checked_once}
use Rattle.laws_scope.proofs.checked_once.Goals as goal

pub returns : goal.returns
returns c = checked_once
