use Rattle.laws_runs.proofs.RestReached.{some}
use Rattle.laws_runs.proofs.some_rest.Goals as goal

pub returns : goal.returns
returns c = some
