use Rattle.laws_runs.proofs.RunAdvances.{add}
use Rattle.laws_runs.proofs.advances_add.Goals as goal

pub returns : goal.returns
returns c = add
