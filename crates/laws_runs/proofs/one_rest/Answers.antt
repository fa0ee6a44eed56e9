use Rattle.laws_runs.proofs.RunRests.{one}
use Rattle.laws_runs.proofs.one_rest.Goals as goal

pub returns : goal.returns
returns c = one
