use Rattle.laws_versions.proofs.RunsSoFar.{runs_so_far}
use Rattle.laws_versions.proofs.runs_so_far.Goals as goal

pub returns : goal.returns
returns c = runs_so_far
