use Rattle.laws_versions.proofs.RunsSoFar.{calls_fit}
use Rattle.laws_versions.proofs.calls_fit.Goals as goal

pub returns : goal.returns
returns c = calls_fit
