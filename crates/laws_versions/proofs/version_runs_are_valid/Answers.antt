use Rattle.laws_versions.proofs.ValidVersions.{version_runs_are_valid}
use Rattle.laws_versions.proofs.version_runs_are_valid.Goals as goal

pub returns : goal.returns
returns c = version_runs_are_valid
