use Rattle.laws_versions.proofs.ShownVersions.{version_runs_are_shown}
use Rattle.laws_versions.proofs.version_runs_are_shown.Goals as goal

pub returns : goal.returns
returns c = version_runs_are_shown
