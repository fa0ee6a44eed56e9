use Rattle.laws_versions.proofs.ShownVersions.{version_runs_may_show}
use Rattle.laws_versions.proofs.version_runs_may_show.Goals as goal

pub returns : goal.returns
returns c = version_runs_may_show
