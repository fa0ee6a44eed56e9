use Rattle.laws_versions.proofs.VersionRests.{version_rests_somewhere}
use Rattle.laws_versions.proofs.version_rests_somewhere.Goals as goal

pub returns : goal.returns
returns c = version_rests_somewhere
