use Rattle.laws_versions.proofs.VersionRests.{version_turns_come_soon}
use Rattle.laws_versions.proofs.version_turns_come_soon.Goals as goal

pub returns : goal.returns
returns c = version_turns_come_soon
