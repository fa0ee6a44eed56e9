use Rattle.laws_versions.proofs.ReadNumbers.{numbers_tell}
use Rattle.laws_versions.proofs.numbers_tell.Goals as goal

pub returns : goal.returns
returns c = numbers_tell
