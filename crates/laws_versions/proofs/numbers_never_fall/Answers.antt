use Rattle.laws_versions.proofs.ReadNumbers.{numbers_never_fall}
use Rattle.laws_versions.proofs.numbers_never_fall.Goals as goal

pub returns : goal.returns
returns c = numbers_never_fall
