use Rattle.laws_renaming.proofs.Mapped.{mapped-same}
use Rattle.laws_renaming.proofs.by_same.Goals as goal

pub returns : goal.returns
returns c = mapped-same
