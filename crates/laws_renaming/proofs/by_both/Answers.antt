use Rattle.laws_renaming.proofs.Mapped.{mapped-both}
use Rattle.laws_renaming.proofs.by_both.Goals as goal

pub returns : goal.returns
returns c = mapped-both
