use Rattle.laws_renaming.proofs.Mapped.{named-mapped}
use Rattle.laws_renaming.proofs.labels.Goals as goal

pub returns : goal.returns
returns c = named-mapped
