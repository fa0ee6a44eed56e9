use Rattle.laws_renaming.proofs.Mapped.{kind-mapped}
use Rattle.laws_renaming.proofs.kind.Goals as goal

pub returns : goal.returns
returns c = kind-mapped
