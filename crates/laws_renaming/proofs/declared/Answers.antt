use Rattle.laws_renaming.proofs.Mapped.{declared-mapped}
use Rattle.laws_renaming.proofs.declared.Goals as goal

pub returns : goal.returns
returns c = declared-mapped
