use Rattle.laws_renaming.proofs.Mapped.{fine-mapped}
use Rattle.laws_renaming.proofs.stands.Goals as goal

pub returns : goal.returns
returns c = fine-mapped
