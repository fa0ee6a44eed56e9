use Rattle.laws_renaming.proofs.Mapped.{after-mapped}
use Rattle.laws_renaming.proofs.scope.Goals as goal

pub returns : goal.returns
returns c = after-mapped
