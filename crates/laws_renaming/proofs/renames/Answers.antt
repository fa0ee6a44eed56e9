use Rattle.laws_renaming.proofs.Renaming.{renames}
use Rattle.laws_renaming.proofs.renames.Goals as goal

pub returns : goal.returns
returns c = renames
