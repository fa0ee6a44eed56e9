use Rattle.laws_renaming.proofs.Expressions.{exits-mapped}
use Rattle.laws_renaming.proofs.exits.Goals as goal

pub returns : goal.returns
returns c = exits-mapped
