use Rattle.laws_renaming.proofs.Expressions.{values-mapped}
use Rattle.laws_renaming.proofs.values.Goals as goal

pub returns : goal.returns
returns c = values-mapped
