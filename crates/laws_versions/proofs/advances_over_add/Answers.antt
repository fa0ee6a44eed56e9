use Rattle.laws_versions.proofs.GoingOn.{advances_over_add}
use Rattle.laws_versions.proofs.advances_over_add.Goals as goal

pub returns : goal.returns
returns c = advances_over_add
