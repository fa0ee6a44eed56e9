use Rattle.laws_versions.proofs.GoingOn.{goes_on_by_parts}
use Rattle.laws_versions.proofs.goes_on_by_parts.Goals as goal

pub returns : goal.returns
returns c = goes_on_by_parts
