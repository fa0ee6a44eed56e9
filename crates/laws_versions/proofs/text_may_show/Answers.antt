use Rattle.laws_versions.proofs.ShownVersions.{text_may_show}
use Rattle.laws_versions.proofs.text_may_show.Goals as goal

pub returns : goal.returns
returns c = text_may_show
