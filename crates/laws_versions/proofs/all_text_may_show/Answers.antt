use Rattle.laws_versions.proofs.ShownVersions.{all_text_may_show}
use Rattle.laws_versions.proofs.all_text_may_show.Goals as goal

pub returns : goal.returns
returns c = all_text_may_show
