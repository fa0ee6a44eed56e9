use Rattle.laws_versions.proofs.ShownVersions.{cut_shows_text}
use Rattle.laws_versions.proofs.cut_shows_text.Goals as goal

pub returns : goal.returns
returns c = cut_shows_text
