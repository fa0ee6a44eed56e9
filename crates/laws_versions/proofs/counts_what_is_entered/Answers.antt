use Rattle.laws_versions.proofs.EnteredFrames.{counts_what_is_entered}
use Rattle.laws_versions.proofs.counts_what_is_entered.Goals as goal

pub returns : goal.returns
returns c = counts_what_is_entered
