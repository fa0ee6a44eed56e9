use Rattle.laws_validity.proofs.Runs.{never_by}
use Rattle.laws_validity.proofs.never_stuck_by.Goals as goal

pub returns : goal.returns
returns c = never_by
