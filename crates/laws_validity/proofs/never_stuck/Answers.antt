use Rattle.laws_validity.proofs.Runs.{never}
use Rattle.laws_validity.proofs.never_stuck.Goals as goal

pub returns : goal.returns
returns c = never
