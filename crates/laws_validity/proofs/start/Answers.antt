use Rattle.laws_validity.proofs.Runs.{IsValid-start}
use Rattle.laws_validity.proofs.start.Goals as goal

pub returns : goal.returns
returns c = IsValid-start
