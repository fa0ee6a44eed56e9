use Rattle.laws_validity.proofs.Steps.{IsValid-step}
use Rattle.laws_validity.proofs.step.Goals as goal

pub returns : goal.returns
returns c = IsValid-step
