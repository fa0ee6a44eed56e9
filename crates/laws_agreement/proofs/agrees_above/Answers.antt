use Rattle.laws_agreement.proofs.AgreementAbove.{agrees_above}
use Rattle.laws_agreement.proofs.agrees_above.Goals as goal

pub returns : goal.returns
returns c = agrees_above
