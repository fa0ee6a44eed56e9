use Rattle.laws_agreement.proofs.LawfulCalls.{call_agrees}
use Rattle.laws_agreement.proofs.call_agrees.Goals as goal

pub returns : goal.returns
returns c = call_agrees
