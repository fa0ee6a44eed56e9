use Rattle.laws_agreement.proofs.LawfulCalls.{runs_agree}
use Rattle.laws_agreement.proofs.runs_agree.Goals as goal

pub returns : goal.returns
returns c = runs_agree
