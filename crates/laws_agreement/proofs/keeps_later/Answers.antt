use Rattle.laws_agreement.proofs.LaterRuns.{keeps_later}
use Rattle.laws_agreement.proofs.keeps_later.Goals as goal

pub returns : goal.returns
returns c = keeps_later
