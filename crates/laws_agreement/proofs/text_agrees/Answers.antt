use Rattle.laws_agreement.proofs.TextAlone.{text_agrees}
use Rattle.laws_agreement.proofs.text_agrees.Goals as goal

pub returns : goal.returns
returns c = text_agrees
