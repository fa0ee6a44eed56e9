use Rattle.laws_agreement.proofs.TextAlone.{text_alone_agrees}
use Rattle.laws_agreement.proofs.text_alone_agrees.Goals as goal

pub returns : goal.returns
returns c = text_alone_agrees
