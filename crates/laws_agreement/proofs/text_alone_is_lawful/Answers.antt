use Rattle.laws_agreement.proofs.TextShape.{text_alone_is_lawful}
use Rattle.laws_agreement.proofs.text_alone_is_lawful.Goals as goal

pub returns : goal.returns
returns c = text_alone_is_lawful
