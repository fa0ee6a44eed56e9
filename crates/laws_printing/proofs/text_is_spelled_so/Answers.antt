use Rattle.laws_printing.proofs.Examples.{is_text_spelled_so}
use Rattle.laws_printing.proofs.text_is_spelled_so.Goals as goal

pub returns : goal.returns
returns c = is_text_spelled_so
