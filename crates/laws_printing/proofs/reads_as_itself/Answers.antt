use Rattle.laws_printing.proofs.ReadsAsItself.{reads_as_itself}
use Rattle.laws_printing.proofs.reads_as_itself.Goals as goal

pub returns : goal.returns
returns c = reads_as_itself
