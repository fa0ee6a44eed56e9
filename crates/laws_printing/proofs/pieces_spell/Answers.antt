use Rattle.laws_printing.proofs.SpelledJobs.{pieces_spell}
use Rattle.laws_printing.proofs.pieces_spell.Goals as goal

pub returns : goal.returns
returns c = pieces_spell
