use Rattle.laws_printing.proofs.ApartPieces.{pieces_are_apart}
use Rattle.laws_printing.proofs.pieces_are_apart.Goals as goal

pub returns : goal.returns
returns c = pieces_are_apart
