use Rattle.laws_printing.proofs.TextTokens.{pieces_are_tokens}
use Rattle.laws_printing.proofs.pieces_are_tokens.Goals as goal

pub returns : goal.returns
returns c = pieces_are_tokens
