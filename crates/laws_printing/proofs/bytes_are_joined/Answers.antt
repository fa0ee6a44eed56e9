use Rattle.laws_printing.proofs.Joined.{bytes_are_joined}
use Rattle.laws_printing.proofs.bytes_are_joined.Goals as goal

pub returns : goal.returns
returns c = bytes_are_joined
