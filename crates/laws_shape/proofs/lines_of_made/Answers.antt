use Rattle.laws_shape.proofs.MadeBodies.{lines-of-made}
use Rattle.laws_shape.proofs.lines_of_made.Goals as goal

pub returns : goal.returns
returns c = lines-of-made
