use Rattle.laws_renaming.proofs.Mapped.{short-mapped}
use Rattle.laws_renaming.proofs.short.Goals as goal

pub returns : goal.returns
returns c = λ by instr keeps. short-mapped by keeps instr
