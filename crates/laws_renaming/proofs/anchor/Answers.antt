use Rattle.laws_renaming.proofs.Mapped.{anchor-mapped}
use Rattle.laws_renaming.proofs.anchor.Goals as goal

pub returns : goal.returns
returns c = λ by instr keeps. anchor-mapped by keeps instr
