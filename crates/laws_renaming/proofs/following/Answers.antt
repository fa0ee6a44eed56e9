use Rattle.laws_renaming.proofs.Mapped.{following-mapped}
use Rattle.laws_renaming.proofs.following.Goals as goal

pub returns : goal.returns
returns c = λ by next there instr. following-mapped by next there instr
