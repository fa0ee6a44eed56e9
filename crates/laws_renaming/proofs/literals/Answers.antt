use Rattle.sour_syntax.specs.Literals.{IsLiteral}
use Rattle.laws_renaming.proofs.Mapped.{literals_of-mapped}
use Rattle.laws_renaming.proofs.literals.Goals as goal

pub returns : goal.returns
returns c = λ by functions instr keeps. literals_of-mapped by (IsLiteral functions) (IsLiteral functions) keeps instr
