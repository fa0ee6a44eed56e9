use Rattle.std.proofs.Common.{◌<◌}
use Rattle.sour_syntax.specs.declared.literal.VarId.{VarId}
use Rattle.laws_renaming.proofs.Mapped.{mentioned-mapped}
use Rattle.laws_renaming.proofs.mentions.Goals as goal

pub returns : goal.returns
returns c = λ by count other instr keeps.
    mentioned-mapped by (λ (x : VarId). x.0 < count) (λ (x : VarId). x.0 < other) keeps instr
