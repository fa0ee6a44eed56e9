use Rattle.std.specs.Prelude.{ℕ, List}
use Rattle.sour_syntax.specs.declared.literal.FunId.{FunId}
use Rattle.sour_syntax.specs.declared.instruction.Line.{Line}

-- what contracts see of a body
pub record BodyView : Type 0 where
  pub function : FunId
  pub parameters : ℕ
  pub variables : List (List ℕ)
  pub lines : List Line
