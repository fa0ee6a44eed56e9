-- The parts of what a value prints as.
use Rattle.std.specs.Prelude.{ℕ, List, [], codes}
use Rattle.sour_syntax.specs.declared.literal.Literal.TheVariants.{Number, Truth, Nil, Function}
use Rattle.sour_syntax.specs.declared.literal.Value.{Value}
use Rattle.sour_syntax.specs.declared.literal.Value.TheVariants.{Plain, Array}

-- what stands before the digits or the name
abbrev pub head_of : Value → List ℕ
head_of (Plain (Number n)) = []
head_of (Plain (Truth b)) = []
head_of (Plain Nil) = []
head_of (Plain (Function f)) = codes "&"
head_of (Array a) = codes "array("

-- what stands behind them
abbrev pub tail_of : Value → List ℕ
tail_of (Plain literal) = []
tail_of (Array a) = codes ")"
