use Rattle.std.specs.Prelude.{ℕ, List, [], ◌++◌, Option, None, Some, true, false, length, decimal, slice_get, codes}
use Rattle.std.specs.Fmt.{signed_decimal}
use Rattle.sour_syntax.specs.declared.literal.Literal.{Literal}
use Rattle.sour_syntax.specs.declared.literal.Literal.TheVariants.{Number, Truth, Nil, Function}
use Rattle.sour_syntax.specs.declared.literal.Value.{Value}
use Rattle.sour_syntax.specs.declared.literal.Value.TheVariants.{Plain, Array}
use Rattle.sour_syntax.specs.declared.program.Function.{Function as Declared}
use Rattle.sour_syntax.specs.Program.{ProgramView}
use Rattle.sour_semantics.specs.State.{Heap}
use Rattle.sour_semantics.specs.Evaluation.{cells_of}

-- the name of a function; none where there is no function
abbrev pub name_of : Option Declared → List ℕ
name_of None = []
name_of (Some function) = function.name

-- what a literal prints as
abbrev pub literal_text : ProgramView → Literal → List ℕ
literal_text program (Number number) = signed_decimal number
literal_text program (Truth true) = codes "true"
literal_text program (Truth false) = codes "false"
literal_text program Nil = codes "nil"
literal_text program (Function f) = codes "&" ++ name_of (slice_get program.functions f.0)

-- how many cells there are; 0 where there is no array
abbrev pub count_cells : Option (List Value) → ℕ
count_cells None = 0
count_cells (Some cells) = length cells

-- what a value prints as where the array to which it refers, if it refers to one, has so many cells
abbrev pub text_with_cells : ProgramView → ℕ → Value → List ℕ
text_with_cells program count (Plain literal) = literal_text program literal
text_with_cells program count (Array a) = codes "array(" ++ decimal count ++ codes ")"

-- what a value prints as
abbrev pub value_text : ProgramView → Heap → Value → List ℕ
value_text program heap value = text_with_cells program (count_cells (cells_of heap value)) value
