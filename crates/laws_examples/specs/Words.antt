-- Short words in which the programs of the examples are written down.
use Rattle.std.specs.Prelude.{ℕ, pos, List}
use Rattle.sour_syntax.specs.declared.exit.Bind.{Bind}
use Rattle.sour_syntax.specs.declared.expression.Expr.{Expr}
use Rattle.sour_syntax.specs.declared.expression.Expr.TheVariants as expr
use Rattle.sour_syntax.specs.declared.expression.Simple.{Simple}
use Rattle.sour_syntax.specs.declared.expression.Simple.TheVariants as simple
use Rattle.sour_syntax.specs.declared.instruction.Instr.{Instr}
use Rattle.sour_syntax.specs.declared.instruction.Line.{Line}
use Rattle.sour_syntax.specs.declared.literal.Literal.{Literal}
use Rattle.sour_syntax.specs.declared.literal.Literal.TheVariants.{Number}
use Rattle.sour_syntax.specs.declared.literal.Value.{Value}
use Rattle.sour_syntax.specs.declared.literal.Value.TheVariants as value
use Rattle.sour_syntax.specs.declared.literal.VarId.{VarId}

-- an instruction with its label
abbrev pub line : List ℕ → Instr → Line
line label instr = record { label = label; instr = instr }

-- the variable with this number
abbrev pub numbered : ℕ → VarId
numbered x = record { 0 = x }

-- the variable with this number, as an operand
abbrev pub variable : ℕ → Simple
variable x = simple.Var (numbered x)

-- a number that a text spells
abbrev pub literal : ℕ → Literal
literal n = Number (pos n)

-- a number, as an operand
abbrev pub number : ℕ → Simple
number n = simple.Lit (literal n)

-- a number, as a value
abbrev pub value_of : ℕ → Value
value_of n = value.Plain (literal n)

-- in a map: the variable of the target with this number gets the value of an expression
abbrev pub gets : ℕ → Expr → Bind
gets x e = record { name = numbered x; value = e }

-- in a map: it gets the value of the variable with the same number
abbrev pub keeps : ℕ → Bind
keeps x = gets x (expr.Plain (variable x))
