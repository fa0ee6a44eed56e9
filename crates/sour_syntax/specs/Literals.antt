-- The literals of an instruction, and what holds of each literal of a program.
use Rattle.std.specs.Prelude.{◌^◌, ◌<◌, ℕ, ℤ, pos, negsuc, Bool, IsTrue, List, [], ◌∷◌, ◌++◌, nat_lt}
use Rattle.sour_syntax.specs.declared.literal.Literal.{Literal}
use Rattle.sour_syntax.specs.declared.literal.Literal.TheVariants.{Number, Truth, Nil, Function}
use Rattle.sour_syntax.specs.declared.expression.Simple.{Simple}
use Rattle.sour_syntax.specs.declared.expression.Simple.TheVariants as simple
use Rattle.sour_syntax.specs.declared.expression.Expr.{Expr}
use Rattle.sour_syntax.specs.declared.expression.Expr.TheVariants as expr
use Rattle.sour_syntax.specs.declared.instruction.Instr.{Instr}
use Rattle.sour_syntax.specs.declared.instruction.Instr.TheVariants.{Var, Drop, Assign, ArrayLength, ArrayList, Store, Print, Read, Branch, Goto, Call, Return, Stop, Assume}
use Rattle.sour_syntax.specs.Exits.{exit_values}

-- whether a number lies in i64
abbrev pub is_i64 : ℤ → Bool
is_i64 (pos n) = nat_lt n (2 ^ 63)
is_i64 (negsuc n) = nat_lt n (2 ^ 63)

-- a literal of a program with so many functions: its number lies in i64, or its function is there
abbrev pub IsLiteral : ℕ → Literal → Type 0
IsLiteral functions (Number n) = IsTrue (is_i64 n)
IsLiteral functions (Truth b) = Unit {0}
IsLiteral functions Nil = Unit {0}
IsLiteral functions (Function f) = f.0 < functions

-- the literals of an operand
abbrev pub simple_literals : Simple → List Literal
simple_literals (simple.Lit literal) = literal ∷ []
simple_literals (simple.Var x) = []

-- the literals of an expression
abbrev pub literals_of_expr : Expr → List Literal
literals_of_expr (expr.Plain a) = simple_literals a
literals_of_expr (expr.Cell x index) = simple_literals index
literals_of_expr (expr.Length a) = simple_literals a
literals_of_expr (expr.Not a) = simple_literals a
literals_of_expr (expr.Binary op a b) = simple_literals a ++ simple_literals b

-- the literals of some expressions
abbrev pub literals_of_each : List Expr → List Literal
literals_of_each [] = []
literals_of_each (e ∷ es) = literals_of_expr e ++ literals_of_each es

-- the literals of an instruction
abbrev pub literals_of : Instr → List Literal
literals_of (Var x e) = literals_of_expr e
literals_of (Drop x) = []
literals_of (Assign x e) = literals_of_expr e
literals_of (ArrayLength x e) = literals_of_expr e
literals_of (ArrayList x es) = literals_of_each es
literals_of (Store x index e) = simple_literals index ++ literals_of_expr e
literals_of (Print e) = literals_of_expr e
literals_of (Read x) = []
literals_of (Branch e a b) = literals_of_expr e
literals_of (Goto a) = []
literals_of (Call x callee es) = simple_literals callee ++ literals_of_each es
literals_of (Return e) = literals_of_expr e
literals_of Stop = []
literals_of (Assume es exit) = literals_of_each es ++ literals_of_each (exit_values exit)
