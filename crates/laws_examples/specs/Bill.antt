-- A text in which one frame does the work of three, and leaves for all of them. A few things cost as much as there are
-- of them; many cost twice that, and shipping. In bill.few the call of price_of is inlined by hand:
--
--     fun plus_shipping(price)
--     ver base
--     add: price <- price + 100
--     return price
--     end
--     fun price_of(count)
--     ver few
--     assume count < 10 else price_of.many.double [count = count], plus_shipping.base.add price []
--     return count
--     ver many
--     double: var price = count * 2
--     return price
--     end
--     fun bill(count)
--     ver few
--     assume count < 10 else price_of.many.double [count = count], plus_shipping.base.add price [],
--         bill.many._1 price [count = count]
--     var total = count + 1
--     return total
--     ver many
--     call price = &price_of(count)
--     var total = price + 1
--     return total
--     end
--     fun main()
--     ver base
--     read count
--     call total = &bill(count)
--     print total
--     return 0
--     end
--
-- where the assumption of bill.few is one line.
use Rattle.std.specs.Prelude.{ℕ, List, [], ◌∷◌, codes}
use Rattle.sour_syntax.specs.declared.exit.Code.TheVariants.{Text}
use Rattle.sour_syntax.specs.declared.exit.Extra.{Extra}
use Rattle.sour_syntax.specs.declared.expression.Expr.{Expr}
use Rattle.sour_syntax.specs.declared.expression.Expr.TheVariants as expr
use Rattle.sour_syntax.specs.declared.expression.Op.TheVariants as op
use Rattle.sour_syntax.specs.declared.expression.Simple.TheVariants as simple
use Rattle.sour_syntax.specs.declared.instruction.Instr.TheVariants.{Var, Assign, Print, Read, Call, Return, Assume}
use Rattle.sour_syntax.specs.declared.instruction.Line.{Line}
use Rattle.sour_syntax.specs.declared.literal.FunId.{FunId}
use Rattle.sour_syntax.specs.declared.literal.Literal.TheVariants.{Function}
use Rattle.sour_syntax.specs.declared.program.Version.{Version}
use Rattle.sour_syntax.specs.Program.{ProgramView}
use Rattle.laws_examples.specs.Words.{line, numbered, variable, number, keeps}

-- the function plus_shipping
abbrev pub plus_shipping : FunId
plus_shipping = record { 0 = 0 }

-- the function price_of
abbrev pub price_of : FunId
price_of = record { 0 = 1 }

-- the function bill
abbrev pub bill : FunId
bill = record { 0 = 2 }

-- the function main
abbrev pub main : FunId
main = record { 0 = 3 }

-- a version with this name of a function with so many parameters, with these variables and lines
abbrev pub version : List ℕ → FunId → ℕ → List (List ℕ) → List Line → Version
version name function parameters variables lines = record {
  name = name;
  body = record { function = function; parameters = parameters; variables = variables; lines = lines };
}

-- a variable with this number plus a number
abbrev pub plus : ℕ → ℕ → Expr
plus x n = expr.Binary op.Add (variable x) (number n)

-- the assumption that count is below 10, with an exit to price_of.many and to these frames below it
abbrev pub assumes_few : List Extra → Line
assumes_few extras = line (codes "_0") (Assume (expr.Binary op.Lt (variable 0) (number 10) ∷ []) (record {
  target = record { code = Text price_of 1; label = codes "double" };
  map = keeps 0 ∷ [];
  extras = extras;
}))

-- a frame of plus_shipping, which waits for price
abbrev pub then_shipping : Extra
then_shipping = record {
  target = record { code = Text plus_shipping 0; label = codes "add" };
  result = numbered 0;
  map = [];
}

-- a frame of bill.many, which waits for price
abbrev pub then_bill : Extra
then_bill = record {
  target = record { code = Text bill 1; label = codes "_1" };
  result = numbered 1;
  map = keeps 0 ∷ [];
}

-- the version of plus_shipping
abbrev pub shipping_base : Version
shipping_base = version (codes "base") plus_shipping 1 (codes "price" ∷ []) (
    line (codes "add") (Assign (numbered 0) (plus 0 100))
    ∷ line (codes "_1") (Return (expr.Plain (variable 0)))
    ∷ [])

-- the version few of price_of
abbrev pub price_few : Version
price_few = version (codes "few") price_of 1 (codes "count" ∷ []) (
    assumes_few (then_shipping ∷ [])
    ∷ line (codes "_1") (Return (expr.Plain (variable 0)))
    ∷ [])

-- the version many of price_of
abbrev pub price_many : Version
price_many = version (codes "many") price_of 1 (codes "count" ∷ codes "price" ∷ []) (
    line (codes "double") (Var (numbered 1) (expr.Binary op.Mul (variable 0) (number 2)))
    ∷ line (codes "_1") (Return (expr.Plain (variable 1)))
    ∷ [])

-- the version few of bill
abbrev pub bill_few : Version
bill_few = version (codes "few") bill 1 (codes "count" ∷ codes "total" ∷ []) (
    assumes_few (then_shipping ∷ then_bill ∷ [])
    ∷ line (codes "_1") (Var (numbered 1) (plus 0 1))
    ∷ line (codes "_2") (Return (expr.Plain (variable 1)))
    ∷ [])

-- the version many of bill
abbrev pub bill_many : Version
bill_many = version (codes "many") bill 1 (codes "count" ∷ codes "price" ∷ codes "total" ∷ []) (
    line (codes "_0") (Call (numbered 1) (simple.Lit (Function price_of)) (expr.Plain (variable 0) ∷ []))
    ∷ line (codes "_1") (Var (numbered 2) (plus 1 1))
    ∷ line (codes "_2") (Return (expr.Plain (variable 2)))
    ∷ [])

-- the version of main
abbrev pub main_base : Version
main_base = version (codes "base") main 0 (codes "count" ∷ codes "total" ∷ []) (
    line (codes "_0") (Read (numbered 0))
    ∷ line (codes "_1") (Call (numbered 1) (simple.Lit (Function bill)) (expr.Plain (variable 0) ∷ []))
    ∷ line (codes "_2") (Print (expr.Plain (variable 1)))
    ∷ line (codes "_3") (Return (expr.Plain (number 0)))
    ∷ [])

-- the program of the text
abbrev pub program : ProgramView
program = record {
  functions =
      record { name = codes "plus_shipping"; versions = shipping_base ∷ [] }
      ∷ record { name = codes "price_of"; versions = price_few ∷ price_many ∷ [] }
      ∷ record { name = codes "bill"; versions = bill_few ∷ bill_many ∷ [] }
      ∷ record { name = codes "main"; versions = main_base ∷ [] }
      ∷ [];
  main = main;
}
