-- A function, and a bundle of it whose bodies are made for arguments that they assume. The text is
--
--     fun area(width, height)
--     ver base
--     var a = width * height
--     return a
--     end
--     fun main()
--     ver base
--     read width
--     read height
--     call a = &area(width, height)
--     print a
--     stop
--     end
--
-- and the bundle of area, in which body 2 leaves for body 1, and body 1 for the text version, is
--
--     body 1 area
--     @_0: assume width == 2 else area.base._0 [width = width, height = height]
--     _0: var a = 2 * height
--     _1: return a
--     end
--     body 2 area
--     @_0: assume width == 2, height == 3 else %1.@_0 [width = width, height = height]
--     _0: var a = 6
--     _1: return a
--     end
use Rattle.std.specs.Prelude.{ℕ, List, [], ◌∷◌, codes}
use Rattle.sour_syntax.specs.declared.exit.Bind.{Bind}
use Rattle.sour_syntax.specs.declared.exit.Code.{Code}
use Rattle.sour_syntax.specs.declared.exit.Code.TheVariants.{Text, Made}
use Rattle.sour_syntax.specs.declared.exit.Exit.{Exit}
use Rattle.sour_syntax.specs.declared.expression.Expr.{Expr}
use Rattle.sour_syntax.specs.declared.expression.Expr.TheVariants as expr
use Rattle.sour_syntax.specs.declared.expression.Op.TheVariants as op
use Rattle.sour_syntax.specs.declared.expression.Simple.{Simple}
use Rattle.sour_syntax.specs.declared.expression.Simple.TheVariants as simple
use Rattle.sour_syntax.specs.declared.instruction.Instr.TheVariants.{Var, Print, Read, Call, Return, Stop, Assume}
use Rattle.sour_syntax.specs.declared.instruction.Line.{Line}
use Rattle.sour_syntax.specs.declared.literal.FunId.{FunId}
use Rattle.sour_syntax.specs.declared.literal.Literal.TheVariants.{Function}
use Rattle.sour_syntax.specs.BodyView.{BodyView}
use Rattle.sour_syntax.specs.Program.{ProgramView}
use Rattle.sour_semantics.specs.State.{BundleView}
use Rattle.laws_examples.specs.Words.{line, numbered, variable, number, gets}

-- the function area
abbrev pub area : FunId
area = record { 0 = 0 }

-- the function main
abbrev pub main : FunId
main = record { 0 = 1 }

-- the names of the variables, of which those of area and those of main have the same
abbrev pub variables : List (List ℕ)
variables = codes "width" ∷ codes "height" ∷ codes "a" ∷ []

-- the variable width, as an operand
abbrev pub width : Simple
width = variable 0

-- the variable height
abbrev pub height : Simple
height = variable 1

-- the variable a
abbrev pub a : Simple
a = variable 2

-- a body of area with these lines
abbrev pub area_body : List Line → BodyView
area_body lines = record { function = area; parameters = 2; variables = variables; lines = lines }

-- the line that declares a with the value of an expression
abbrev pub declares : Expr → Line
declares e = line (codes "_0") (Var (numbered 2) e)

-- the line that returns a
abbrev pub returns : Line
returns = line (codes "_1") (Return (expr.Plain a))

-- the text version of area
abbrev pub area_text : BodyView
area_text = area_body (declares (expr.Binary op.Mul width height) ∷ returns ∷ [])

-- the lines of main
abbrev pub main_lines : List Line
main_lines =
    line (codes "_0") (Read (numbered 0))
    ∷ line (codes "_1") (Read (numbered 1))
    ∷ line (codes "_2") (Call (numbered 2) (simple.Lit (Function area)) (expr.Plain width ∷ expr.Plain height ∷ []))
    ∷ line (codes "_3") (Print (expr.Plain a))
    ∷ line (codes "_4") Stop
    ∷ []

-- the text version of main
abbrev pub main_text : BodyView
main_text = record { function = main; parameters = 0; variables = variables; lines = main_lines }

-- the program of the text
abbrev pub program : ProgramView
program = record {
  functions =
      record { name = codes "area"; versions = record { name = codes "base"; body = area_text } ∷ [] }
      ∷ record { name = codes "main"; versions = record { name = codes "base"; body = main_text } ∷ [] }
      ∷ [];
  main = main;
}

-- an operand is this number
abbrev pub equals : Simple → ℕ → Expr
equals operand n = expr.Binary op.Eq operand (number n)

-- the map [width = first, height = second]
abbrev pub both : Expr → Expr → List Bind
both first second = gets 0 first ∷ gets 1 second ∷ []

-- the map [width = width, height = height]
abbrev pub keeps_both : List Bind
keeps_both = both (expr.Plain width) (expr.Plain height)

-- the exit that leads to this label of this code with this map
abbrev pub exit_to : Code → List ℕ → List Bind → Exit
exit_to code label binds = record { target = record { code = code; label = label }; map = binds; extras = [] }

-- the anchor with these predicates and this exit
abbrev pub anchor : List Expr → Exit → Line
anchor predicates exit = line (codes "@_0") (Assume predicates exit)

-- a body of area that begins with this anchor, and gives a the value of an expression
abbrev pub specialised : Line → Expr → BodyView
specialised first e = area_body (first ∷ declares e ∷ returns ∷ [])

-- the anchor of body 1, which assumes that width is 2 and leaves for the text
abbrev pub first_anchor : Line
first_anchor = anchor (equals width 2 ∷ []) (exit_to (Text area 0) (codes "_0") keeps_both)

-- the area if width is 2
abbrev pub twice_height : Expr
twice_height = expr.Binary op.Mul (number 2) height

-- body 1
abbrev pub first_body : BodyView
first_body = specialised first_anchor twice_height

-- the anchor of body 2, which assumes that height is 3 too and leaves for body 1
abbrev pub second_anchor : Line
second_anchor = anchor (equals width 2 ∷ equals height 3 ∷ []) (exit_to (Made 1) (codes "@_0") keeps_both)

-- body 2
abbrev pub second_body : BodyView
second_body = specialised second_anchor (expr.Plain (number 6))

-- the bundle of both
abbrev pub area_bundle : BundleView
area_bundle = record { function = area; bodies = first_body ∷ second_body ∷ [] }
