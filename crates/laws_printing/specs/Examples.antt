-- Examples of the canonical text: where blanks stand, and on which lines.
use Rattle.std.specs.Prelude.{◌≡◌, ℕ, pos, negsuc, true, List, [], ◌∷◌, ◌++◌, None, Some, codes}
use Rattle.sour_syntax.specs.declared.expression.Op.TheVariants.{Add, Lt, Sub}
use Rattle.sour_raw.specs.declared.raw.RawLiteral.TheVariants.{Number, Truth, Nil, Function}
use Rattle.sour_raw.specs.declared.raw.RawSimple.{RawSimple}
use Rattle.sour_raw.specs.declared.raw.RawSimple.TheVariants.{Lit, Name}
use Rattle.sour_raw.specs.declared.raw.RawExpr.TheVariants.{Plain, Cell, Length, Not, Binary}
use Rattle.sour_raw.specs.declared.raw.RawExit.{RawExit}
use Rattle.sour_raw.specs.declared.raw.RawInstr.{RawInstr}
use Rattle.sour_raw.specs.declared.raw.RawInstr.TheVariants.{Var, Drop, Assign, ArrayLength, ArrayList, Store, Print, Read, Branch, Goto, Call, Return, Stop, Assume}
use Rattle.sour_raw.specs.declared.raw.RawJob.{RawJob}
use Rattle.sour_raw.specs.Reads.{Reads}
use Rattle.laws_printing.specs.Pieces.{instr_pieces, job_lines}
use Rattle.laws_printing.specs.Text.{bytes_of, text_of}
use Rattle.laws_printing.specs.Numbered.{IsCanonical}

-- the bytes of an instruction
abbrev pub written : RawInstr → List ℕ
written i = bytes_of (instr_pieces i)

-- the variable `x` as an operand
abbrev pub operand_x : RawSimple
operand_x = Name (codes "x")

-- the variable `y` as one
abbrev pub operand_y : RawSimple
operand_y = Name (codes "y")

-- a number as one
abbrev pub operand_of : ℕ → RawSimple
operand_of n = Lit (Number (pos n))

-- the exit `g.slow.a [x = x, y = !x], k.base.c q []`
abbrev pub example_exit : RawExit
example_exit = record {
  target = record { function = codes "g"; version = codes "slow"; label = codes "a" };
  map = record { name = codes "x"; value = Plain operand_x } ∷ record { name = codes "y"; value = Not operand_x } ∷ [];
  extras =
      record {
        target = record { function = codes "k"; version = codes "base"; label = codes "c" };
        result = codes "q";
        map = [];
      } ∷ [];
}

-- instructions are spelled so
pub record AreSpelledSo : Type 0 where
  pub declaration : written (Var (codes "x") (Binary Add operand_x operand_y)) ≡ codes "var x = x + y"
  pub removal : written (Drop (codes "x")) ≡ codes "drop x"
  pub reading : written (Read (codes "x")) ≡ codes "read x"
  pub jump : written (Goto (codes "x")) ≡ codes "goto x"
  pub call : written (Call (codes "x") (Lit (Function (codes "f"))) (Plain operand_x ∷ Plain operand_y ∷ []))
      ≡ codes "call x = &f(x, y)"
  pub call_nothing : written (Call (codes "x") operand_y []) ≡ codes "call x = y()"
  pub store : written (Store (codes "x") operand_y (Length operand_x)) ≡ codes "x[y] <- length x"
  pub array : written (ArrayLength (codes "x") (Cell (codes "y") (operand_of 0))) ≡ codes "array x[y[0]]"
  pub list : written (ArrayList (codes "x") (Plain (operand_of 1) ∷ Plain (Lit Nil) ∷ [])) ≡ codes "array x = [1, nil]"
  pub negation : written (Assign (codes "x") (Not (Lit (Truth true)))) ≡ codes "x <- !true"
  pub negative : written (Print (Binary Sub operand_x (Lit (Number (negsuc 0))))) ≡ codes "print x - -1"
  pub branch : written (Branch (Plain operand_x) (codes "a") (codes "_12")) ≡ codes "branch x a _12"
  pub exit : written (Assume (Binary Lt operand_x (operand_of 9) ∷ Plain operand_y ∷ []) example_exit)
      ≡ codes "assume x < 9, y else g.slow.a [x = x, y = !x], k.base.c q []"
  pub no_predicate : written (Assume [] record { target = example_exit.target; map = []; extras = [] })
      ≡ codes "assume else g.slow.a []"

-- two functions, of which the first has two versions
abbrev pub example_job : RawJob
example_job = record {
  functions =
      record {
        line = 1;
        name = codes "main";
        parameters = [];
        versions =
            record { line = 2; name = codes "base"; lines = record { line = 3; label = None; instr = Stop } ∷ [] }
            ∷ record {
              line = 4;
              name = codes "other";
              lines =
                  record { line = 5; label = Some (codes "go"); instr = Print (Plain (operand_of 7)) }
                  ∷ record { line = 6; label = None; instr = Stop } ∷ [];
            }
            ∷ [];
      }
      ∷ record {
        line = 8;
        name = codes "f";
        parameters = codes "x" ∷ codes "y" ∷ [];
        versions =
            record {
              line = 9;
              name = codes "v";
              lines = record { line = 10; label = None; instr = Return (Plain operand_x) } ∷ [];
            }
            ∷ [];
      }
      ∷ [];
  plan = [];
  inputs = [];
}

-- a text is spelled so, its lines are those of the raw job, and it reads as that
pub record IsTextSpelledSo : Type 0 where
  pub text : text_of (job_lines example_job)
      ≡ codes "fun main()" ++ 10 ∷ codes "ver base" ++ 10 ∷ codes "stop" ++ 10 ∷ codes "ver other"
      ++ 10 ∷ codes "go: print 7" ++ 10 ∷ codes "stop" ++ 10 ∷ codes "end"
      ++ 10 ∷ codes "fun f(x, y)" ++ 10 ∷ codes "ver v" ++ 10 ∷ codes "return x" ++ 10 ∷ codes "end" ++ 10 ∷ []
  pub canonical : IsCanonical example_job
  pub reads : Reads (text_of (job_lines example_job)) example_job
