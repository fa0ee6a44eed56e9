-- An example of the text of a bundle.
use Rattle.std.specs.Prelude.{◌≡◌, ℕ, pos, List, [], ◌∷◌, ◌++◌, codes}
use Rattle.sour_syntax.specs.declared.literal.VarId.{VarId}
use Rattle.sour_syntax.specs.declared.literal.FunId.{FunId}
use Rattle.sour_syntax.specs.declared.literal.Literal.TheVariants.{Number}
use Rattle.sour_syntax.specs.declared.expression.Op.TheVariants.{Eq}
use Rattle.sour_syntax.specs.declared.expression.Simple.TheVariants as simple
use Rattle.sour_syntax.specs.declared.expression.Expr.{Expr}
use Rattle.sour_syntax.specs.declared.expression.Expr.TheVariants.{Plain, Binary}
use Rattle.sour_syntax.specs.declared.exit.Code.{Code}
use Rattle.sour_syntax.specs.declared.exit.Code.TheVariants.{Text, Made}
use Rattle.sour_syntax.specs.declared.exit.Bind.{Bind}
use Rattle.sour_syntax.specs.declared.exit.Exit.{Exit}
use Rattle.sour_syntax.specs.declared.instruction.Instr.TheVariants.{Return, Assume}
use Rattle.sour_syntax.specs.declared.instruction.Line.{Line}
use Rattle.sour_syntax.specs.declared.program.Function.{Function}
use Rattle.sour_syntax.specs.BodyView.{BodyView}
use Rattle.laws_printing.specs.Bundles.{bundle_lines, made_instr_pieces}
use Rattle.laws_printing.specs.Text.{bytes_of, text_of}

-- the function `f` and its variable `x`
abbrev pub example_f : FunId
example_f = record { 0 = 0 }

abbrev pub variable_x : VarId
variable_x = record { 0 = 0 }

abbrev pub expr_x : Expr
expr_x = Plain (simple.Var variable_x)

-- `x == n`
abbrev pub equals : ℕ → Expr
equals n = Binary Eq (simple.Var variable_x) (simple.Lit (Number (pos n)))

-- the map `[x = x]`
abbrev pub identity_map : List Bind
identity_map = record { name = variable_x; value = expr_x } ∷ []

-- the line `_0: return x`
abbrev pub return_line : Line
return_line = record { label = codes "_0"; instr = Return expr_x }

-- a body of `f` with these lines
abbrev pub body_of_f : List Line → BodyView
body_of_f lines = record { function = example_f; parameters = 1; variables = codes "x" ∷ []; lines = lines }

-- the program `fun f(x)`, `ver base`, `return x`, `end`
abbrev pub function_f : List Function
function_f =
    record {
      name = codes "f";
      versions = record { name = codes "base"; body = body_of_f (return_line ∷ []) } ∷ [];
    } ∷ []

-- a body that returns `x` where these predicates hold, and else leaves for this label
abbrev pub guarded_body : List Expr → Code → List ℕ → BodyView
guarded_body predicates code label =
    body_of_f
    (record {
      label = codes "@_0";
      instr = Assume predicates
          (record { target = record { code = code; label = label }; map = identity_map; extras = [] });
    } ∷ return_line ∷ [])

-- a body that leaves for the text, and one that leaves for that body
abbrev pub example_bodies : List BodyView
example_bodies =
    guarded_body (equals 1 ∷ []) (Text example_f 0) (codes "_0")
    ∷ guarded_body (equals 1 ∷ equals 2 ∷ []) (Made 1) (codes "@_0") ∷ []

-- an exit to a body with a further frame in that body
abbrev pub example_frames : Exit
example_frames = record {
  target = record { code = Text example_f 0; label = codes "_0" };
  map = identity_map;
  extras = record {
    target = record { code = Made 1; label = codes "@_0" };
    result = variable_x;
    map = [];
  } ∷ [];
}

-- bundles are written so
pub record AreBundlesWrittenSo : Type 0 where
  pub bundle : text_of (bundle_lines function_f example_f example_bodies)
      ≡ codes "bundle f" ++ 10 ∷ codes "body 1 f"
      ++ 10 ∷ codes "@_0: assume x == 1 else f.base._0 [x = x]" ++ 10 ∷ codes "_0: return x"
      ++ 10 ∷ codes "body 2 f"
      ++ 10 ∷ codes "@_0: assume x == 1, x == 2 else %1.@_0 [x = x]" ++ 10 ∷ codes "_0: return x"
      ++ 10 ∷ codes "end" ++ 10 ∷ []
  pub frames : bytes_of (made_instr_pieces function_f example_bodies (codes "a/x" ∷ []) (Assume [] example_frames))
      ≡ codes "assume else f.base._0 [x = a/x], %1.@_0 x []"
