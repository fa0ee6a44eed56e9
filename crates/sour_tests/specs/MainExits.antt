-- Exits of the tests, which lead to the first line of main.
use Rattle.std.specs.Prelude.{◌≡◌, ◌<◌, ℕ, List, [], ◌∷◌, Some, length, Contains}
use Rattle.std.specs.List.{AllByRecursion}
use Rattle.sour_syntax.specs.declared.exit.Code.TheVariants.{Text}
use Rattle.sour_syntax.specs.declared.exit.Exit.{Exit}
use Rattle.sour_syntax.specs.declared.exit.Extra.{Extra}
use Rattle.sour_syntax.specs.declared.exit.Target.{Target}
use Rattle.sour_syntax.specs.declared.expression.Expr.{Expr}
use Rattle.sour_syntax.specs.declared.literal.VarId.{VarId}
use Rattle.sour_syntax.specs.declared.program.Function.{Function}
use Rattle.sour_syntax.specs.BodyView.{BodyView}
use Rattle.sour_syntax.specs.Labels.{labels_of}
use Rattle.sour_syntax.specs.Scopes.{variables_of_expr}
use Rattle.sour_syntax.specs.Targets.{named_body}

-- the label of its first line: a
abbrev pub main_start : List ℕ
main_start = 97 ∷ []

-- its first line
abbrev pub main_target : Target
main_target = record { code = Text (record { 0 = 0 }) 0; label = main_start }

-- the first version of the first function has this line, and two variables
pub record HasStart (functions : List Function) : Type 0 where
  pub body : BodyView
  pub found : named_body functions [] main_target.code ≡ Some body
  pub label : Contains (labels_of body.lines) main_start
  pub variables : length body.variables ≡ 2

-- an expression of these two variables
abbrev pub IsOfTwo : Expr → Type 0
IsOfTwo e = AllByRecursion (λ (x : VarId). x.0 < 2) (variables_of_expr e)

-- a further frame in which a variable gets this value
abbrev pub main_extra : VarId → VarId → Expr → Extra
main_extra waits name value = record { target = main_target; result = waits; map = record { name = name; value = value } ∷ [] }

-- an exit in whose first two frames the second variable gets these values, and in the third the first one
abbrev pub main_exit : Expr → Expr → Expr → Exit
main_exit first second third = record {
  target = main_target;
  map = record { name = record { 0 = 1 }; value = first } ∷ [];
  extras = main_extra (record { 0 = 0 }) (record { 0 = 1 }) second ∷ main_extra (record { 0 = 1 }) (record { 0 = 0 }) third ∷ [];
}
