-- What exits name among other bodies, and bodies of a bundle under other numbers.
use Rattle.std.specs.Prelude.{◌≡◌, ℕ, List, Some}
use Rattle.std.specs.List.{AllByRecursion}
use Rattle.sour_syntax.specs.declared.exit.Code.{Code}
use Rattle.sour_syntax.specs.declared.exit.Code.TheVariants.{Text, Made}
use Rattle.sour_syntax.specs.declared.program.Function.{Function}
use Rattle.sour_syntax.specs.BodyView.{BodyView}
use Rattle.sour_syntax.specs.Exits.{continuations_of}
use Rattle.sour_syntax.specs.Labels.{labels_of}
use Rattle.sour_syntax.specs.Scopes.{Scope, HasScope}
use Rattle.sour_syntax.specs.Targets.{made_body, named_body}
use Rattle.laws_simulation.specs.Renumbered.{renumbered_body}

-- what a code names among these bodies has the labels, the variables and the paths of a body
pub record HasLike (functions : List Function) (bodies : List BodyView) (code : Code) (body : BodyView) : Type 0 where
  pub there : BodyView
  pub found : named_body functions bodies code ≡ Some there
  pub labels : labels_of body.lines ≡ labels_of there.lines
  pub variables : body.variables ≡ there.variables
  pub path : (count : ℕ) (label : List ℕ) (scope : Scope) → HasScope body count label scope
      → (steps : ℕ) × HasScope there steps label scope

-- the body that the first of these bodies have under a number, if they have one, the others have under the new number
abbrev pub IsRenumbered : (ℕ → ℕ) → List BodyView → List BodyView → Code → Type 0
IsRenumbered numbers earlier later (Text f version) = Unit {0}
IsRenumbered numbers earlier later (Made number) = (body : BodyView)
    → made_body earlier number ≡ Some body → made_body later (numbers number) ≡ Some (renumbered_body numbers body)

-- so it is for each body to which an exit of a body leads
abbrev pub AreRenumbered : (ℕ → ℕ) → List BodyView → List BodyView → BodyView → Type 0
AreRenumbered numbers earlier later body =
    AllByRecursion (λ line. AllByRecursion (λ continuation. IsRenumbered numbers earlier later continuation.target.code)
    (continuations_of line.instr)) body.lines
