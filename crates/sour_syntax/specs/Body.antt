-- What holds of every body, and what a body keeps beside its parts.
use Rattle.std.specs.Prelude.{◌≡◌, ◌≤◌, ℕ, List, Option, Some, Ok, length, map}
use Rattle.sour_syntax.specs.declared.jump.Jump.{Jump}
use Rattle.sour_syntax.specs.declared.literal.VarId.{VarId}
use Rattle.sour_syntax.specs.BodyView.{BodyView}
use Rattle.sour_syntax.specs.Jumps.{NamesItsLabels, GoTo}
use Rattle.sour_syntax.specs.Labels.{LabelsDiffer, labels_of}
use Rattle.sour_syntax.specs.Scopes.{HasScopes, MentionsItsVariables}
use Rattle.sour_syntax.specs.Spread.{variables_in}
use Rattle.sour_syntax.specs.Taking.{PlaceState, place_scope, taken}
use Rattle.sour_syntax.specs.Terminator.{EndsInTerminator}

pub record IsBody (body : BodyView) : Type 0 where
  pub parameters : body.parameters ≤ length body.variables
  pub labels : LabelsDiffer body.lines
  pub end : EndsInTerminator body.lines
  pub jumps : NamesItsLabels body.lines
  pub mentions : MentionsItsVariables body
  pub scopes : HasScopes body

-- what holds of a body whatever its paths
pub record IsWellFormed (body : BodyView) : Type 0 where
  pub parameters : body.parameters ≤ length body.variables
  pub labels : LabelsDiffer body.lines
  pub end : EndsInTerminator body.lines
  pub jumps : NamesItsLabels body.lines
  pub mentions : MentionsItsVariables body

-- what is kept of the scopes of a body: for each place the variables in scope there, or nothing where it has no scope
pub record KeepsScopes (body : BodyView) (rows : List (Option (List VarId))) : Type 0 where
  pub places : List PlaceState
  pub taken : taken body ≡ Ok places
  pub are : rows ≡ map (λ (place : PlaceState). variables_in (place_scope (Some place))) places

-- what a body keeps beside its parts: the labels by their places, where its jumps go, and its scopes
pub record Keeps (body : BodyView) (names : List (List ℕ)) (jumps : List Jump)
    (rows : List (Option (List VarId))) : Type 0 where
  pub labels : names ≡ labels_of body.lines
  pub goes : GoTo body.lines body.lines jumps
  pub scopes : KeepsScopes body rows
