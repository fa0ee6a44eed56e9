-- When the paths of one body are those of another.
use Rattle.std.specs.Prelude.{◌≡◌, ℕ, List, ◌∷◌, Contains}
use Rattle.sour_syntax.specs.declared.instruction.Line.{Line}
use Rattle.sour_syntax.specs.BodyView.{BodyView}
use Rattle.sour_syntax.specs.Labels.{from_label, first_label}
use Rattle.sour_syntax.specs.Scopes.{Scope, HasScope, first_scope, following_labels, scope_after}

-- after a line of the new body a path stays at the label for which both labels stand, or goes on as in the old body
pub data PathGoesOn (old : BodyView) (stand : List ℕ → List ℕ) (from label : List ℕ) (before : Scope)
    (line : Line) : Type 0 where
  stays : stand label ≡ stand from → scope_after line.instr before ≡ before
      → PathGoesOn old stand from label before line
  goes_on : (was : Line) (rest : List Line) → from_label (stand from) old.lines ≡ was ∷ rest
      → Contains (following_labels was.instr (first_label rest)) (stand label)
      → scope_after line.instr before ≡ scope_after was.instr before → PathGoesOn old stand from label before line

-- what is owed that each path of the new body is one of the old, to the label for which its label stands
pub record PathsBack (old new : BodyView) (stand : List ℕ → List ℕ) : Type 0 where
  pub first : stand (first_label new.lines) ≡ first_label old.lines
  pub scope : first_scope new ≡ first_scope old
  pub steps : (from label : List ℕ) (before : Scope) (line : Line) (rest : List Line) (count : ℕ)
      → from_label from new.lines ≡ line ∷ rest
      → HasScope old count (stand from) before → Contains (following_labels line.instr (first_label rest)) label
      → PathGoesOn old stand from label before line

-- what is owed that each path of the old body is one of the new, to the label at which the new one enters its label
pub record PathsOnward (old new : BodyView) (enter : List ℕ → List ℕ) : Type 0 where
  pub first : enter (first_label old.lines) ≡ first_label new.lines
  pub scope : first_scope old ≡ first_scope new
  pub steps : (from label : List ℕ) (before : Scope) (line : Line) (rest : List Line) (count inner : ℕ)
      → from_label from old.lines ≡ line ∷ rest → HasScope old count from before
      → Contains (following_labels line.instr (first_label rest)) label → HasScope new inner (enter from) before
      → (further : ℕ) × HasScope new further (enter label) (scope_after line.instr before)
