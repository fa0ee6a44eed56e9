-- The paths of one body are those of another.
use Rattle.std.proofs.Common.{◌≡◌, ℕ, zero, suc, List, sym, ap, subst, ◌∙◌}
use Rattle.sour_syntax.specs.declared.instruction.Line.{Line}
use Rattle.sour_syntax.specs.BodyView.{BodyView}
use Rattle.sour_syntax.specs.Scopes.{Scope, HasScope, scope_after}
use Rattle.laws_shape.specs.Paths.{PathGoesOn, stays, goes_on, PathsBack, PathsOnward}

module _ (old new : BodyView) where
  -- a step of a path of the new body
  goes-back : (stand : List ℕ → List ℕ) (from label : List ℕ) (before scope : Scope) (line : Line) (count : ℕ)
      → PathGoesOn old stand from label before line → HasScope old count (stand from) before
      → scope ≡ scope_after line.instr before → (steps : ℕ) × HasScope old steps (stand label) scope
  goes-back stand from label before scope line count (stays same after) path is =
      let At : List ℕ → Type 0 = λ l. HasScope old count l before in
      (count, subst (HasScope old count (stand label)) (sym (is ∙ after)) (subst At (sym same) path))
  goes-back stand from label before scope line count (goes_on was rest stands follows after) path is =
      let further : HasScope old (suc count) (stand label) scope =
      (stand from, before, was, rest, path, record { stands = stands }, follows, is ∙ after) in
      (suc count, further)

  -- a path of the new body is one of the old
  pub paths-back : (stand : List ℕ → List ℕ) → PathsBack old new stand → (count : ℕ) (label : List ℕ) (scope : Scope)
      → HasScope new count label scope → (steps : ℕ) × HasScope old steps (stand label) scope
  paths-back stand owed zero label scope path = (0, (ap stand path.0 ∙ owed.first, path.1 ∙ owed.scope))
  paths-back stand owed (suc count) label scope (from, before, line, rest, path, here, contains, same) =
      let inner : (steps : ℕ) × HasScope old steps (stand from) before = paths-back stand owed count from before path in
      goes-back stand from label before scope line inner.0
      (owed.steps from label before line rest inner.0 here.stands inner.1 contains) inner.1 same

  -- so each label has one scope if each label of the old body has
  pub one-back : (stand : List ℕ → List ℕ) → PathsBack old new stand
      → ((m n : ℕ) (label : List ℕ) (scope other : Scope) → HasScope old m label scope → HasScope old n label other
      → scope ≡ other)
      → (m n : ℕ) (label : List ℕ) (scope other : Scope) → HasScope new m label scope → HasScope new n label other
      → scope ≡ other
  one-back stand owed one m n label scope other path another =
      let first : (steps : ℕ) × HasScope old steps (stand label) scope = paths-back stand owed m label scope path in
      let second : (steps : ℕ) × HasScope old steps (stand label) other = paths-back stand owed n label other another in
      one first.0 second.0 (stand label) scope other first.1 second.1

  -- a path of the old body is one of the new
  pub paths-onward : (enter : List ℕ → List ℕ) → PathsOnward old new enter
      → (count : ℕ) (label : List ℕ) (scope : Scope) → HasScope old count label scope
      → (steps : ℕ) × HasScope new steps (enter label) scope
  paths-onward enter owed zero label scope path = (0, (ap enter path.0 ∙ owed.first, path.1 ∙ owed.scope))
  paths-onward enter owed (suc count) label scope (from, before, line, rest, path, here, contains, same) =
      let inner : (steps : ℕ) × HasScope new steps (enter from) before =
      paths-onward enter owed count from before path in
      let further : (steps : ℕ) × HasScope new steps (enter label) (scope_after line.instr before) =
      owed.steps from label before line rest count inner.0 here.stands path contains inner.1 in
      (further.0, subst (HasScope new further.0 (enter label)) (sym same) further.1)
