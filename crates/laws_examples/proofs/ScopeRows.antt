-- A body has the scopes that a list tells, one for each line, if they go from line to line.
use Rattle.std.proofs.Common.{◌≡◌, ℕ, zero, suc, List, [], ◌∷◌, Bool, true, false, Option, None, Some, cond}
use Rattle.std.proofs.Common.{sym, ◌∙◌, subst}
use Rattle.std.specs.List.{AllByRecursion}
use Rattle.std.specs.Str.{bytes_eq}
use Rattle.std.proofs.lemmas.List.Elements.{All-from_recursion, All-contains}
use Rattle.std.proofs.lemmas.Option.{same_Some}
use Rattle.sour_syntax.specs.declared.instruction.Line.{Line}
use Rattle.sour_syntax.specs.BodyView.{BodyView}
use Rattle.sour_syntax.specs.Labels.{from_label, first_label}
use Rattle.sour_syntax.specs.Scopes.{Scope, following_labels, scope_after, first_scope, IsLineAt}
use Rattle.sour_syntax.specs.Scopes.{HasScope, IsFine, HasScopes}

-- for each line its scope, or nothing where no path leads there
abbrev pub Rows : Type 0
Rows = List (Option Scope)

-- what a list that has an entry for each line tells of a label: its scope, or that no path leads there
abbrev pub row_of : List Line → Rows → List ℕ → Option Scope
row_of [] rows label = None
row_of (line ∷ lines) [] label = None
row_of (line ∷ lines) (row ∷ rows) label = cond (bytes_eq line.label label) row (row_of lines rows label)

-- what the list tells of each label
module _ (told : List ℕ → Option Scope) where
  -- the first line may stand in this scope, and of each label that may follow it the scope after it is told
  abbrev pub GoesOn : List Line → Option Scope → Type 0
  GoesOn lines None = Unit {0}
  GoesOn [] (Some scope) = Unit {0}
  GoesOn (line ∷ lines) (Some scope) =
      IsFine line.instr scope
      × AllByRecursion (λ label. told label ≡ Some (scope_after line.instr scope))
      (following_labels line.instr (first_label lines))

  -- so it is for each line
  abbrev pub GoOn : List Line → Rows → Type 0
  GoOn [] rows = Unit {0}
  GoOn (line ∷ lines) [] = Unit {0}
  GoOn (line ∷ lines) (row ∷ rows) = GoesOn (line ∷ lines) row × GoOn lines rows

  -- and so for the one of two that a test chooses
  goes_on-chosen : (test : Bool) (lines others : List Line) (row other : Option Scope) → GoesOn lines row
      → GoesOn others other → GoesOn (cond test lines others) (cond test row other)
  goes_on-chosen true lines others row other first second = first
  goes_on-chosen false lines others row other first second = second

  -- and so for the line at a label
  goes_on-at : (lines : List Line) (rows : Rows) (label : List ℕ) → GoOn lines rows
      → GoesOn (from_label label lines) (row_of lines rows label)
  goes_on-at [] rows label all = tt
  goes_on-at (line ∷ lines) [] label all = tt
  goes_on-at (line ∷ lines) (row ∷ rows) label all =
      goes_on-chosen (bytes_eq line.label label) (line ∷ lines) (from_label label lines) row (row_of lines rows label)
      all.0 (goes_on-at lines rows label all.1)

-- of a body the scope of the first line is told, and each line goes on as is told
module _ (body : BodyView) (rows : Rows)
    (first : row_of body.lines rows (first_label body.lines) ≡ Some (first_scope body))
    (all : GoOn (row_of body.lines rows) body.lines rows) where
  -- what the list tells of a label of the body
  abbrev told : List ℕ → Option Scope
  told = row_of body.lines rows

  -- so the line at a label goes on from the scope that is told of it
  goes_on : (label : List ℕ) (scope : Scope) (line : Line) (rest : List Line) → IsLineAt body label line rest
      → told label ≡ Some scope → GoesOn told (line ∷ rest) (Some scope)
  goes_on label scope line rest at is =
      subst (GoesOn told (line ∷ rest)) is
      (subst (λ (lines : List Line). GoesOn told lines (told label)) at.stands
      (goes_on-at told body.lines rows label all))

  -- if a path leads to a label, its scope is told
  pub scope_told : (count : ℕ) (label : List ℕ) (scope : Scope) → HasScope body count label scope
      → told label ≡ Some scope
  scope_told zero label scope (here, is) =
      subst (λ (name : List ℕ). told name ≡ Some scope) (sym here)
      (subst (λ (other : Scope). told (first_label body.lines) ≡ Some other) (sym is) first)
  scope_told (suc count) label scope (from, before, line, rest, path, at, follows, is) =
      let Told : List ℕ → Type 0 = λ name. told name ≡ Some (scope_after line.instr before) in
      let names = following_labels line.instr (first_label rest) in
      let onward = goes_on from before line rest at (scope_told count from before path) in
      subst (λ (other : Scope). told label ≡ Some other) (sym is)
      (All-contains Told names label (All-from_recursion Told names onward.1) follows)

  -- and so the body has scopes
  pub HasScopes-told : HasScopes body
  HasScopes-told = record {
    one = λ m n label scope other path also.
        same_Some scope other (sym (scope_told m label scope path) ∙ scope_told n label other also);
    fine = λ count label scope line rest path at.
        (goes_on label scope line rest at (scope_told count label scope path)).0;
  }
