-- The paths of a body whose lines keep their labels.
use Rattle.std.proofs.Common.{◌≡◌, ℕ, suc, List, ◌∷◌, Contains, refl, sym, ap, subst, ◌∙◌, map}
use Rattle.sour_syntax.specs.declared.exit.Exit.{Exit}
use Rattle.sour_syntax.specs.declared.expression.Expr.{Expr}
use Rattle.sour_syntax.specs.declared.instruction.Instr.{Instr}
use Rattle.sour_syntax.specs.declared.instruction.Line.{Line}
use Rattle.sour_syntax.specs.BodyView.{BodyView}
use Rattle.sour_syntax.specs.Labels.{from_label, first_label}
use Rattle.sour_syntax.specs.Scopes.{Scope, HasScope, scope_after, following_labels}
use Rattle.laws_simulation.specs.Instructions.{with_assume, changed_at}
use Rattle.laws_simulation.specs.Relined.{relined, relined_body, WasLine}
use Rattle.laws_simulation.proofs.Instructions.{assume-cases, changed_at-cases}
use Rattle.laws_simulation.proofs.Relined.{from_label-relined, first_label-relined, was-line}
use Rattle.laws_shape.specs.Paths.{PathGoesOn, goes_on, PathsBack, PathsOnward}
use Rattle.laws_shape.specs.Relined.{KeepsPaths}
use Rattle.laws_shape.proofs.Paths.{paths-back, paths-onward}

module _ (change : List ℕ → Instr → Instr) (body : BodyView) (keeps : KeepsPaths change) where
  -- after a changed line a path goes on as after the old one
  step-back : (from label : List ℕ) (before : Scope) (line : Line) (rest : List Line)
      → from_label from (relined_body change body).lines ≡ line ∷ rest
      → Contains (following_labels line.instr (first_label rest)) label
      → PathGoesOn body (λ l. l) from label before line
  step-back from label before line rest stands contains =
      let was : WasLine change body.lines from line rest = was-line change body.lines from line rest stands in
      let Labels : List (List ℕ) → Type 0 = λ labels. Contains labels label in
      let next : first_label rest ≡ first_label was.others = ap first_label (sym was.same_rest)
      ∙ first_label-relined change was.others in
      let following : following_labels line.instr (first_label rest)
      ≡ following_labels was.old.instr (first_label was.others) =
      ap (λ (l : Line). following_labels l.instr (first_label rest)) (sym was.same)
      ∙ keeps.follows was.old.label was.old.instr (first_label rest)
      ∙ ap (following_labels was.old.instr) next in
      goes_on was.old was.others was.stands (subst Labels following contains)
      (ap (λ (l : Line). scope_after l.instr before) (sym was.same) ∙ keeps.after was.old.label was.old.instr before)

  -- so the paths of the changed body are those of the old one
  pub relined-back : PathsBack body (relined_body change body) (λ l. l)
  relined-back = record {
    first = first_label-relined change body.lines;
    scope = refl;
    steps =
        λ from label before line rest count stands path contains. step-back from label before line rest stands contains;
  }

  -- and the other way round
  relined-onward : PathsOnward body (relined_body change body) (λ l. l)
  relined-onward = record {
    first = sym (first_label-relined change body.lines);
    scope = refl;
    steps = λ from label before line rest count inner stands path contains there.
        let Labels : List (List ℕ) → Type 0 = λ labels. Contains labels label in
        let following : following_labels line.instr (first_label rest)
        ≡ following_labels (change line.label line.instr) (first_label (map (relined change) rest)) =
        ap (following_labels line.instr) (sym (first_label-relined change rest))
        ∙ sym (keeps.follows line.label line.instr (first_label (map (relined change) rest))) in
        let further : HasScope (relined_body change body) (suc inner) label (scope_after line.instr before) = (
          from,
          before,
          relined change line,
          map (relined change) rest,
          there,
          record { stands = from_label-relined change from body.lines ∙ ap (map (relined change)) stands },
          subst Labels following contains,
          sym (keeps.after line.label line.instr before),
        ) in
        (suc inner, further);
  }

  -- a path of the changed body is one of the old
  pub path-back : (count : ℕ) (label : List ℕ) (scope : Scope) → HasScope (relined_body change body) count label scope
      → (steps : ℕ) × HasScope body steps label scope
  path-back = paths-back body (relined_body change body) (λ l. l) relined-back

  -- a path of the old body is one of the changed
  pub path-onward : (count : ℕ) (label : List ℕ) (scope : Scope) → HasScope body count label scope
      → (steps : ℕ) × HasScope (relined_body change body) steps label scope
  path-onward = paths-onward body (relined_body change body) (λ l. l) relined-onward

module _ (predicates : List Expr → List Expr) (exits : Exit → Exit) where
  -- an assume goes on to the next line and makes nothing of a scope, so paths stay if all assumes change
  pub KeepsPaths-assumes : KeepsPaths (λ label. with_assume predicates exits)
  KeepsPaths-assumes = record {
    follows = λ label instr next. assume-cases (λ old new. following_labels new next ≡ following_labels old next)
        predicates exits (λ same none. refl) (λ es exit. refl) instr;
    after =
        λ label instr scope. assume-cases (λ old new. scope_after new scope ≡ scope_after old scope) predicates exits
        (λ same none. refl) (λ es exit. refl) instr;
  }

  -- so they do if the one at a label changes
  pub KeepsPaths-assume : (at : List ℕ) → KeepsPaths (changed_at at (with_assume predicates exits))
  KeepsPaths-assume at = record {
    follows = λ label instr next. changed_at-cases (λ old new. following_labels new next ≡ following_labels old next) at
        (with_assume predicates exits) label instr refl (λ here. KeepsPaths-assumes.follows label instr next);
    after = λ label instr scope. changed_at-cases (λ old new. scope_after new scope ≡ scope_after old scope) at
        (with_assume predicates exits) label instr refl (λ here. KeepsPaths-assumes.after label instr scope);
  }
