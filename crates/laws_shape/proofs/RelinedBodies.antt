-- A body of a bundle whose lines keep their labels and paths stays one, and so does a bundle.
use Rattle.std.proofs.Common.{◌≡◌, ◌≢◌, ◌≤◌, ℕ, List, [], ◌∷◌, ◌++◌, Contains, refl, sym, ap, subst, ◌∙◌, map}
use Rattle.std.specs.List.{AllByRecursion}
use Rattle.std.proofs.lemmas.List.{length-map}
use Rattle.sour_syntax.specs.declared.instruction.Instr.{Instr}
use Rattle.sour_syntax.specs.declared.instruction.Line.{Line}
use Rattle.sour_syntax.specs.BodyView.{BodyView}
use Rattle.sour_syntax.specs.Jumps.{named_labels}
use Rattle.sour_syntax.specs.Labels.{LabelsDiffer, labels_of, from_label}
use Rattle.sour_syntax.specs.Program.{ProgramView}
use Rattle.sour_syntax.specs.Scopes.{HasScope}
use Rattle.sour_syntax.specs.Terminator.{IsTerminator, EndsInTerminator}
use Rattle.sour_syntax.proofs.Everywhere.{AllByRecursion-weaker}
use Rattle.sour_semantics.specs.Shape.{without_at, BeginsWith, IsFreeFor, HasSomeScope, IsMadeBody}
use Rattle.laws_simulation.specs.Relined.{relined, relined_body}
use Rattle.laws_simulation.proofs.FoundLines.{from_label-found}
use Rattle.laws_shape.specs.Laws.{RelinedIsMade, RelinedHasShape}
use Rattle.laws_shape.specs.MadeLines.{IsMadeLine, IsLined}
use Rattle.laws_shape.specs.Relined.{KeepsPaths, IsMadeChange}
use Rattle.laws_shape.proofs.Between.{each-between, all-between}
use Rattle.laws_shape.proofs.Bundles.{HasShape-last}
use Rattle.laws_shape.proofs.MadeBodies.{made-of-lines, lines-of-made}
use Rattle.laws_shape.proofs.Paths.{one-back}
use Rattle.laws_shape.proofs.RelinedPaths.{relined-back, path-back, path-onward}

module _ (change : List ℕ → Instr → Instr) where
  -- labels stay
  pub labels-relined : (lines : List Line) → labels_of (map (relined change) lines) ≡ labels_of lines
  labels-relined [] = refl
  labels-relined (line ∷ lines) = ap (λ (rest : List (List ℕ)). line.label ∷ rest) (labels-relined lines)

  -- what is said of labels alone
  by-labels : (P : List ℕ → Type 0) (lines : List Line) → AllByRecursion (λ (line : Line). P line.label) lines
      → AllByRecursion (λ (line : Line). P line.label) (map (relined change) lines)
  by-labels P [] all = tt
  by-labels P (line ∷ lines) all = (all.0, by-labels P lines all.1)

  -- labels that differ still do
  differ-relined : (lines : List Line) → LabelsDiffer lines → LabelsDiffer (map (relined change) lines)
  differ-relined [] differ = tt
  differ-relined (line ∷ lines) differ =
      (by-labels (λ label. label ≢ line.label) lines differ.0, differ-relined lines differ.1)

  -- lines that end in a terminator still do
  ends-relined : (lines : List Line) → AllByRecursion
      (λ line. IsTerminator line.instr → IsTerminator (change line.label line.instr)) lines → EndsInTerminator lines
      → EndsInTerminator (map (relined change) lines)
  ends-relined [] keeps end = absurd end
  ends-relined (line ∷ []) keeps end = keeps.0 end
  ends-relined (line ∷ next ∷ lines) keeps end = ends-relined (next ∷ lines) keeps.1 end

  -- what holds of each changed line holds of the lines that are changed
  all-relined : (P : Line → Type 0) (lines : List Line) → AllByRecursion (λ line. P (relined change line)) lines
      → AllByRecursion P (map (relined change) lines)
  all-relined P [] all = tt
  all-relined P (line ∷ lines) all = (all.0, all-relined P lines all.1)

module _ (program : ProgramView) (earlier later : List BodyView) (body : BodyView) (change : List ℕ → Instr → Instr)
    (keeps : KeepsPaths change) where
  -- no name of the changed body begins with such a label
  free-relined : (label : List ℕ) → IsFreeFor body label → IsFreeFor (relined_body change body) label
  free-relined label free = record {
    labels = by-labels change (λ name. ¬ BeginsWith (label ++ 47 ∷ []) (without_at name)) body.lines free.labels;
    variables = free.variables;
  }

  -- a changed line
  line-relined : (line : Line) → IsMadeLine program earlier body line
      → IsMadeChange program later body line.label line.instr (change line.label line.instr)
      → IsMadeLine program later (relined_body change body) (relined change line)
  line-relined line is changed =
      let Names : List (List ℕ) → Type 0 = λ labels. AllByRecursion (Contains labels)
      (named_labels (change line.label line.instr)) in
      record {
        jumps = subst Names (sym (labels-relined change body.lines)) changed.jumps;
        mentions = changed.mentions;
        literals = changed.literals;
        label = record { begins = is.label.begins; anchor = changed.anchor };
        free = λ crosses. free-relined line.label (is.free (changed.call_or_return crosses));
        named = changed.named;
        short = changed.short;
        fine = λ count scope path.
            let old : (steps : ℕ) × HasScope body steps line.label scope =
            path-back change body keeps count line.label scope path in
            changed.fine old.0 scope old.1;
        land = λ count scope path.
            let old : (steps : ℕ) × HasScope body steps line.label scope =
            path-back change body keeps count line.label scope path in
            changed.land old.0 scope old.1;
      }

  -- the body stays one of a bundle, perhaps after other bodies, if each changed line may stand there
  IsMadeBody-relined : IsMadeBody program earlier body
      → AllByRecursion (λ line. IsMadeChange program later body line.label line.instr
      (change line.label line.instr)) body.lines → IsMadeBody program later (relined_body change body)
  IsMadeBody-relined is changed =
      let lined : IsLined program earlier body = lines-of-made program earlier body is in
      made-of-lines program later (relined_body change body)
      (record {
        parameters = lined.parameters;
        labels = differ-relined change body.lines lined.labels;
        end = ends-relined change body.lines
            (AllByRecursion-weaker _ _ (λ line it. it.ends) body.lines changed) lined.end;
        one = one-back body (relined_body change body) (λ label. label) (relined-back change body keeps) lined.one;
        takes = record {
          text = lined.takes.text;
          found = lined.takes.found;
          count = lined.takes.count;
          names =
              lined.takes.names;
        };
        differ = lined.differ;
        few_variables = lined.few_variables;
        each = all-relined change (IsMadeLine program later (relined_body change body)) body.lines
            (each-between (λ line. IsMadeLine program later (relined_body change body)
            (relined change line)) body.lines (λ before line after whole.
            line-relined line (all-between
            (IsMadeLine program earlier body) body.lines before line after whole lined.each)
            (all-between (λ (l : Line). IsMadeChange program later body l.label l.instr
            (change l.label l.instr)) body.lines before line after whole changed)));
      })
      (by-labels change (λ label. HasSomeScope (relined_body change body) label) body.lines
      (AllByRecursion-weaker (λ (line : Line). HasSomeScope body line.label)
      (λ (line : Line). HasSomeScope (relined_body change body) line.label)
      (λ line reached.
      let there : (steps : ℕ) × HasScope (relined_body change body) steps line.label reached.1 =
      path-onward change body keeps reached.0 line.label reached.1 reached.2 in
      (there.0, reached.1, there.1)) body.lines is.scoped))
      (subst (λ (n : ℕ). n ≤ 4096) (sym (length-map body.lines (relined change))) is.lines)

-- a bundle keeps its shape if each line of its top changes to one that may stand there
pub relined_has_shape : RelinedHasShape
relined_has_shape program change view top keeps shape found owes =
    HasShape-last program (relined_body change) view top shape found
    (λ before made. IsMadeBody-relined program before before top change keeps made
    (each-between (λ line. IsMadeChange program before top line.label line.instr
    (change line.label line.instr)) top.lines (λ front line after whole.
    owes before line made (all-between (IsMadeLine program before top) top.lines front line after whole
    (lines-of-made program before top made).each)
    (record {
      rest = after;
      stands = ap (from_label line.label) whole ∙ from_label-found front line after
          (subst LabelsDiffer whole made.is.labels);
      scoped = all-between (λ (l : Line). HasSomeScope top l.label) top.lines front line after whole made.scoped;
    }))))
    refl

-- a body whose lines change alike stays a body of a bundle
pub relined_is_made : RelinedIsMade
relined_is_made program earlier later body change was keeps =
    IsMadeBody-relined program earlier later body change keeps.paths was
    (each-between (λ line. IsMadeChange program later body line.label line.instr
    (change line.label line.instr)) body.lines (λ front line after whole.
    let stands : from_label line.label body.lines ≡ line ∷ after =
    ap (from_label line.label) whole ∙ from_label-found front line after (subst LabelsDiffer whole was.is.labels) in
    record {
      ends = keeps.ends line.label line.instr;
      jumps = subst (AllByRecursion (Contains (labels_of body.lines))) (sym (keeps.names line.label line.instr))
          (all-between _ body.lines front line after whole was.is.jumps);
      mentions = all-between _ body.lines front line after whole keeps.mentions;
      literals = all-between _ body.lines front line after whole keeps.literals;
      anchor = all-between _ body.lines front line after whole keeps.anchors;
      call_or_return = keeps.call_or_return line.label line.instr;
      named = all-between _ body.lines front line after whole keeps.named;
      short = all-between _ body.lines front line after whole keeps.short;
      fine = λ count scope path. keeps.fine count line.label scope line after path (record { stands = stands });
      land = λ count scope path. keeps.land count line.label scope line after path (record { stands = stands });
    }))
