-- Lines that are found by their labels.
use Rattle.std.proofs.Common.{◌≡◌, List, [], ◌∷◌, ◌++◌, cond, refl, sym, ap, ◌∙◌}
use Rattle.std.specs.Str.{bytes_eq}
use Rattle.std.proofs.lemmas.Slice.Eq.{bytes_eq-Decides}
use Rattle.sour_syntax.specs.declared.instruction.Line.{Line}
use Rattle.sour_syntax.specs.Labels.{LabelsDiffer, from_label}
use Rattle.sour_syntax.proofs.Everywhere.{AllByRecursion-parts}
use Rattle.sour_syntax.proofs.LabelPlaces.{tested}

-- if labels differ, a line is found by its label
pub from_label-found : (before : List Line) (line : Line) (after : List Line) → LabelsDiffer (before ++ line ∷ after)
    → from_label line.label (before ++ line ∷ after) ≡ line ∷ after
from_label-found [] line after differ =
    ap (λ test. cond test (line ∷ after) (from_label line.label after))
    ((bytes_eq-Decides line.label line.label).1 refl)
from_label-found (x ∷ before) line after differ =
    ap (λ test. cond test (x ∷ before ++ line ∷ after) (from_label line.label (before ++ line ∷ after)))
    (tested x.label line.label (bytes_eq x.label line.label) refl
    (λ same. (AllByRecursion-parts (λ (other : Line). ¬ (other.label ≡ x.label)) before (line ∷ after) differ.0).1.0
    (sym same)))
    ∙ from_label-found before line after differ.1
