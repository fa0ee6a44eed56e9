-- Lines of a body whose lines keep their labels.
use Rattle.std.proofs.Common.{◌≡◌, ℕ, List, [], ◌∷◌, Bool, true, false, cond, refl, sym, ap, ◌∙◌, map}
use Rattle.std.specs.Str.{bytes_eq}
use Rattle.sour_syntax.specs.declared.instruction.Instr.{Instr}
use Rattle.sour_syntax.specs.declared.instruction.Line.{Line}
use Rattle.sour_syntax.specs.Labels.{from_label, first_label}
use Rattle.laws_simulation.specs.Relined.{relined, WasLine}

-- the test whether a line has the label goes by old lines alike
relined-cond : (change : List ℕ → Instr → Instr) (b : Bool) (xs ys : List Line)
    → cond b (map (relined change) xs) (map (relined change) ys) ≡ map (relined change) (cond b xs ys)
relined-cond change true xs ys = refl
relined-cond change false xs ys = refl

-- the changed lines from a label on are the old ones from there on, changed
pub from_label-relined : (change : List ℕ → Instr → Instr) (label : List ℕ) (lines : List Line)
    → from_label label (map (relined change) lines) ≡ map (relined change) (from_label label lines)
from_label-relined change label [] = refl
from_label-relined change label (line ∷ lines) =
    ap (λ rest. cond (bytes_eq line.label label) (relined change line ∷ map (relined change) lines) rest)
    (from_label-relined change label lines)
    ∙ relined-cond change (bytes_eq line.label label) (line ∷ lines) (from_label label lines)

-- the first label stays
pub first_label-relined : (change : List ℕ → Instr → Instr) (lines : List Line)
    → first_label (map (relined change) lines) ≡ first_label lines
first_label-relined change [] = refl
first_label-relined change (line ∷ lines) = refl

-- the old line at a label, by what the old lines from it on are
was-line-by : (change : List ℕ → Instr → Instr) (lines left : List Line) (label : List ℕ) (line : Line)
    (rest : List Line) → from_label label lines ≡ left
    → map (relined change) left ≡ line ∷ rest → WasLine change lines label line rest
was-line-by change lines [] label line rest there same = absurd (cc)
was-line-by change lines (old ∷ others) label line rest there same = record {
  old = old;
  others = others;
  stands = there;
  same = (let first : relined change old ≡ line = cc in first);
  same_rest = (let second : map (relined change) others ≡ rest = cc in second);
}

-- the line at a label was made of an old one
pub was-line : (change : List ℕ → Instr → Instr) (lines : List Line) (label : List ℕ) (line : Line) (rest : List Line)
    → from_label label (map (relined change) lines) ≡ line ∷ rest → WasLine change lines label line rest
was-line change lines label line rest stands =
    was-line-by change lines (from_label label lines) label line rest refl
    (sym (from_label-relined change label lines) ∙ stands)
