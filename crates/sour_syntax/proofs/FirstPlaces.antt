-- The first place of a label among those of some lines.
use Rattle.std.proofs.Common.{◌≡◌, ◌≢◌, ◌+◌, ◌<◌, ℕ, zero, suc, Bool, true, false, not, cond, List, [], ◌∷◌, Some, Contains, length, drop, refl, sym, ap, ◌∙◌, subst, arith}
use Rattle.std.specs.Prelude.{slice_get}
use Rattle.std.specs.List.{position_or_len}
use Rattle.std.specs.Str.{bytes_eq}
use Rattle.std.proofs.lemmas.Slice.Eq.{bytes_eq-Decides}
use Rattle.sour_syntax.specs.declared.instruction.Line.{Line}
use Rattle.sour_syntax.specs.Labels.{LabelsDiffer, labels_of, from_label, label_at}
use Rattle.sour_syntax.proofs.LabelPlaces.{first_label-drop-differs, tested}
use Rattle.sour_syntax.proofs.Following.{label_at-IsPlaceOf, IsPlaceOf-within}

-- the first place of a label among these; how many there are, where it is none of them
abbrev pub first_place : List (List ℕ) → List ℕ → ℕ
first_place labels label = position_or_len (bytes_eq label) labels

-- two tests that decide the same
from_step : (a b : Bool) (line : Line) (lines : List Line) (place : ℕ) (rest : List Line) → (a ≡ true → b ≡ true)
    → (b ≡ true → a ≡ true) → rest ≡ drop place lines
    → cond a (line ∷ lines) rest ≡ drop (cond (not b) (1 + place) 0) (line ∷ lines)
from_step true true line lines place rest there back is = refl
from_step true false line lines place rest there back is = let wrong = there refl in absurd (cc)
from_step false true line lines place rest there back is = let wrong = back refl in absurd (cc)
from_step false false line lines place rest there back is =
    let next : suc place ≡ 1 + place = omega arith in is ∙ ap (λ n. drop n (line ∷ lines)) next

-- the lines from a label on are those from its first place on
pub from_label-drop : (label : List ℕ) (lines : List Line)
    → from_label label lines ≡ drop (first_place (labels_of lines) label) lines
from_label-drop label [] = refl
from_label-drop label (line ∷ lines) =
    from_step (bytes_eq line.label label) (bytes_eq label line.label) line lines (first_place (labels_of lines) label)
    (from_label label lines)
    (λ is. (bytes_eq-Decides label line.label).1 (sym ((bytes_eq-Decides line.label label).0 is)))
    (λ is. (bytes_eq-Decides line.label label).1 (sym ((bytes_eq-Decides label line.label).0 is)))
    (from_label-drop label lines)

-- a label that is found at once, or further on
place_step : (first : List ℕ) (labels : List (List ℕ)) (label : List ℕ) (test : Bool) → bytes_eq label first ≡ test
    → Contains (first ∷ labels) label
    → (Contains labels label → slice_get labels (first_place labels label) ≡ Some label)
    → slice_get (first ∷ labels) (cond (not test) (1 + first_place labels label) 0) ≡ Some label
place_step first labels label true is there later = ap Some (sym ((bytes_eq-Decides label first).0 is))
place_step first labels label false is (zero, within, same) later =
    let equal : bytes_eq label first ≡ true = (bytes_eq-Decides label first).1 (sym same) in absurd (cc)
place_step first labels label false is (suc place, within, same) later =
    let next : suc (first_place labels label) ≡ 1 + first_place labels label = omega arith in
    subst (λ n. slice_get (first ∷ labels) n ≡ Some label) next (later (place, omega arith, same))

-- a label that is one of these stands at its first place
pub first_place-slice_get : (labels : List (List ℕ)) (label : List ℕ) → Contains labels label
    → slice_get labels (first_place labels label) ≡ Some label
first_place-slice_get [] label (place, within, same) = absurd (omega arith)
first_place-slice_get (first ∷ labels) label there =
    place_step first labels label (bytes_eq label first) refl there (first_place-slice_get labels label)

-- the line there has it
pub label_at-first_place : (lines : List Line) (label : List ℕ) → Contains (labels_of lines) label
    → label_at lines (first_place (labels_of lines) label) ≡ label
label_at-first_place lines label there = label_at-IsPlaceOf lines label (first_place (labels_of lines) label)
    (first_place-slice_get (labels_of lines) label there)

-- and the place is that of a line
pub first_place-within : (lines : List Line) (label : List ℕ) → Contains (labels_of lines) label
    → first_place (labels_of lines) label < length lines
first_place-within lines label there = IsPlaceOf-within lines label (first_place (labels_of lines) label)
    (first_place-slice_get (labels_of lines) label there)

-- a first label is found at once, and another one isn't
pub first_place-here : (first label : List ℕ) (labels : List (List ℕ)) → label ≡ first
    → first_place (first ∷ labels) label ≡ 0
first_place-here first label labels same =
    ap (λ test. cond (not test) (1 + first_place labels label) 0) ((bytes_eq-Decides label first).1 same)

first_place-later : (first label : List ℕ) (labels : List (List ℕ)) → label ≢ first
    → first_place (first ∷ labels) label ≡ 1 + first_place labels label
first_place-later first label labels other =
    ap (λ test. cond (not test) (1 + first_place labels label) 0) (tested label first (bytes_eq label first) refl other)

-- where labels differ, that of the line at a place has this place as its first
pub first_place-label_at : (lines : List Line) (place : ℕ) → LabelsDiffer lines → place < length lines
    → first_place (labels_of lines) (label_at lines place) ≡ place
first_place-label_at [] place differ within = absurd (omega arith)
first_place-label_at (line ∷ lines) zero differ within = first_place-here line.label line.label (labels_of lines) refl
first_place-label_at (line ∷ lines) (suc place) differ within =
    let inner : place < length lines = omega arith in
    first_place-later line.label (label_at lines place) (labels_of lines)
    (first_label-drop-differs line.label lines place differ.0 inner)
    ∙ ap (λ n. 1 + n) (first_place-label_at lines place differ.1 inner) ∙ omega arith
