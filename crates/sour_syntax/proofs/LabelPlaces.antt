-- Places and labels: where the labels of some lines differ, the lines from the label of the one at a place on are the lines from that place on.
use Rattle.std.proofs.Common.{◌≡◌, ◌≢◌, ℕ, zero, suc, ◌+◌, ◌<◌, List, [], ◌∷◌, Bool, true, false, cond, Some, length, drop, refl, sym, ap, ◌∙◌, subst, add-one, arith}
use Rattle.std.specs.List.{AllByRecursion, slice_get}
use Rattle.std.specs.Str.{bytes_eq}
use Rattle.std.proofs.lemmas.Slice.Eq.{bytes_eq-Decides}
use Rattle.sour_syntax.specs.declared.instruction.Line.{Line}
use Rattle.sour_syntax.specs.Terminator.{IsTerminator, EndsInTerminator}
use Rattle.sour_syntax.specs.Labels.{LabelsDiffer, from_label, first_label}

-- no line from a place on has a label that no line has
pub first_label-drop-differs : (label : List ℕ) (lines : List Line) (place : ℕ) → AllByRecursion (λ other. other.label ≢ label) lines → place < length lines → first_label (drop place lines) ≢ label
first_label-drop-differs label [] place differ within = absurd (omega arith)
first_label-drop-differs label (line ∷ lines) zero differ within = differ.0
first_label-drop-differs label (line ∷ lines) (suc place) differ within =
    first_label-drop-differs label lines place differ.1 (omega arith)

-- the first line is taken, or passed over
from_label-first : (label : List ℕ) (line : Line) (lines : List Line) → line.label ≡ label → from_label label (line ∷ lines) ≡ line ∷ lines
from_label-first label line lines same =
    ap (λ test. cond test (line ∷ lines) (from_label label lines)) ((bytes_eq-Decides line.label label).1 same)

-- the test whether two labels are the same fails where they differ
pub tested : (a b : List ℕ) (test : Bool) → bytes_eq a b ≡ test → a ≢ b → test ≡ false
tested a b true is other = absurd (other ((bytes_eq-Decides a b).0 is))
tested a b false is other = refl

-- a first line with another label makes no difference to the lines from the label on
from_label-other : (label : List ℕ) (line : Line) (lines : List Line) → line.label ≢ label → from_label label (line ∷ lines) ≡ from_label label lines
from_label-other label line lines other =
    ap (λ test. cond test (line ∷ lines) (from_label label lines)) (tested line.label label (bytes_eq line.label label) refl other)

-- where labels differ, the lines from the label of the one at a place on are those from that place on
pub from_label-first_label-drop : (lines : List Line) (place : ℕ) → LabelsDiffer lines → place < length lines → from_label (first_label (drop place lines)) lines ≡ drop place lines
from_label-first_label-drop [] place differ within = absurd (omega arith)
from_label-first_label-drop (line ∷ lines) zero differ within = from_label-first line.label line lines refl
from_label-first_label-drop (line ∷ lines) (suc place) differ within =
    let inner : place < length lines = omega arith in
    from_label-other (first_label (drop place lines)) line lines (λ same. first_label-drop-differs line.label lines place differ.0 inner (sym same))
    ∙ from_label-first_label-drop lines place differ.1 inner

-- the lines from a place on are the line there and those behind it
drop-suc : (lines : List Line) (place : ℕ) (line : Line) → slice_get lines place ≡ Some line → drop place lines ≡ line ∷ drop (suc place) lines
drop-suc [] place line found = cc
drop-suc (first ∷ lines) zero line found = let same : first ≡ line = cc in ap (λ it. it ∷ lines) same
drop-suc (first ∷ lines) (suc place) line found = drop-suc lines place line found

-- the lines from a place on begin with the line at that place
pub drop-slice_get : (lines : List Line) (place : ℕ) (line : Line) → slice_get lines place ≡ Some line → drop place lines ≡ line ∷ drop (place + 1) lines
drop-slice_get lines place line found = rw add-one (drop-suc lines place line found)

-- from a place of lines that end in a terminator on they end in one
pub EndsInTerminator-from : (lines : List Line) (place : ℕ) → place < length lines → EndsInTerminator lines → EndsInTerminator (drop place lines)
EndsInTerminator-from [] place within end = absurd end
EndsInTerminator-from (line ∷ lines) zero within end = end
EndsInTerminator-from (line ∷ []) (suc place) within end = absurd (omega arith)
EndsInTerminator-from (line ∷ next ∷ lines) (suc place) within end = EndsInTerminator-from (next ∷ lines) place (omega arith) end

-- there is a line from each place on from which the lines end in a terminator
pub lt-EndsInTerminator : (lines : List Line) (place : ℕ) → EndsInTerminator (drop place lines) → place < length lines
lt-EndsInTerminator [] zero end = absurd end
lt-EndsInTerminator [] (suc place) end = absurd end
lt-EndsInTerminator (line ∷ lines) zero end = omega arith
lt-EndsInTerminator (line ∷ lines) (suc place) end =
    let inner : place < length lines = lt-EndsInTerminator lines place end in omega arith

-- lines that end in a terminator still do without their first, if that one is none
rest_ends : (line : Line) (lines : List Line) → (IsTerminator line.instr → ⊥) → EndsInTerminator (line ∷ lines) → EndsInTerminator lines
rest_ends line [] going end = absurd (going end)
rest_ends line (next ∷ lines) going end = end

-- behind a line that is no terminator the lines go on, and end in a terminator
pub EndsInTerminator-next : (lines : List Line) (place : ℕ) (line : Line) → slice_get lines place ≡ Some line → (IsTerminator line.instr → ⊥) → EndsInTerminator (drop place lines) → EndsInTerminator (drop (place + 1) lines)
EndsInTerminator-next lines place line found going end =
    let P : List Line → Type 0 = EndsInTerminator in
    rest_ends line (drop (place + 1) lines) going (subst P (drop-slice_get lines place line found) end)
