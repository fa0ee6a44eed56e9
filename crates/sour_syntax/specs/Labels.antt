use Rattle.std.specs.Prelude.{◌≡◌, ◌≢◌, ℕ, List, [], ◌∷◌, Some, decimal, drop, map, slice_get, if◌then◌else◌}
use Rattle.std.specs.List.{AllByRecursion}
use Rattle.std.specs.Str.{bytes_eq}
use Rattle.sour_syntax.specs.declared.instruction.Line.{Line}

-- the lines from the one with this label on; none where no line has it
abbrev pub from_label : List ℕ → List Line → List Line
from_label label [] = []
from_label label (line ∷ lines) = if bytes_eq line.label label then line ∷ lines else from_label label lines

-- the label of the first line; of no lines it is the empty one, which no line of a text has
abbrev pub first_label : List Line → List ℕ
first_label [] = []
first_label (line ∷ lines) = line.label

-- the label of the line at a place, counted from 0
abbrev pub label_at : List Line → ℕ → List ℕ
label_at lines place = first_label (drop place lines)

-- the labels of the lines, in order
abbrev pub labels_of : List Line → List (List ℕ)
labels_of lines = map (λ (line : Line). line.label) lines

-- the line at this place has this label
abbrev pub IsPlaceOf : List Line → List ℕ → ℕ → Type 0
IsPlaceOf lines label place = slice_get (labels_of lines) place ≡ Some label

-- the label of a line that the text gives none
abbrev pub automatic_label : ℕ → List ℕ
automatic_label place = 95 ∷ decimal place

-- no two lines have the same label
abbrev pub LabelsDiffer : List Line → Type 0
LabelsDiffer [] = Unit {0}
LabelsDiffer (line ∷ lines) = AllByRecursion (λ other. other.label ≢ line.label) lines × LabelsDiffer lines
