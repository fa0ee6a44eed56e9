-- Whether lines have a label, or the anchor before it.
use Rattle.std.specs.Prelude.{◌&&◌, ◌||◌, ℕ, List, [], ◌∷◌, Bool, false, not}
use Rattle.std.specs.Str.{bytes_eq}
use Rattle.sour_syntax.specs.declared.instruction.Line.{Line}

-- whether some line has the label
abbrev pub has_line : List Line → List ℕ → Bool
has_line [] label = false
has_line (line ∷ lines) label = bytes_eq line.label label || has_line lines label

-- the label of the anchor before the line with this label
abbrev pub anchor_of : List ℕ → List ℕ
anchor_of label = 64 ∷ label

-- whether neither the line nor its anchor is there
abbrev pub has_no_label : List Line → List ℕ → Bool
has_no_label lines label = not (has_line lines (anchor_of label)) && not (has_line lines label)
