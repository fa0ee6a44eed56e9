use Rattle.std.proofs.Common.{◌≡◌, ◌++◌, map, take}
use Rattle.std.specs.Arc.{arc_value}
use Rattle.laws_printing.specs.Bundles.{made_line_pieces}
use Rattle.laws_printing.specs.Text.{text_of}
use Rattle.sour_printing.proofs.bodies.put_labelled_lines.Given as goal

abbrev pub invariant-loop-line : goal.invariant-loop-line
invariant-loop-line l =
    l.text.items ≡ l.initial.text.items
    ++ text_of (map (made_line_pieces l.functions (map arc_value l.bodies) l.names) (take l.line-index l.lines))
