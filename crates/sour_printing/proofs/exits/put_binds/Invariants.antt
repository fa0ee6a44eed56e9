use Rattle.std.proofs.Common.{◌≡◌, ◌++◌, map, take}
use Rattle.std.specs.Arc.{arc_value}
use Rattle.laws_printing.specs.Named.{code_variables, raw_map}
use Rattle.laws_printing.specs.Pieces.{others_pieces, bind_pieces}
use Rattle.laws_printing.specs.Text.{bytes_of}
use Rattle.sour_printing.proofs.exits.put_binds.Given as goal

abbrev pub invariant-loop-bind : goal.invariant-loop-bind
invariant-loop-bind l =
    l.text.items ≡ l.initial.text.items
    ++ bytes_of (others_pieces bind_pieces
    (raw_map l.functions (code_variables l.functions (map arc_value l.bodies) l.code) l.names
    (take l.bind-index l.others)))
