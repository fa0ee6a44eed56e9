use Rattle.std.proofs.Common.{◌≡◌, ◌++◌, take}
use Rattle.laws_printing.specs.Pieces.{listed_pieces, parameter_pieces}
use Rattle.laws_printing.specs.Text.{bytes_of}
use Rattle.sour_printing.proofs.functions.put_names.Given as goal

abbrev pub invariant-loop-x : goal.invariant-loop-x
invariant-loop-x l = l.text.items ≡ l.fn.text.items ++ bytes_of (listed_pieces parameter_pieces (take l.x l.names))
