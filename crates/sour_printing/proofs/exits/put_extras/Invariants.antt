use Rattle.std.proofs.Common.{◌≡◌, ◌++◌, map, take}
use Rattle.std.specs.Arc.{arc_value}
use Rattle.laws_printing.specs.Pieces.{others_pieces}
use Rattle.laws_printing.specs.Bundles.{made_extra_pieces}
use Rattle.laws_printing.specs.Text.{bytes_of}
use Rattle.sour_printing.proofs.exits.put_extras.Given as goal

abbrev pub invariant-loop-extra : goal.invariant-loop-extra
invariant-loop-extra l =
    l.text.items ≡ l.initial.text.items
    ++ bytes_of (others_pieces (made_extra_pieces l.functions (map arc_value l.bodies) l.names)
    (take l.extra-index l.extras))
