use Rattle.std.proofs.Common.{◌≡◌, ◌++◌, map, take}
use Rattle.std.specs.Arc.{arc_value}
use Rattle.sour_printing.proofs.Blocks.{bodies_text}
use Rattle.sour_printing.proofs.bodies.put_bodies.Given as goal

abbrev pub invariant-loop-place : goal.invariant-loop-place
invariant-loop-place l =
    l.text.items ≡ l.initial.text.items
    ++ bodies_text l.functions (map arc_value l.bodies) 1 (take l.place (map arc_value l.bodies))
