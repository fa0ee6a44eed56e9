use Rattle.std.proofs.Common.{take}
use Rattle.std.specs.List.{AllZip}
use Rattle.sour_syntax.specs.ExitPlaces.{KeepsOfLine}
use Rattle.sour_syntax.proofs.exit_places.places_of_lines.Given as goal

abbrev pub invariant-loop-line : goal.invariant-loop-line
invariant-loop-line l = AllZip (KeepsOfLine l.functions) (take l.line-index l.lines) l.rows
