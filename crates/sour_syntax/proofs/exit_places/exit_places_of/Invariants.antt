use Rattle.std.proofs.Common.{take}
use Rattle.std.specs.List.{AllZip}
use Rattle.sour_syntax.specs.ExitPlaces.{KeepsOfFunction}
use Rattle.sour_syntax.proofs.exit_places.exit_places_of.Given as goal

abbrev pub invariant-loop-function : goal.invariant-loop-function
invariant-loop-function l = AllZip (KeepsOfFunction l.functions) (take l.function-index l.functions) l.rows
