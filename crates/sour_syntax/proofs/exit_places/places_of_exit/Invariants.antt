use Rattle.std.proofs.Common.{◌∷◌, map, take}
use Rattle.std.specs.List.{AllZip}
use Rattle.sour_syntax.specs.Exits.{top_continuation, extra_continuation}
use Rattle.sour_syntax.specs.ExitPlaces.{KeepsPlace}
use Rattle.sour_syntax.proofs.exit_places.places_of_exit.Given as goal

abbrev pub invariant-loop-extra : goal.invariant-loop-extra
invariant-loop-extra l = AllZip (KeepsPlace l.functions) (top_continuation l.exit ∷ map extra_continuation (take l.extra-index l.exit.extras)) l.places
