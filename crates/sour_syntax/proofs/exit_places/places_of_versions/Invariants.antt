use Rattle.std.proofs.Common.{take}
use Rattle.std.specs.List.{AllZip}
use Rattle.sour_syntax.specs.ExitPlaces.{KeepsOfVersion}
use Rattle.sour_syntax.proofs.exit_places.places_of_versions.Given as goal

abbrev pub invariant-loop-version : goal.invariant-loop-version
invariant-loop-version l = AllZip (KeepsOfVersion l.functions) (take l.version-index l.versions) l.rows
