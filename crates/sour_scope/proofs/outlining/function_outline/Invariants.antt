use Rattle.std.proofs.Common.{◌≡◌, map, take}
use Rattle.sour_scope.specs.Numbering.{IsNumbering}
use Rattle.sour_scope.specs.Outlined.{outlined_version, version_names}
use Rattle.sour_scope.proofs.outlining.function_outline.Given as goal

abbrev pub invariant-loop-number : goal.invariant-loop-number
invariant-loop-number l = record {
  numbers : IsNumbering l.numbers (version_names l.versions);
  versions : l.versions ≡ map (outlined_version l.raw.parameters) (take l.number l.raw.versions);
}
