use Rattle.std.proofs.Common.{◌≡◌, take}
use Rattle.sour_syntax.specs.Labels.{labels_of}
use Rattle.sour_syntax.proofs.labels.Labels.of_lines.Given as goal

abbrev pub invariant-loop-line : goal.invariant-loop-line
invariant-loop-line l = l.labels ≡ labels_of (take l.line-index l.lines)
