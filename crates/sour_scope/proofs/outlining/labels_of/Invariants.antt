use Rattle.std.proofs.Common.{◌≡◌, [], take}
use Rattle.sour_raw.specs.Mentions.{with_names}
use Rattle.sour_checked.specs.Texts.{labels_from}
use Rattle.sour_scope.proofs.outlining.labels_of.Given as goal

abbrev pub invariant-loop-place : goal.invariant-loop-place
invariant-loop-place l = l.labels ≡ with_names [] (labels_from 0 (take l.place l.lines))
