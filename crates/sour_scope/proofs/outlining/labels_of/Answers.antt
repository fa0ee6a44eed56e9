use Rattle.std.proofs.Common.{ap, ◌∙◌}
use Rattle.sour_raw.specs.Mentions.{with_name}
use Rattle.sour_scope.proofs.OutliningLaws.{label_put, labels_put}
use Rattle.sour_scope.proofs.outlining.labels_of.Goals as goal

pub loop-place-preserved : goal.loop-place-preserved
loop-place-preserved c =
    let line = c.index-lines-place.result in
    let add = c.in_ok-add.ensures in
    let put = label_put c.loop-place.labels c.add.new.self c.in_ok-label_bytes.field-0.items c.in_ok-add.field-0
    add.whether add.put add.kept in
    labels_put c.args.lines.now c.loop-place.place line c.loop-place.labels c.add.new.self c.loop-place-test.true
    c.index-lines-place.is c.loop-place.invariant
    (put ∙ ap (with_name c.loop-place.labels) c.in_ok-label_bytes.ensures)
