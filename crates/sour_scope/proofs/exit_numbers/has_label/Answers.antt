use Rattle.std.proofs.Common.{sym}
use Rattle.sour_scope.proofs.NumberLaws.{found_among}
use Rattle.sour_scope.proofs.exit_numbers.has_label.Goals as goal

pub returns : goal.returns
returns c =
    rw (c.is_some.ensures, sym c.as_bytes.ensures)
    (found_among c.args.labels.now c.as_bytes.result.now c.place.result c.place.ensures.found c.place.ensures.none)
