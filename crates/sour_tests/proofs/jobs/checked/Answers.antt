use Rattle.std.proofs.Common.{refl}
use Rattle.laws_grammar.proofs.LinesInOrder.{lines_in_order}
use Rattle.laws_grammar.proofs.ReadIsWritten.{read_is_written}
use Rattle.sour_tests.proofs.jobs.checked.Goals as goal

pub check-requires-clause-written : goal.check-requires-clause-written
check-requires-clause-written c =
    (read_is_written _ _ ((c.in_ok-raw.ensures.found c.in_ok-raw.raw).1 refl)).0

pub check-requires-clause-short : goal.check-requires-clause-short
check-requires-clause-short c =
    (read_is_written _ _ ((c.in_ok-raw.ensures.found c.in_ok-raw.raw).1 refl)).1

pub check-requires-clause-ordered : goal.check-requires-clause-ordered
check-requires-clause-ordered c = lines_in_order _ _ ((c.in_ok-raw.ensures.found c.in_ok-raw.raw).1 refl)
