use Rattle.laws_renaming.proofs.Rows.{rows_before}
use Rattle.laws_renaming.proofs.rows_before.Goals as goal

pub returns : goal.returns
returns c = rows_before
