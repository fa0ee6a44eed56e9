use Rattle.laws_renaming.proofs.Rows.{rows_behind}
use Rattle.laws_renaming.proofs.rows_behind.Goals as goal

pub returns : goal.returns
returns c = rows_behind
