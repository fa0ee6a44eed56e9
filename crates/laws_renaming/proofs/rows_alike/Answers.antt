use Rattle.laws_renaming.proofs.Rows.{rows_alike}
use Rattle.laws_renaming.proofs.rows_alike.Goals as goal

pub returns : goal.returns
returns c = rows_alike
