use Rattle.laws_renaming.proofs.Rows.{scopes_behind}
use Rattle.laws_renaming.proofs.scopes_behind.Goals as goal

pub returns : goal.returns
returns c = scopes_behind
