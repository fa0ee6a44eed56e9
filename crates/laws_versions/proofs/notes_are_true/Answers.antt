use Rattle.laws_versions.proofs.Logs.{notes_are_true}
use Rattle.laws_versions.proofs.notes_are_true.Goals as goal

pub returns : goal.returns
returns c = notes_are_true
