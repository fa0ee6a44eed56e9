use Rattle.laws_versions.proofs.Rounds.{rounds_enter_active}
use Rattle.laws_versions.proofs.rounds_enter_active.Goals as goal

pub returns : goal.returns
returns c = rounds_enter_active
