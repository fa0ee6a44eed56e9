use Rattle.laws_versions.proofs.LawfulAnswers.{used_are_lawful}
use Rattle.laws_versions.proofs.used_are_lawful.Goals as goal

pub returns : goal.returns
returns c = used_are_lawful
