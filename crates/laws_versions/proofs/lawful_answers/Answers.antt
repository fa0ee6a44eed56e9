use Rattle.laws_versions.proofs.LawfulAnswers.{lawful_answers}
use Rattle.laws_versions.proofs.lawful_answers.Goals as goal

pub returns : goal.returns
returns c = lawful_answers
