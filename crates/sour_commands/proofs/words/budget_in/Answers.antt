use Rattle.sour_commands.proofs.WordLemmas.{budget-some, budget-none}
use Rattle.sour_commands.proofs.words.budget_in.Goals as goal

pub returns-in-Some : goal.returns-in-Some
returns-in-Some c = budget-some c.args.word.now c.in-Some.budget c.limited.result (c.in-Some.ensures) c.limited.ensures

pub returns-in-None : goal.returns-in-None
returns-in-None c = budget-none c.args.word.now c.in-None.ensures
