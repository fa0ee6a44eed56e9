use Rattle.std.proofs.Common.{refl}
use Rattle.sour_commands.specs.declared.command.Command.TheVariants.{Run}
use Rattle.sour_commands.proofs.CommandLemmas.{AskFor-three, asked, none_asked, none_asked-unwritten}
use Rattle.sour_commands.proofs.words.command_of_three.Goals as goal

pub returns-in_err-budget : goal.returns-in_err-budget
returns-in_err-budget c =
    rw c.from_residual.ensures
    (none_asked _ (none_asked-unwritten c.args.command.now c.args.option.now c.args.number.now c.in_err-budget.ensures))

pub returns : goal.returns
returns c =
    let both = c.if-not-is_run_with_budget.ensures.0 refl in
    let budget = c.in_ok-budget.budget in
    let writes = (c.in_ok-budget.ensures budget).1 refl in
    asked _ (Run budget)
    (AskFor-three c.args.command.now c.args.option.now c.args.number.now budget both.0 both.1 writes)
