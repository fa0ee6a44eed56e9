use Rattle.std.specs.List.{AllByRecursion}
use Rattle.std.proofs.Common.{subst}
use Rattle.sour_syntax.specs.declared.instruction.Instr.{Instr}
use Rattle.sour_syntax.specs.Exits.{exit_values}
use Rattle.sour_syntax.specs.Scopes.{IsInScope, needed, variables_of_each}
use Rattle.sour_syntax.proofs.Everywhere.{AllByRecursion-parts}
use Rattle.sour_semantics.specs.Validity.{scope_of}
use Rattle.sour_machine.proofs.calls.cross.Goals as goal

pub leave_by-requires-clause-values : goal.leave_by-requires-clause-values
leave_by-requires-clause-values c =
    let scope = scope_of c.args.moment.now.frame.env in
    let Needs : Instr → Type 0 = λ instr. AllByRecursion (IsInScope scope) (needed instr) in
    (AllByRecursion-parts (IsInScope scope) (variables_of_each c.in-Assume.field-0) (variables_of_each (exit_values c.in-Assume.exit)) (subst Needs c.in-Assume.is c.requires.ready.needs)).1
