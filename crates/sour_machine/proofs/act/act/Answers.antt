use Rattle.std.specs.List.{AllByRecursion}
use Rattle.std.proofs.Common.{rules, ◌≡◌, ◌+◌, List, [], ◌∷◌, true, sym, subst}
use Rattle.sour_syntax.specs.declared.expression.Expr.{Expr}
use Rattle.sour_syntax.specs.declared.instruction.Instr.{Instr}
use Rattle.sour_syntax.specs.declared.instruction.Instr.TheVariants.{Assume}
use Rattle.sour_syntax.specs.Exits.{exit_values}
use Rattle.sour_syntax.specs.Scopes.{IsInScope, needed, variables_of_each}
use Rattle.sour_syntax.specs.Spread.{following}
use Rattle.sour_syntax.proofs.Everywhere.{AllByRecursion-parts}
use Rattle.sour_semantics.specs.Validity.{scope_of}
use Rattle.sour_machine.specs.Instruction.{ComesTo, jump_at}
use Rattle.sour_machine.specs.Scope.{HasValuesOfEach}
use Rattle.sour_machine.proofs.act.act.Goals as goal

pub returns-in-Branch-clause-comes : goal.returns-in-Branch-clause-comes
returns-in-Branch-clause-comes c = λ ok.
    let old = c.args.moment.now in
    let new = c.branch-moment.new.moment in
    let Comes : Instr → Type 0 = λ instr. ComesTo instr (following instr (jump_at c.args.jumps.now old.frame.place) (old.frame.place + 1)) old.frame.env new new.end in
    subst Comes (sym c.in-Branch.is) (c.branch-moment.ensures.comes c.in-Branch.field-1 c.in-Branch.field-2)

pub returns-in-Goto-clause-comes : goal.returns-in-Goto-clause-comes
returns-in-Goto-clause-comes c = λ ok.
    let old = c.args.moment.now in
    let new = c.goto.new.moment in
    let Comes : Instr → Type 0 = λ instr. ComesTo instr (following instr (jump_at c.args.jumps.now old.frame.place) (old.frame.place + 1)) old.frame.env new new.end in
    subst Comes (sym c.in-Goto.is) (c.goto.ensures.comes c.in-Goto.field-0)

pub returns-else-not-stays-clause-comes : goal.returns-else-not-stays-clause-comes
returns-else-not-stays-clause-comes c = λ ok.
    let old = c.args.moment.now in
    let new = c.stays.new.moment in
    let exit = c.in-Assume.field-1 in
    let stays : c.stays.result ≡ true = search rules in
    let Assumes : List Expr → Type 0 = λ es. ComesTo (Assume es exit) ((old.frame.place + 1) ∷ []) old.frame.env new new.end in
    let Comes : Instr → Type 0 = λ instr. ComesTo instr (following instr (jump_at c.args.jumps.now old.frame.place) (old.frame.place + 1)) old.frame.env new new.end in
    subst Comes (sym c.in-Assume.is) (subst Assumes c.as_slice-in-Assume.ensures (c.stays.ensures.comes stays exit))

pub stays-requires-clause-values : goal.stays-requires-clause-values
stays-requires-clause-values c =
    let env = c.args.moment.now.frame.env in
    let Needs : Instr → Type 0 = λ instr. AllByRecursion (IsInScope (scope_of env)) (needed instr) in
    let Has : List Expr → Type 0 = HasValuesOfEach env in
    subst Has (sym c.as_slice-in-Assume.ensures) (AllByRecursion-parts (IsInScope (scope_of env)) (variables_of_each c.in-Assume.predicates) (variables_of_each (exit_values c.in-Assume.field-1)) (subst Needs c.in-Assume.is c.requires.ready.needs)).0
