use Rattle.std.proofs.Common.{◌+◌, ◌<◌, true, false, List, length, refl, sym, ◌∙◌, subst, arith}
use Rattle.sour_syntax.specs.declared.literal.VarId.{VarId}
use Rattle.sour_syntax.proofs.ScopeLists.{FoundSoFar, found_more, found_same, found_all, next_is}
use Rattle.sour_syntax.proofs.scope_lists.members_of.Goals as goal
use Rattle.sour_syntax.proofs.scope_lists.members_of.Goals.{then-scope-number+in_ok-push, else-scope-number}

pub loop-number-init : goal.loop-number-init
loop-number-init c = subst (λ (found : List VarId). FoundSoFar c.args.scope.now 0 found) (sym c.new-variables.ensures)
    (record { are = refl })

pub loop-number-preserved : goal.loop-number-preserved
loop-number-preserved c =
    let scope = c.args.scope.now in
    let number = c.loop-number.number in
    let found = c.loop-number.variables in
    let within : number < length scope = omega arith in
    elim c.if-scope-number.branch [
      | then-scope-number+in_ok-push w ↦ subst (λ (variables : List VarId). FoundSoFar scope (number + 1) variables)
          (sym (w.variables-is ∙ w.in_ok-push.ensures.ok))
          (found_more scope number found within (next_is scope number true within w.if-scope-number.true)
          c.loop-number.invariant)
      | else-scope-number w ↦ subst (λ (variables : List VarId). FoundSoFar scope (number + 1) variables)
          (sym w.variables-is)
          (found_same scope number found within (next_is scope number false within w.if-scope-number.false)
          c.loop-number.invariant)
    ]

pub returns : goal.returns
returns c = found_all c.args.scope.now c.loop-number.number c.loop-number.variables
    (omega arith) c.loop-number.invariant
