use Rattle.std.proofs.Common.{refl}
use Rattle.sour_syntax.proofs.ScopeTests.{take_instr-needs, take_instr-declares}
use Rattle.sour_syntax.proofs.taking.fault_at.Goals as goal

pub returns-then-not-has_needed-clause-fault : goal.returns-then-not-has_needed-clause-fault
returns-then-not-has_needed-clause-fault c = λ body labels places.
    take_instr-needs body c.args.place c.args.instr.now c.args.scope.now labels places
    (λ all. let yes = c.if-not-has_needed.ensures.1 all in cc)

pub returns-then-not-lacks_declared-clause-fault : goal.returns-then-not-lacks_declared-clause-fault
returns-then-not-lacks_declared-clause-fault c = λ body labels places.
    take_instr-declares body c.args.place c.args.instr.now c.args.scope.now labels places
    (c.if-not-has_needed.ensures.0 refl)
    (λ all. let yes = c.if-not-lacks_declared.ensures.1 all in cc)
