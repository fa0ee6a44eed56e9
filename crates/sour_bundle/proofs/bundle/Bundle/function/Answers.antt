use Rattle.std.proofs.Common.{length, ap, arith}
use Rattle.sour_bundle.specs.ProgramBundle.{ProgramBundle}
use Rattle.sour_bundle.proofs.Bodies.{own_there}
use Rattle.sour_bundle.proofs.bundle.Bundle.function.Goals as goal

pub returns-clause-there : goal.returns-clause-there
returns-clause-there c =
    omega (arith, own_there _ _ c.self.invariant, ap (λ (b : ProgramBundle). length b.program.functions) c.self.view_is)
