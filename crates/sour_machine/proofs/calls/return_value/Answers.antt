use Rattle.sour_machine.proofs.calls.return_value.Goals as goal

pub returns-in-Ok-clause-leaves : goal.returns-in-Ok-clause-leaves
returns-in-Ok-clause-leaves c = λ program.
    let left = c.resume.ensures.leaves program in
    record { top = left.top; below = left.below; fewer = left.fewer; calls = left.calls }
