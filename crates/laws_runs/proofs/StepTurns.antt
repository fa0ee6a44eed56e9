-- How many turns a step takes.
use Rattle.std.proofs.Common.{◌≡◌, ◌+◌, ◌≤◌, Bool, true, false, arith}
use Rattle.sour_syntax.specs.Program.{ProgramView}
use Rattle.sour_semantics.specs.State.{State}
use Rattle.sour_semantics.specs.Step.{Choice, step}
use Rattle.laws_effects.specs.Effect.{counted, effect_next}
use Rattle.laws_effects.proofs.Steps.{shown-step}

-- from s to t one turn was taken, or none
pub record Near (s t : State) : Type 0 where
  pub least : s.turns ≤ t.turns
  pub most : t.turns ≤ s.turns + 1

-- so it is if the turns are counted
Near-counted : (turn : Bool) (s t : State) → t.turns ≡ counted turn s.turns → Near s t
Near-counted true s t turns = record { least = omega (arith, turns); most = omega (arith, turns) }
Near-counted false s t turns = record { least = omega (arith, turns); most = omega (arith, turns) }

-- a step takes one turn or none
pub Near-step : (program : ProgramView) (choice : Choice) (s : State) → Near s (step program choice s)
Near-step program choice s =
    Near-counted (effect_next program choice.leaves s).turn s (step program choice s)
    (shown-step program choice s).turns

-- the same as two facts
pub turns_of_step : (program : ProgramView) (choice : Choice) (s : State)
    → (s.turns ≤ (step program choice s).turns) × ((step program choice s).turns ≤ s.turns + 1)
turns_of_step program choice s = let near = Near-step program choice s in (near.least, near.most)
