-- What a run has before it, which ends the loop over the lines of a body.
use Rattle.std.proofs.Common.{◌≡◌, ℕ, ◌+◌, ◌-◌, ◌*◌, ◌<◌, refl, ap, arith}
use Rattle.std.proofs.Math.Nat.{mul_comm}
use Rattle.std.proofs.lemmas.Nat.{mul-add-lt}
use Rattle.sour_machine.specs.declared.moment.Moment.{Moment}
use Rattle.sour_machine.specs.declared.report.End.{End}
use Rattle.sour_machine.specs.declared.report.End.TheVariants.{Returned, Stopped, Trapped, Cut, Memory}

-- a run that has ended has nothing before it
abbrev pub unless_over : End → ℕ → ℕ
unless_over Cut left = left
unless_over (Returned value) left = 0
unless_over Stopped left = 0
unless_over (Trapped trap) left = 0
unless_over Memory left = 0

-- for each turn that is left one, and one more
abbrev pub turns_before : ℕ → Moment → ℕ
turns_before budget moment = unless_over moment.end (budget - moment.turns + 1)

-- for each turn that is left all the lines and one more, and the lines from the place on
abbrev pub before : ℕ → ℕ → Moment → ℕ
before budget lines moment = unless_over moment.end ((budget - moment.turns) * (lines + 1) + (lines - moment.frame.place))

-- fewer times, whatever is added to it
less : (few many each p q : ℕ) → few < many → p < each → few * each + p < many * each + q
less few many each p q fewer within = omega (arith, mul-add-lt few each p many fewer within, mul_comm each many)

-- what is before a run is less than something above 0, if it is so while the run goes on
below : (end : End) (left all : ℕ) → 0 < all → (end ≡ Cut → left < all) → unless_over end left < all
below Cut left all some going = going refl
below (Returned value) left all some going = some
below Stopped left all some going = some
below (Trapped trap) left all some going = some
below Memory left all some going = some

module _ (budget lines : ℕ) (old new : Moment) (going : old.end ≡ Cut) (within : old.frame.place < lines) where
  at_old : before budget lines old ≡ (budget - old.turns) * (lines + 1) + (lines - old.frame.place)
  at_old = ap (λ end. unless_over end ((budget - old.turns) * (lines + 1) + (lines - old.frame.place))) going

  falls : (new.end ≡ Cut → (budget - new.turns) * (lines + 1) + (lines - new.frame.place) < (budget - old.turns) * (lines + 1) + (lines - old.frame.place))
      → before budget lines new < before budget lines old
  falls fewer =
      let fallen : before budget lines new < (budget - old.turns) * (lines + 1) + (lines - old.frame.place) =
      below new.end ((budget - new.turns) * (lines + 1) + (lines - new.frame.place)) ((budget - old.turns) * (lines + 1) + (lines - old.frame.place)) (omega arith) fewer in
      rw at_old fallen

  -- a turn was taken
  pub before-turn : old.turns < budget → new.turns ≡ old.turns + 1 → before budget lines new < before budget lines old
  before-turn left taken = falls (λ on. less (budget - new.turns) (budget - old.turns) (lines + 1) (lines - new.frame.place) (lines - old.frame.place) (omega arith) (omega arith))

  -- or the run went on to the next line
  pub before-line : new.turns ≡ old.turns → (new.end ≡ Cut → new.frame.place ≡ old.frame.place + 1) → before budget lines new < before budget lines old
  before-line same next = falls (λ on.
      let further : new.frame.place ≡ old.frame.place + 1 = next on in
      let turns : (budget - new.turns) * (lines + 1) ≡ (budget - old.turns) * (lines + 1) = ap (λ turns. (budget - turns) * (lines + 1)) same in
      omega (arith, turns))
