-- Going on by some turns and then by others.
use Rattle.std.proofs.Common.{◌≡◌, ◌+◌, ℕ, inl, inr, sym, ◌∙◌, subst, ap, arith}
use Rattle.sour_syntax.specs.Program.{ProgramView}
use Rattle.sour_semantics.specs.State.{State}
use Rattle.sour_semantics.specs.Run.{text_run, IsAtBudget}
use Rattle.laws_runs.specs.Laws.{GoesOnBy}
use Rattle.laws_runs.proofs.RunRests.{text_run-ended, text_run-add, one_from}

-- what follows a rest at a budget, and rests at so many turns more, rests at the sum
rests_at_sum : (program : ProgramView) (budget b steps : ℕ) (t u : State) → text_run program steps t ≡ u
    → IsAtBudget program budget t → IsAtBudget program (t.turns + b) u → IsAtBudget program (budget + b) u
rests_at_sum program budget b steps t u reached (inl ended) at_u =
    let Rests : State → Type 0 = IsAtBudget program (budget + b) in
    let same : t ≡ u = sym (text_run-ended program steps t ended.0) ∙ reached in
    subst Rests same (inl (ended.0, omega (arith, ended.1)))
rests_at_sum program budget b steps t u reached (inr more) at_u =
    let Rests : ℕ → Type 0 = λ turns. IsAtBudget program (turns + b) u in
    subst Rests more.1 at_u

-- to go on by some turns and then by others is to go on by all of them
pub add : (program : ProgramView) (a b : ℕ) (s t u v : State)
    → GoesOnBy program a s t → GoesOnBy program b t u → GoesOnBy program (a + b) s v → u ≡ v
add program a b s t u v first second whole =
    let Rests : State → Type 0 = IsAtBudget program (s.turns + (a + b)) in
    let AtU : ℕ → Type 0 = λ turns. IsAtBudget program turns u in
    let along : text_run program (first.steps + second.steps) s ≡ u =
    text_run-add program first.steps second.steps s ∙ ap (text_run program second.steps) first.reached ∙ second.reached in
    let sums : s.turns + a + b ≡ s.turns + (a + b) = omega arith in
    let rests : Rests u = subst AtU sums (rests_at_sum program (s.turns + a) b second.steps t u second.reached first.rests second.rests) in
    sym along
    ∙ one_from program (s.turns + (a + b)) (first.steps + second.steps) whole.steps s (subst Rests (sym along) rests) (subst Rests (sym whole.reached) whole.rests)
    ∙ whole.reached
