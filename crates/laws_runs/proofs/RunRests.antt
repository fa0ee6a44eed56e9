-- Where a run of the text rests.
use Rattle.std.proofs.Common.{◌≡◌, ◌+◌, ◌-◌, ◌≤◌, ⊎_elim, ℕ, zero, suc, List, IsSome, inl, inr, refl, sym, ◌∙◌, subst, ap, arith}
use Rattle.std.proofs.lemmas.Bool.{cases_lt}
use Rattle.sour_syntax.specs.declared.literal.Literal.{Literal}
use Rattle.sour_syntax.specs.Program.{ProgramView}
use Rattle.sour_semantics.specs.State.{State}
use Rattle.sour_semantics.specs.Step.{step, text_choice}
use Rattle.sour_semantics.specs.Run.{start, text_run, IsAtBudget, TextAt}
use Rattle.sour_semantics.proofs.Runs.{unless_ended-stays}
use Rattle.laws_runs.proofs.StepTurns.{Near-step}

-- a run that has ended stays as it is
pub step-ended : (program : ProgramView) (s : State) → IsSome s.ending → step program text_choice s ≡ s
step-ended program s ended = unless_ended-stays s.ending s _ ended

-- and so however many steps follow
pub text_run-ended : (program : ProgramView) (count : ℕ) (s : State) → IsSome s.ending → text_run program count s ≡ s
text_run-ended program zero s ended = refl
text_run-ended program (suc count) s ended =
    ap (text_run program count) (step-ended program s ended) ∙ text_run-ended program count s ended

-- turns never fall along a run
pub turns-text_run : (program : ProgramView) (count : ℕ) (s : State) → s.turns ≤ (text_run program count s).turns
turns-text_run program zero s = omega arith
turns-text_run program (suc count) s =
    let next = step program text_choice s in
    omega (arith, (Near-step program text_choice s).least, turns-text_run program count next)

-- a run that rests at a budget took no more turns
turns_within : (program : ProgramView) (budget : ℕ) (s : State) → IsAtBudget program budget s → s.turns ≤ budget
turns_within program budget s (inl ended) = ended.1
turns_within program budget s (inr open_still) = omega (arith, open_still.1)

-- where a run rests at a budget, it rests at no later state
later : (program : ProgramView) (budget : ℕ) (s : State) (count : ℕ)
    → IsAtBudget program budget s → IsAtBudget program budget (text_run program count s) → s ≡ text_run program count s
later program budget s zero at_s at_t = refl
later program budget s (suc count) (inl ended) at_t = sym (text_run-ended program (suc count) s ended.0)
later program budget s (suc count) (inr more) at_t =
    let next = step program text_choice s in
    absurd (omega (arith, more.1, more.2, turns-text_run program count next, turns_within program budget (text_run program count next) at_t))

-- so many steps, and then so many more
pub text_run-add : (program : ProgramView) (m n : ℕ) (s : State)
    → text_run program (m + n) s ≡ text_run program n (text_run program m s)
text_run-add program zero n s = let e : 0 + n ≡ n = omega arith in rw e
text_run-add program (suc m) n s =
    let e : suc m + n ≡ suc (m + n) = omega arith in
    rw e (text_run-add program m n (step program text_choice s))

-- of two states at which a run rests, the one with no fewer steps is no other
in_order : (program : ProgramView) (budget m n : ℕ) (s : State) → m ≤ n
    → IsAtBudget program budget (text_run program m s) → IsAtBudget program budget (text_run program n s)
    → text_run program m s ≡ text_run program n s
in_order program budget m n s le at_m at_n =
    let e : n ≡ m + (n - m) = omega arith in
    let same : text_run program n s ≡ text_run program (n - m) (text_run program m s) =
    ap (λ k. text_run program k s) e ∙ text_run-add program m (n - m) s in
    later program budget (text_run program m s) (n - m) at_m (subst (IsAtBudget program budget) same at_n) ∙ sym same

-- a run from a state rests in one state
pub one_from : (program : ProgramView) (budget m n : ℕ) (s : State)
    → IsAtBudget program budget (text_run program m s) → IsAtBudget program budget (text_run program n s)
    → text_run program m s ≡ text_run program n s
one_from program budget m n s at_m at_n =
    ⊎_elim (λ lt. in_order program budget m n s (omega (arith, lt)) at_m at_n) (λ le. sym (in_order program budget n m s le at_n at_m)) (cases_lt m n)

-- a run of the text rests in one state
pub one : (program : ProgramView) (input : List Literal) (budget : ℕ) (s t : State)
    → TextAt program input budget s → TextAt program input budget t → s ≡ t
one program input budget s t at_s at_t =
    let Rests : State → Type 0 = IsAtBudget program budget in
    let same : text_run program at_s.steps (start program input) ≡ text_run program at_t.steps (start program input) =
    one_from program budget at_s.steps at_t.steps (start program input)
    (subst Rests (sym at_s.reached) at_s.rests) (subst Rests (sym at_t.reached) at_t.rests) in
    sym at_s.reached ∙ same ∙ at_t.reached
