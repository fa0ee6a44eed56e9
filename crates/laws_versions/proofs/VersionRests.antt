-- A run of a checked program rests at each budget.
use Rattle.std.proofs.Common.{◌≡◌, ◌≤◌, ◌<◌, ◌+◌, ◌*◌, ◌⊎◌, ⊎_elim, inl, inr, ℕ, zero, suc}
use Rattle.std.proofs.Common.{List, Option, None, Some, IsSome, length, refl, sym, ap, subst, ◌∙◌, arith}
use Rattle.std.proofs.lemmas.Bool.{cases_lt}
use Rattle.sour_syntax.specs.Program.{ProgramView, IsProgram}
use Rattle.sour_semantics.specs.State.{State, Ending}
use Rattle.sour_semantics.specs.Step.{Choice, text_choice, step}
use Rattle.sour_semantics.specs.Run.{IsAtBudget}
use Rattle.sour_semantics.specs.Validity.{IsValid, MayEnter}
use Rattle.sour_semantics.specs.Agreement.{run_by}
use Rattle.laws_runs.proofs.StepTurns.{Near-step}
use Rattle.laws_runs.proofs.TurnsSoon.{soon}
use Rattle.sour_versions.specs.History.{Answers}
use Rattle.sour_versions.specs.Entering.{entering}
use Rattle.sour_versions.specs.VersionRun.{Counted, counted_step, version_run, version_start}
use Rattle.laws_versions.specs.RunLaws.{AnswersMayBeEntered, VersionTurnsComeSoon, VersionRestsSomewhere}
use Rattle.laws_versions.proofs.VersionRuns.{turns-step, turns-version_run, version_run-ended, version_run-add}
use Rattle.laws_versions.proofs.VersionRuns.{version_run-suc}
use Rattle.laws_versions.proofs.ChosenVersions.{choice_by, choices_in, chosen-by, run-chosen, length-choices}
use Rattle.laws_versions.proofs.ChosenVersions.{holds-choice, holds-choices}
use Rattle.laws_versions.proofs.ValidVersions.{IsValid-version_run, IsValid-begun}

-- a run rests somewhere at a budget
record Rests (program : ProgramView) (answers : Answers) (budget : ℕ) (c : Counted) : Type 0 where
  pub steps : ℕ
  pub there : IsAtBudget program budget (version_run program answers steps c).state

-- a run has ended, or has taken more turns than a budget
abbrev IsPast : ℕ → Counted → Type 0
IsPast budget c = IsSome c.state.ending ⊎ (budget < c.state.turns)

-- one that goes on from the next moment rests if that one does
Rests-step : (program : ProgramView) (answers : Answers) (budget : ℕ) (c : Counted)
    → Rests program answers budget (counted_step program answers c) → Rests program answers budget c
Rests-step program answers budget c rests = record { steps = suc rests.steps; there = rests.there }

-- one whose next step goes past the budget rests, by whether it has ended
Rests-now : (program : ProgramView) (answers : Answers) (budget : ℕ) (c : Counted) (ending : Option Ending)
    → c.state.ending ≡ ending → c.state.turns ≤ budget → budget < (counted_step program answers c).state.turns
    → Rests program answers budget c
Rests-now program answers budget c None going within beyond =
    let turns = turns-step program answers c in
    let near = Near-step program text_choice c.state in
    let at : c.state.turns ≡ budget = omega (arith, within, beyond, turns, near.most) in
    record { steps = 0; there = inr (going, at, omega (arith, within, beyond, turns)) }
Rests-now program answers budget c (Some ending) ended within beyond =
    let Ended : Option Ending → Type 0 = IsSome in
    record { steps = 0; there = inl (subst Ended (sym ended) refl, within) }

-- one that is past the budget after some steps rested before
Rests-past : (program : ProgramView) (answers : Answers) (budget steps : ℕ) (c : Counted) → c.state.turns ≤ budget
    → IsPast budget (version_run program answers steps c) → Rests program answers budget c
Rests-past program answers budget zero c within (inl ended) = record { steps = 0; there = inl (ended, within) }
Rests-past program answers budget zero c within (inr beyond) = absurd (omega (arith, within, beyond))
Rests-past program answers budget (suc steps) c within past =
    let next : Counted = counted_step program answers c in
    ⊎_elim (λ beyond. Rests-now program answers budget c c.state.ending refl within beyond)
    (λ within_next. Rests-step program answers budget c (Rests-past program answers budget steps next within_next past))
    (cases_lt budget next.state.turns)

-- turns come soon
pub version_turns_come_soon : VersionTurnsComeSoon
version_turns_come_soon program answers steps c checked may valid going same =
    let before : Counted = version_run program answers steps c in
    let choices : List Choice = choices_in program answers steps c in
    let last : Choice = choice_by answers (before.calls + 1) (entering program before.state) in
    let along : run_by program choices c.state ≡ before.state = run-chosen program answers steps c in
    let turns : (step program last (run_by program choices c.state)).turns ≡ c.state.turns =
    ap (λ (t : State). (step program last t).turns) along
    ∙ ap (λ (t : State). t.turns) (chosen-by program answers before (entering program before.state))
    ∙ sym (ap (λ (d : Counted). d.state.turns) (version_run-suc program answers steps c)) ∙ same in
    let within : suc (length choices) ≤ 135168 =
    soon program choices last c.state checked valid (holds-choices (MayEnter program) answers tt may program steps c)
    (holds-choice (MayEnter program) answers tt may (before.calls + 1) (entering program before.state))
    (ap (λ (t : State). t.ending) along ∙ going) turns in
    omega (arith, within, length-choices program answers steps c)

-- the run has ended, or has taken another turn
abbrev IsOn : Counted → Counted → Type 0
IsOn c d = IsSome d.state.ending ⊎ (c.state.turns < d.state.turns)

-- it has after one step more than can follow without a turn, by whether it had ended before that one
turned-by : (program : ProgramView) (answers : Answers) (most : ℕ) (c : Counted) (ending : Option Ending)
    → IsProgram program → AnswersMayBeEntered program answers → 135168 ≤ most → IsValid program c.state
    → (version_run program answers most c).state.ending ≡ ending → IsOn c (version_run program answers (suc most) c)
turned-by program answers most c (Some ending) checked may enough valid ended =
    let before : Counted = version_run program answers most c in
    let Ended : Option Ending → Type 0 = IsSome in
    let EndedAt : Counted → Type 0 = λ d. IsSome d.state.ending in
    let is : EndedAt before = subst Ended (sym ended) refl in
    inl (subst EndedAt
    (sym (version_run-suc program answers most c ∙ version_run-ended program answers 1 before is)) is)
turned-by program answers most c None checked may enough valid going =
    let after : Counted = version_run program answers (suc most) c in
    ⊎_elim inr
    (λ none.
    let same : after.state.turns ≡ c.state.turns =
    omega (arith, none, turns-version_run program answers (suc most) c) in
    absurd (omega (arith, version_turns_come_soon program answers most c checked may valid going same, enough)))
    (cases_lt c.state.turns after.state.turns)

-- so a run has ended, or taken so many turns, after so many times as many steps
turned-times : (program : ProgramView) (answers : Answers) (most times : ℕ) (c : Counted) → IsProgram program
    → AnswersMayBeEntered program answers → 135168 ≤ most → IsValid program c.state
    → IsSome (version_run program answers (times * suc most) c).state.ending
    ⊎ (c.state.turns + times ≤ (version_run program answers (times * suc most) c).state.turns)
turned-times program answers most zero c checked may enough valid =
    let none : 0 * suc most ≡ 0 = omega arith in rw none (inr (omega arith))
turned-times program answers most (suc times) c checked may enough valid =
    let half : Counted = version_run program answers (suc most) c in
    let whole : Counted = version_run program answers (times * suc most) half in
    let e : suc times * suc most ≡ suc most + times * suc most = omega arith in
    let same : version_run program answers (suc times * suc most) c ≡ whole =
    ap (λ n. version_run program answers n c) e ∙ version_run-add program answers (suc most) (times * suc most) c in
    let Turned : Counted → Type 0 = λ d. IsSome d.state.ending ⊎ (c.state.turns + suc times ≤ d.state.turns) in
    let on : IsOn c half =
    turned-by program answers most c (version_run program answers most c).state.ending checked may enough valid refl in
    let EndedAt : Counted → Type 0 = λ d. IsSome d.state.ending in
    subst Turned (sym same)
    (⊎_elim
    (λ ended. inl (subst EndedAt (sym (version_run-ended program answers (times * suc most) half ended)) ended))
    (λ more. ⊎_elim inl (λ taken. inr (omega (arith, more, taken)))
    (turned-times program answers most times half checked may enough
    (IsValid-version_run program answers (suc most) c checked may valid)))
    on)

-- a run from a valid moment without turns rests at each budget
Rests-from : (program : ProgramView) (answers : Answers) (budget most : ℕ) (c : Counted) → IsProgram program
    → AnswersMayBeEntered program answers → 135168 ≤ most → IsValid program c.state → c.state.turns ≡ 0
    → Rests program answers budget c
Rests-from program answers budget most c checked may enough valid none =
    Rests-past program answers budget (suc budget * suc most) c (omega (arith, none))
    (⊎_elim inl (λ taken. inr (omega (arith, taken, none)))
    (turned-times program answers most (suc budget) c checked may enough valid))

-- a run of a checked program rests at each budget
pub version_rests_somewhere : VersionRestsSomewhere
version_rests_somewhere program input answers budget checked literals may =
    let begin : Counted = version_start program input answers in
    let rests : Rests program answers budget begin =
    Rests-from program answers budget 135168 begin checked may (omega arith)
    (IsValid-begun program input answers checked literals may) refl in
    (version_run program answers rests.steps begin, record { steps = rests.steps; reached = refl; rests = rests.there })
