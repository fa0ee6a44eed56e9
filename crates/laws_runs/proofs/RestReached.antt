-- A run of the text comes to rest.
use Rattle.std.proofs.Common.{◌≡◌, ◌+◌, ◌<◌, ◌≤◌, ⊎_elim, ℕ, zero, suc, Option, None, Some, IsSome, inl, inr, refl, subst, sym, ◌∙◌, arith}
use Rattle.std.proofs.lemmas.Bool.{cases_lt}
use Rattle.sour_syntax.specs.Program.{ProgramView, IsProgram}
use Rattle.sour_semantics.specs.State.{State, Ending}
use Rattle.sour_semantics.specs.Step.{step, text_choice}
use Rattle.sour_semantics.specs.Run.{start, text_run, IsAtBudget}
use Rattle.sour_semantics.specs.Validity.{IsValid}
use Rattle.laws_validity.proofs.Runs.{IsValid-start}
use Rattle.laws_validity.proofs.Steps.{IsValid-step}
use Rattle.laws_runs.specs.Laws.{RestsSomewhere}
use Rattle.laws_runs.proofs.LowerBodies.{left}
use Rattle.laws_runs.proofs.StepTurns.{Near-step}
use Rattle.laws_runs.proofs.TurnsSoon.{IsNearer-step}

-- a run of the text from a state rests at a budget
record Rests (program : ProgramView) (budget : ℕ) (s : State) : Type 0 where
  pub steps : ℕ
  pub there : IsAtBudget program budget (text_run program steps s)

-- where a run rests that goes on from the next state, it rests
Rests-step : (program : ProgramView) (budget : ℕ) (s : State) → Rests program budget (step program text_choice s) → Rests program budget s
Rests-step program budget s rests = record { steps = suc rests.steps; there = rests.there }

-- a run rests in a state that has ended within the budget
Rests-ended : (program : ProgramView) (budget : ℕ) (s : State) → IsSome s.ending → s.turns ≤ budget → Rests program budget s
Rests-ended program budget s ended within = record { steps = zero; there = inl (ended, within) }

-- the runs that have taken one turn more than these, and are within the budget still, rest
abbrev LaterRests : ProgramView → ℕ → ℕ → Type 0
LaterRests program budget turns =
    (t : State) → IsValid program t → t.turns ≡ suc turns → suc turns ≤ budget → Rests program budget t

-- the runs rest that have taken these turns and can take fewer steps than this without another turn
abbrev NearerRests : ProgramView → ℕ → ℕ → ℕ → Type 0
NearerRests program budget most turns =
    (t : State) → IsValid program t → t.turns ≡ turns → left program t.frames < most → Rests program budget t

-- a run rests whose next step takes a turn
Rests-turn : (program : ProgramView) (budget turns : ℕ) (s : State) → IsProgram program → IsValid program s → s.ending ≡ None
    → s.turns ≡ turns → turns ≤ budget → s.turns < (step program text_choice s).turns → LaterRests program budget turns
    → Rests program budget s
Rests-turn program budget turns s checked valid going is within turned later =
    let next : State = step program text_choice s in
    let one : next.turns ≡ suc turns = omega (arith, (Near-step program text_choice s).most, is, turned) in
    ⊎_elim
    (λ less. Rests-step program budget s (later next (IsValid-step program text_choice s checked valid tt) one (omega (arith, less))))
    (λ all. record { steps = zero; there = inr (going, omega (arith, all, is, within), turned) })
    (cases_lt turns budget)

-- a run rests after a step that takes no turn, by whether it has ended
Rests-next : (program : ProgramView) (budget most turns : ℕ) (t : State) (ending : Option Ending) → t.ending ≡ ending
    → IsValid program t → t.turns ≡ turns → turns ≤ budget → (t.ending ≡ None → left program t.frames < most)
    → NearerRests program budget most turns → Rests program budget t
Rests-next program budget most turns t None is valid same within nearer rest = rest t valid same (nearer is)
Rests-next program budget most turns t (Some ending) is valid same within nearer rest =
    let Ended : Option Ending → Type 0 = IsSome in
    Rests-ended program budget t (subst Ended (sym is) refl) (omega (arith, same, within))

-- a run rests, by whether it has ended
Rests-from : (program : ProgramView) (budget turns : ℕ) (s : State) (ending : Option Ending) → s.ending ≡ ending
    → IsProgram program → IsValid program s → s.turns ≡ turns → turns ≤ budget
    → LaterRests program budget turns → NearerRests program budget (left program s.frames) turns → Rests program budget s
Rests-from program budget turns s None going checked valid is within later nearer =
    let next : State = step program text_choice s in
    ⊎_elim
    (λ turned. Rests-turn program budget turns s checked valid going is within turned later)
    (λ none.
    let same : next.turns ≡ s.turns = omega (arith, none, (Near-step program text_choice s).least) in
    Rests-step program budget s
    (Rests-next program budget (left program s.frames) turns next next.ending refl (IsValid-step program text_choice s checked valid tt)
    (same ∙ is) within (λ open_still. IsNearer-step program text_choice s checked valid open_still same) nearer))
    (cases_lt s.turns next.turns)
Rests-from program budget turns s (Some ending) ended checked valid is within later nearer =
    let Ended : Option Ending → Type 0 = IsSome in
    Rests-ended program budget s (subst Ended (sym ended) refl) (omega (arith, is, within))

-- a run rests that can take no more steps than this without another turn, where those rest that have taken one
Rests-soon : (program : ProgramView) (budget most turns : ℕ) → IsProgram program → turns ≤ budget → LaterRests program budget turns
    → NearerRests program budget most turns
Rests-soon program budget zero turns checked within later = λ s valid is none. absurd (omega (arith, none))
Rests-soon program budget (suc most) turns checked within later = λ s valid is few.
    Rests-from program budget turns s s.ending refl checked valid is within later
    (λ t valid_next same fewer. Rests-soon program budget most turns checked within later t valid_next same (omega (arith, few, fewer)))

-- a run that has so many turns left until its budget rests
Rests-within : (program : ProgramView) (budget more : ℕ) (s : State) → IsProgram program → IsValid program s
    → s.turns + more ≡ budget → Rests program budget s
Rests-within program budget zero s checked valid is =
    Rests-soon program budget (suc (left program s.frames)) s.turns checked (omega (arith, is))
    (λ t valid_next turned within. absurd (omega (arith, is, within))) s valid refl (omega arith)
Rests-within program budget (suc more) s checked valid is =
    Rests-soon program budget (suc (left program s.frames)) s.turns checked (omega (arith, is))
    (λ t valid_next turned within. Rests-within program budget more t checked valid_next (omega (arith, is, turned))) s valid refl (omega arith)

-- a run of the text rests in some state
pub some : RestsSomewhere
some program input budget checked literals =
    let begin : State = start program input in
    let rests : Rests program budget begin =
    Rests-within program budget budget begin checked (IsValid-start program input checked literals) (omega arith) in
    (text_run program rests.steps begin, record { steps = rests.steps; reached = refl; rests = rests.there })
