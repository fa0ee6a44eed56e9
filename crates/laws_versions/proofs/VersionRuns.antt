-- Runs whose calls enter versions, step by step.
use Rattle.std.proofs.Common.{◌≡◌, ◌≤◌, ◌+◌, ◌-◌, ⊎_elim, inl, inr, false, ℕ, zero, suc, []}
use Rattle.std.proofs.Common.{Option, None, Some, IsSome, refl, sym, ap, subst, ◌∙◌, arith}
use Rattle.std.proofs.lemmas.Bool.{cases_lt}
use Rattle.sour_syntax.specs.declared.literal.FunId.{FunId}
use Rattle.sour_syntax.specs.Program.{ProgramView}
use Rattle.sour_semantics.specs.State.{State, Ending}
use Rattle.sour_semantics.specs.Step.{text_version, text_choice, step}
use Rattle.sour_semantics.specs.Run.{text_run, IsAtBudget}
use Rattle.laws_runs.specs.Laws.{GoesOnBy}
use Rattle.laws_runs.proofs.StepTurns.{Near-step}
use Rattle.sour_versions.specs.History.{Answers, by_history}
use Rattle.sour_versions.specs.Entering.{entering}
use Rattle.sour_versions.specs.VersionRun.{Counted, counted_by, counted_step, version_run}
use Rattle.sour_versions.specs.VersionRun.{version_start, VersionGoesOnBy}
use Rattle.sour_versions.specs.GoesOn.{AnswerAlike}
use Rattle.laws_versions.specs.RunLaws.{RunsOverNothing, TextGoesOnAdds, VersionGoesOnAdds, VersionRestsOnce}
use Rattle.laws_versions.proofs.StepEffects.{turns_whatever_entered}
use Rattle.laws_versions.proofs.AnsweredCalls.{alike-run}

-- if nothing was published, a step is one of the text, whatever it enters
nothing-by : (program : ProgramView) (c : Counted) (f : Option FunId)
    → (counted_by program (by_history []) c f).state ≡ step program text_choice c.state
nothing-by program c None = refl
nothing-by program c (Some f) = refl

-- and so is each step of a run
nothing-run : (program : ProgramView) (steps : ℕ) (c : Counted)
    → (version_run program (by_history []) steps c).state ≡ text_run program steps c.state
nothing-run program zero c = refl
nothing-run program (suc steps) c =
    nothing-run program steps (counted_step program (by_history []) c)
    ∙ ap (text_run program steps) (nothing-by program c (entering program c.state))

-- if nothing was published, a run is the run of the text
pub runs_over_nothing : RunsOverNothing
runs_over_nothing = record {
  starts = λ program input. refl;
  goes = nothing-run;
  rests = λ program input budget c at. record {
    steps = at.steps;
    reached = sym (nothing-run program at.steps (version_start program input (by_history [])))
        ∙ ap (λ (d : Counted). d.state) at.reached;
    rests = at.rests;
  };
}

-- a step takes the turns of one of the text, whatever it enters
turns-by : (program : ProgramView) (answers : Answers) (c : Counted) (f : Option FunId)
    → (counted_by program answers c f).state.turns ≡ (step program text_choice c.state).turns
turns-by program answers c None = refl
turns-by program answers c (Some f) =
    turns_whatever_entered program false (answers (c.calls + 1) f).entry text_version c.state

-- so does a step of a run
pub turns-step : (program : ProgramView) (answers : Answers) (c : Counted)
    → (counted_step program answers c).state.turns ≡ (step program text_choice c.state).turns
turns-step program answers c = turns-by program answers c (entering program c.state)

-- turns never fall along a run
pub turns-version_run : (program : ProgramView) (answers : Answers) (count : ℕ) (c : Counted)
    → c.state.turns ≤ (version_run program answers count c).state.turns
turns-version_run program answers zero c = omega arith
turns-version_run program answers (suc count) c =
    let next : Counted = counted_step program answers c in
    omega (
      arith,
      (Near-step program text_choice c.state).least,
      turns-step program answers c,
      turns-version_run program answers count next,
    )

-- a step of a run that has ended leaves it as it is
ended-step : (program : ProgramView) (answers : Answers) (ending : Option Ending) (s : State) (calls : ℕ)
    → IsSome ending
    → counted_step program answers (record { state = record s { ending = ending }; calls = calls })
    ≡ record { state = record s { ending = ending }; calls = calls }
ended-step program answers None s calls ended = absurd (cc)
ended-step program answers (Some ending) s calls ended = refl

-- and so do all further steps
pub version_run-ended : (program : ProgramView) (answers : Answers) (count : ℕ) (c : Counted) → IsSome c.state.ending
    → version_run program answers count c ≡ c
version_run-ended program answers zero c ended = refl
version_run-ended program answers (suc count) c ended =
    ap (version_run program answers count) (ended-step program answers c.state.ending c.state c.calls ended)
    ∙ version_run-ended program answers count c ended

-- so many steps, and then so many more
pub version_run-add : (program : ProgramView) (answers : Answers) (m n : ℕ) (c : Counted)
    → version_run program answers (m + n) c ≡ version_run program answers n (version_run program answers m c)
version_run-add program answers zero n c = let e : 0 + n ≡ n = omega arith in rw e refl
version_run-add program answers (suc m) n c =
    let e : suc m + n ≡ suc (m + n) = omega arith in
    rw e (version_run-add program answers m n (counted_step program answers c))

-- one step more is taken after the others
pub version_run-suc : (program : ProgramView) (answers : Answers) (steps : ℕ) (c : Counted)
    → version_run program answers (suc steps) c ≡ counted_step program answers (version_run program answers steps c)
version_run-suc program answers zero c = refl
version_run-suc program answers (suc steps) c = version_run-suc program answers steps (counted_step program answers c)

-- a run that rests at a budget took no more turns
pub turns_within : (program : ProgramView) (budget : ℕ) (s : State) → IsAtBudget program budget s → s.turns ≤ budget
turns_within program budget s (inl ended) = ended.1
turns_within program budget s (inr more) = omega (arith, more.1)

-- if a run rests at a budget, it rests at no later moment
no_later : (program : ProgramView) (answers : Answers) (budget count : ℕ) (c : Counted)
    → IsAtBudget program budget c.state → IsAtBudget program budget (version_run program answers count c).state
    → c ≡ version_run program answers count c
no_later program answers budget zero c at_c at_d = refl
no_later program answers budget (suc count) c (inl ended) at_d =
    sym (version_run-ended program answers (suc count) c ended.0)
no_later program answers budget (suc count) c (inr more) at_d =
    let next : Counted = counted_step program answers c in
    absurd (omega (
      arith,
      more.1,
      more.2,
      turns-step program answers c,
      turns-version_run program answers count next,
      turns_within program budget (version_run program answers count next).state at_d,
    ))

-- of two moments at which a run rests, the one with no fewer steps is no other
in_order : (program : ProgramView) (answers : Answers) (budget m n : ℕ) (c : Counted) → m ≤ n
    → IsAtBudget program budget (version_run program answers m c).state
    → IsAtBudget program budget (version_run program answers n c).state
    → version_run program answers m c ≡ version_run program answers n c
in_order program answers budget m n c le at_m at_n =
    let e : n ≡ m + (n - m) = omega arith in
    let half : Counted = version_run program answers m c in
    let Rests : Counted → Type 0 = λ d. IsAtBudget program budget d.state in
    let same : version_run program answers n c ≡ version_run program answers (n - m) half =
    ap (λ k. version_run program answers k c) e ∙ version_run-add program answers m (n - m) c in
    no_later program answers budget (n - m) half at_m (subst Rests same at_n) ∙ sym same

-- of any two moments at which it rests, neither is another
one_from : (program : ProgramView) (answers : Answers) (budget m n : ℕ) (c : Counted)
    → IsAtBudget program budget (version_run program answers m c).state
    → IsAtBudget program budget (version_run program answers n c).state
    → version_run program answers m c ≡ version_run program answers n c
one_from program answers budget m n c at_m at_n =
    ⊎_elim (λ less. in_order program answers budget m n c (omega (arith, less)) at_m at_n)
    (λ most. sym (in_order program answers budget n m c most at_n at_m)) (cases_lt m n)

-- a run rests once
pub version_rests_once : VersionRestsOnce
version_rests_once program input answers budget c d at_c at_d =
    let Rests : Counted → Type 0 = λ e. IsAtBudget program budget e.state in
    sym at_c.reached
    ∙ one_from program answers budget at_c.steps at_d.steps (version_start program input answers)
    (subst Rests (sym at_c.reached) at_c.rests) (subst Rests (sym at_d.reached) at_d.rests)
    ∙ at_d.reached

-- what follows a rest at a budget, and rests at so many turns more, rests at the sum
pub version_rests-sum : (program : ProgramView) (answers : Answers) (budget b steps : ℕ) (c d : Counted)
    → version_run program answers steps c ≡ d → IsAtBudget program budget c.state
    → IsAtBudget program (c.state.turns + b) d.state → IsAtBudget program (budget + b) d.state
version_rests-sum program answers budget b steps c d reached (inl ended) at_d =
    let Rests : Counted → Type 0 = λ e. IsAtBudget program (budget + b) e.state in
    subst Rests (sym (version_run-ended program answers steps c ended.0) ∙ reached)
    (inl (ended.0, omega (arith, ended.1)))
version_rests-sum program answers budget b steps c d reached (inr more) at_d =
    let Rests : ℕ → Type 0 = λ turns. IsAtBudget program (turns + b) d.state in
    subst Rests more.1 at_d

-- to go on by some turns and then by others is to go on by all
pub version_goes_on_adds : VersionGoesOnAdds
version_goes_on_adds program answers other a b c d e alike first second =
    let AtE : ℕ → Type 0 = λ turns. IsAtBudget program turns e.state in
    let Alike : Counted → Type 0 = λ d. AnswerAlike d.calls answers other in
    let sums : c.state.turns + a + b ≡ c.state.turns + (a + b) = omega arith in
    let front : version_run program other first.steps c ≡ d =
    sym (alike-run program answers other first.steps c (subst Alike (sym first.reached) alike)) ∙ first.reached in
    record {
      steps = first.steps + second.steps;
      reached = version_run-add program other first.steps second.steps c
          ∙ ap (version_run program other second.steps) front
          ∙ second.reached;
      rests = subst AtE sums
          (version_rests-sum program other (c.state.turns + a) b second.steps d e second.reached first.rests
          second.rests);
    }

-- a run of the text that goes on is one over nothing
as_version : (program : ProgramView) (turns calls : ℕ) (s t : State) (goes : GoesOnBy program turns s t)
    → VersionGoesOnBy program (by_history []) turns (record { state = s; calls = calls })
    (version_run program (by_history []) goes.steps (record { state = s; calls = calls }))
as_version program turns calls s t goes =
    let Rests : State → Type 0 = IsAtBudget program (s.turns + turns) in
    record {
      steps = goes.steps;
      reached = refl;
      rests = subst Rests (sym (nothing-run program goes.steps (record { state = s; calls = calls }) ∙ goes.reached))
          goes.rests;
    }

-- so it is in a run of the text
pub text_goes_on_adds : TextGoesOnAdds
text_goes_on_adds program a b s t u first second =
    let c : Counted = record { state = s; calls = 0 } in
    let d : Counted = version_run program (by_history []) first.steps c in
    let at_d : d.state ≡ t = nothing-run program first.steps c ∙ first.reached in
    let From : State → Type 0 = λ one. GoesOnBy program b one u in
    let rest : GoesOnBy program b d.state u = subst From (sym at_d) second in
    let e : Counted = version_run program (by_history []) rest.steps d in
    let whole : VersionGoesOnBy program (by_history []) (a + b) c e =
    version_goes_on_adds program (by_history []) (by_history []) a b c d e (λ call f within. refl)
    (as_version program a 0 s t first) (as_version program b d.calls d.state u rest) in
    let at_e : e.state ≡ u = nothing-run program rest.steps d ∙ rest.reached in
    let Rests : State → Type 0 = IsAtBudget program (s.turns + (a + b)) in
    record {
      steps = whole.steps;
      reached = sym (nothing-run program whole.steps c) ∙ ap (λ (one : Counted). one.state) whole.reached ∙ at_e;
      rests = subst Rests at_e whole.rests;
    }
