-- What runs show whose calls enter lawful versions.
use Rattle.std.proofs.Common.{◌≡◌, ◌≤◌, ◌<◌, ◌+◌, ◌-◌, ⊎_elim, inl, inr, ℕ, zero, suc, List, [], ◌∷◌}
use Rattle.std.proofs.Common.{Option, None, Some, IsSome}
use Rattle.std.proofs.Common.{refl, sym, ap, subst, ◌∙◌, arith}
use Rattle.std.specs.Prelude.{codes}
use Rattle.std.proofs.lemmas.Bool.{cases_lt}
use Rattle.sour_syntax.specs.declared.literal.FunId.{FunId}
use Rattle.sour_syntax.specs.declared.literal.Literal.{Literal}
use Rattle.sour_syntax.specs.Program.{ProgramView}
use Rattle.sour_semantics.specs.State.{State, Ending}
use Rattle.sour_semantics.specs.Step.{text_version, text_choice, step}
use Rattle.sour_semantics.specs.Run.{start, text_run, IsAtBudget, TextAt}
use Rattle.sour_semantics.specs.Agreement.{IsShownFrom}
use Rattle.sour_semantics.specs.Block.{BlockEnd, block_end, end_text, block}
use Rattle.sour_semantics.proofs.Runs.{text_run-suc}
use Rattle.laws_effects.specs.Onward.{Grows}
use Rattle.laws_runs.proofs.RunRests.{text_run-ended, text_run-add, turns-text_run}
use Rattle.laws_agreement.specs.Laws.{IsLawfulEntry}
use Rattle.laws_agreement.proofs.ShownRuns.{runs_are_shown}
use Rattle.sour_versions.specs.History.{Answers}
use Rattle.sour_versions.specs.Entering.{entering}
use Rattle.sour_versions.specs.VersionRun.{entry_choice, Counted, counted_by, counted_step, version_run, version_start}
use Rattle.sour_versions.specs.MayShow.{IsDoneWithin, text_after, MayShow}
use Rattle.laws_versions.specs.ShownLaws.{VersionRunsAreShown, block_of, VersionRunsMayShow, TextMayShow}
use Rattle.laws_versions.specs.ShownLaws.{AllTextMayShow}
use Rattle.laws_versions.specs.ShownLaws.{CutShowsText}
use Rattle.laws_versions.proofs.StepEffects.{grows-same, grows-on, IsStill, still-step, grows-still}
use Rattle.laws_versions.proofs.VersionRuns.{turns-step, version_run-add, turns_within}
use Rattle.laws_versions.proofs.ChosenVersions.{choices_in, run-chosen, holds-choices}

-- the run of the text shows what such a run shows
pub version_runs_are_shown : VersionRunsAreShown
version_runs_are_shown program input answers steps checked literals lawful =
    let Shown : State → Type 0 = IsShownFrom program (start program input) in
    let begin : Counted = version_start program input answers in
    subst Shown (run-chosen program answers steps begin)
    (runs_are_shown program input (answers 1 program.main).entry (choices_in program answers steps begin) checked
    literals (lawful 1 program.main) (holds-choices (IsLawfulEntry program) answers tt lawful program steps begin))

-- a moment of the text with more turns than a budget comes after the one at which it rests at the budget
after-rest : (program : ProgramView) (input : List Literal) (budget steps : ℕ) (s : State)
    (at : TextAt program input budget s) → budget < (text_after program input steps).turns
    → text_after program input steps ≡ text_run program (steps - at.steps) s
after-rest program input budget steps s at beyond =
    let begin : State = start program input in
    let here : State = text_after program input at.steps in
    let there : State = text_after program input steps in
    let few : here.turns ≤ budget =
    omega (arith, ap (λ (t : State). t.turns) at.reached, turns_within program budget s at.rests) in
    ⊎_elim
    (λ before.
    let e : at.steps ≡ steps + (at.steps - steps) = omega (arith, before) in
    let more : here ≡ text_run program (at.steps - steps) there =
    ap (λ k. text_run program k begin) e ∙ text_run-add program steps (at.steps - steps) begin in
    let grown : there.turns ≤ (text_run program (at.steps - steps) there).turns =
    turns-text_run program (at.steps - steps) there in
    absurd (omega (arith, beyond, few, ap (λ (t : State). t.turns) more, grown)))
    (λ after.
    let e : steps ≡ at.steps + (steps - at.steps) = omega (arith, after) in
    ap (λ k. text_run program k begin) e ∙ text_run-add program at.steps (steps - at.steps) begin
    ∙ ap (text_run program (steps - at.steps)) at.reached)
    (cases_lt steps at.steps)

-- a text that has more turns at some moment isn't done within the budget
not_done : (program : ProgramView) (input : List Literal) (budget steps : ℕ)
    → budget < (text_after program input steps).turns → IsDoneWithin program input budget → ⊥
not_done program input budget steps beyond (s, at, ended) =
    let same : text_after program input steps ≡ s =
    after-rest program input budget steps s at beyond ∙ text_run-ended program (steps - at.steps) s ended in
    omega (arith, beyond, ap (λ (t : State). t.turns) same, turns_within program budget s at.rests)

-- the output of a run of the text grows at its end alone
grows-run : (program : ProgramView) (steps : ℕ) (s : State) → Grows s.output (text_run program steps s).output
grows-run program zero s = grows-same s.output s.output refl
grows-run program (suc steps) s =
    let next : State = step program text_choice s in
    grows-on s.output next.output (text_run program steps next).output
    (grows-still s next (still-step program text_choice s)) (grows-run program steps next)

-- what a cut block shows begins with the output of the text at the budget
pub cut_shows_text : CutShowsText
cut_shows_text program input number budget end bytes s shows at =
    let From : State → Type 0 = λ t. Grows s.output t.output in
    subst From (sym (after-rest program input budget shows.steps s at shows.beyond))
    (grows-run program (shows.steps - at.steps) s)

-- what shows the same as an ended state of the text shows its end
shows-end : (program : ProgramView) (input : List Literal) (number budget : ℕ) (s : State) → IsSome s.ending
    → IsShownFrom program (start program input) s
    → MayShow program input number budget (block_end s.ending) (block_of program number s)
shows-end program input number budget s ended shown =
    let t : State = text_after program input shown.steps in
    let Ended : Option Ending → Type 0 = IsSome in
    inl (record {
      steps = shown.steps;
      ended = subst Ended shown.matches.ending ended;
      ends_so = ap block_end shown.matches.ending;
      written = ap (λ output. block number output (end_text program s.heap s.ending)) shown.matches.output
          ∙ ap (λ heap. block number t.output (end_text program heap s.ending)) (shown.matches.heap ended)
          ∙ ap (λ ending. block number t.output (end_text program t.heap ending)) shown.matches.ending;
    })

-- a state that is cut shows what the text shows one turn later
shows-cut : (program : ProgramView) (input : List Literal) (number budget : ℕ) (s next : State) → s.ending ≡ None
    → s.turns ≡ budget → s.turns < next.turns → IsStill s next → IsShownFrom program (start program input) next
    → MayShow program input number budget (block_end s.ending) (block_of program number s)
shows-cut program input number budget s next going at turned (inl none) shown = absurd (omega (arith, turned, none.0))
shows-cut program input number budget s next going at turned (inr same) shown =
    let beyond : budget < (text_after program input shown.steps).turns = omega (arith, at, turned, shown.turns) in
    inr (inl (record {
      not_done = not_done program input budget shown.steps beyond;
      steps = shown.steps;
      beyond = beyond;
      ends_so = ap block_end going;
      written = ap (λ ending. block number s.output (end_text program s.heap ending)) going
          ∙ ap (λ output. block number output (codes "cut")) (sym same ∙ shown.matches.output);
    }))

-- a state that rests at a budget shows what may be shown, if it and the next one show what the text shows
shows-rest : (program : ProgramView) (input : List Literal) (number budget : ℕ) (s next : State)
    → IsAtBudget program budget s → next.turns ≡ (step program text_choice s).turns → IsStill s next
    → IsShownFrom program (start program input) s → IsShownFrom program (start program input) next
    → MayShow program input number budget (block_end s.ending) (block_of program number s)
shows-rest program input number budget s next (inl ended) turns still shown later =
    shows-end program input number budget s ended.0 shown
shows-rest program input number budget s next (inr more) turns still shown later =
    shows-cut program input number budget s next more.0 more.1 (omega (arith, more.2, turns)) still later

-- a step of such a run takes no turn, or writes nothing, whatever it enters
still-by : (program : ProgramView) (answers : Answers) (c : Counted) (f : Option FunId)
    → IsStill c.state (counted_by program answers c f).state
still-by program answers c None = still-step program (entry_choice text_version) c.state
still-by program answers c (Some f) = still-step program (entry_choice (answers (c.calls + 1) f).entry) c.state

-- what rests at a budget without an end has taken all turns
cut-at : (program : ProgramView) (budget : ℕ) (s : State) → IsAtBudget program budget s → s.ending ≡ None
    → s.turns ≡ budget
cut-at program budget s (inl ended) going = absurd (cc (going, ended.0))
cut-at program budget s (inr more) going = more.1

-- the block of such a run may be shown
pub version_runs_may_show : VersionRunsMayShow
version_runs_may_show = record {
  rests = λ program input answers number budget c checked literals lawful at.
      let begin : Counted = version_start program input answers in
      let Shown : Counted → Type 0 = λ d. IsShownFrom program (start program input) d.state in
      let next : version_run program answers (at.steps + 1) begin ≡ counted_step program answers c =
      version_run-add program answers at.steps 1 begin ∙ ap (counted_step program answers) at.reached in
      shows-rest program input number budget c.state (counted_step program answers c).state at.rests
      (turns-step program answers c) (still-by program answers c (entering program c.state))
      (subst Shown at.reached (version_runs_are_shown program input answers at.steps checked literals lawful))
      (subst Shown next (version_runs_are_shown program input answers (at.steps + 1) checked literals lawful));
  cut_at = λ program input answers budget c at going. cut-at program budget c.state at.rests going;
  wants = λ program input answers number budget steps checked literals lawful.
      let shown : IsShownFrom program (start program input)
      (version_run program answers steps (version_start program input answers)).state =
      version_runs_are_shown program input answers steps checked literals lawful in
      inr (inr (record {
        steps = shown.steps;
        ends_so = refl;
        written = ap (λ output. block number output (codes "memory")) shown.matches.output;
      }));
  begins = λ program input number budget. inr (inr (record { steps = 0; ends_so = refl; written = refl }));
}

-- each state of the text shows what it shows itself
shown-self : (program : ProgramView) (t : State) (steps : ℕ) → IsShownFrom program t (text_run program steps t)
shown-self program t steps = record {
  steps = steps;
  turns = omega arith;
  matches = record { output = refl; rest = refl; ending = refl; heap = λ ended. refl };
}

-- what the text shows at a budget may be shown
text-rest : (program : ProgramView) (input : List Literal) (number budget : ℕ) (s : State)
    → TextAt program input budget s
    → MayShow program input number budget (block_end s.ending) (block_of program number s)
text-rest program input number budget s at =
    let begin : State = start program input in
    let Shown : State → Type 0 = IsShownFrom program begin in
    shows-rest program input number budget s (step program text_choice s) at.rests refl
    (still-step program text_choice s)
    (subst Shown at.reached (shown-self program begin at.steps))
    (subst Shown (text_run-suc program at.steps begin ∙ ap (step program text_choice) at.reached)
    (shown-self program begin (suc at.steps)))

-- what the text alone shows may be shown
pub text_may_show : TextMayShow
text_may_show program input number budget end bytes (inl shows) =
    let May : BlockEnd → Type 0 = λ e. MayShow program input number budget e bytes in
    let Written : List ℕ → Type 0 = MayShow program input number budget (block_end shows.state.ending) in
    subst May (sym shows.ends_so) (subst Written (sym shows.written)
    (text-rest program input number budget shows.state shows.rests))
text_may_show program input number budget end bytes (inr shows) =
    inr (inr (record { steps = shows.steps; ends_so = shows.ends_so; written = shows.written }))

-- and so it is for all inputs
pub all_text_may_show : AllTextMayShow
all_text_may_show program [] number budget [] bytes shows = shows
all_text_may_show program [] number budget (end ∷ ends) bytes shows = shows
all_text_may_show program (input ∷ inputs) number budget [] bytes shows = shows
all_text_may_show program (input ∷ inputs) number budget (end ∷ ends) bytes (first, rest, split, one, others) = (
  first,
  rest,
  split,
  text_may_show program input number budget end first one,
  all_text_may_show program inputs (number + 1) budget ends rest others,
)
