-- Free steps, one after the other.
use Rattle.std.proofs.Common.{◌≡◌, ◌≤◌, ◌+◌, ℕ, zero, suc, Bool, false, List, [], ◌∷◌, ◌++◌, Option, IsSome, replicate, refl, sym, ap, subst, ◌∙◌, arith}
use Rattle.sour_syntax.specs.Program.{ProgramView}
use Rattle.sour_semantics.specs.State.{State, Ending}
use Rattle.sour_semantics.specs.Step.{step, text_choice}
use Rattle.sour_semantics.specs.Run.{text_run}
use Rattle.sour_semantics.specs.Agreement.{free_choice, free_run, Match, IsShownFrom, Agree}
use Rattle.sour_semantics.proofs.Runs.{unless_ended-stays}
use Rattle.laws_agreement.specs.Laws.{later}
use Rattle.laws_agreement.proofs.LaterRuns.{later-free_run, later-text_run}

-- some steps, and then others
pub free_run-append : (program : ProgramView) (before after : List Bool) (s : State)
    → free_run program (before ++ after) s ≡ free_run program after (free_run program before s)
free_run-append program [] after s = refl
free_run-append program (leaves ∷ before) after s = free_run-append program before after (step program (free_choice leaves) s)

-- a run that has ended stays as it is
pub free_run-ended : (program : ProgramView) (choices : List Bool) (s : State) → IsSome s.ending → free_run program choices s ≡ s
free_run-ended program [] s ended = refl
free_run-ended program (leaves ∷ more) s ended =
    let stays : step program (free_choice leaves) s ≡ s = unless_ended-stays s.ending s _ ended in
    ap (free_run program more) stays ∙ free_run-ended program more s ended

-- a run of the text is free steps that never leave
text_run-free : (program : ProgramView) (steps : ℕ) (s : State) → text_run program steps s ≡ free_run program (replicate steps false) s
text_run-free program zero s = refl
text_run-free program (suc steps) s = text_run-free program steps (step program text_choice s)

-- free steps from t come to a state that shows the same as s, with as many turns or more
pub record IsShownFreely (program : ProgramView) (t s : State) : Type 0 where
  pub choices : List Bool
  pub turns : s.turns ≤ (free_run program choices t).turns
  pub matches : Match s (free_run program choices t)

-- those of the text are such steps
pub shown-freely : (program : ProgramView) (t s : State) → IsShownFrom program t s → IsShownFreely program t s
shown-freely program t s shown =
    let same : text_run program shown.steps t ≡ free_run program (replicate shown.steps false) t = text_run-free program shown.steps t in
    let Reaches : State → Type 0 = λ u. s.turns ≤ u.turns in
    let Matches : State → Type 0 = Match s in
    record {
      choices = replicate shown.steps false;
      turns = subst Reaches same shown.turns;
      matches = subst Matches same shown.matches;
    }

-- what shows the same as something that is shown, with no more turns, is shown
pub shown-less : (program : ProgramView) (t s u : State) → s.turns ≤ u.turns → Match s u → IsShownFrom program t u → IsShownFrom program t s
shown-less program t s u turns matches shown =
    let Ended : Option Ending → Type 0 = IsSome in
    record {
      steps = shown.steps;
      turns = omega (arith, turns, shown.turns);
      matches = record {
        output = matches.output ∙ shown.matches.output;
        rest = matches.rest ∙ shown.matches.rest;
        ending = matches.ending ∙ shown.matches.ending;
        heap = λ ended. matches.heap ended ∙ shown.matches.heap (subst Ended matches.ending ended);
      };
    }

-- a state shows the same as it does with more turns
pub Match-later : (turns : ℕ) (s : State) → Match s (later turns s)
Match-later turns s = record { output = refl; rest = refl; ending = refl; heap = λ ended. refl }

-- what agrees, agrees with as many turns more on both sides
pub Agree-later : (program : ProgramView) (turns : ℕ) (s t : State) → Agree program s t → Agree program (later turns s) (later turns t)
Agree-later program turns s t agrees choices =
    let shown : IsShownFrom program t (free_run program choices s) = agrees choices in
    let far : State = text_run program shown.steps t in
    let Reaches : State → Type 0 = λ u. (free_run program choices s).turns + turns ≤ u.turns in
    let Matches : State → Type 0 = λ u. Match (later turns (free_run program choices s)) u in
    let Shown : State → Type 0 = IsShownFrom program (later turns t) in
    let same : later turns far ≡ text_run program shown.steps (later turns t) = sym (later-text_run turns program shown.steps t) in
    let more : (free_run program choices s).turns + turns ≤ far.turns + turns = omega (arith, shown.turns) in
    let match : Match (later turns (free_run program choices s)) (later turns far) =
    record { output = shown.matches.output; rest = shown.matches.rest; ending = shown.matches.ending; heap = shown.matches.heap } in
    subst Shown (sym (later-free_run turns program choices s)) (record {
      steps = shown.steps;
      turns = subst Reaches same more;
      matches = subst Matches same match;
    })
