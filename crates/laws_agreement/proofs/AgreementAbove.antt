-- Agreement above further frames.
use Rattle.std.proofs.Common.{◌≡◌, ◌⊎◌, inl, inr, ◌+◌, ◌-◌, ◌≤◌, ℕ, Bool, List, ◌∷◌, ◌++◌, Option, None, Some, IsSome, refl, sym, ap, subst, ◌∙◌, arith}
use Rattle.sour_syntax.specs.declared.literal.Value.{Value}
use Rattle.sour_syntax.specs.Program.{ProgramView}
use Rattle.sour_semantics.specs.State.{Frame, State, Ending, returned}
use Rattle.sour_semantics.specs.Step.{resumes}
use Rattle.sour_semantics.specs.Agreement.{free_run, Match, IsShownFrom, Agree}
use Rattle.laws_agreement.specs.Laws.{later, above, returned_into, HasTop, IsReturned, StaysAbove, ComesBack, SplitsAt, AgreesAbove}
use Rattle.laws_agreement.proofs.LaterRuns.{later-free_run}
use Rattle.laws_agreement.proofs.RunsAlone.{free_run-append, free_run-ended, IsShownFreely, shown-freely, shown-less, Match-later}
use Rattle.laws_agreement.proofs.FramesBelow.{runs_above}

-- a run whose first steps returned has ended with that value
ended-split : (program : ProgramView) (low : List Frame) (choices : List Bool) (s : State) (splits : SplitsAt program low choices s)
    → free_run program choices s ≡ free_run program splits.before s
ended-split program low choices s splits =
    let Ended : Option Ending → Type 0 = IsSome in
    let ended : IsSome (free_run program splits.before s).ending = subst Ended (sym splits.back.ended) refl in
    ap (λ all. free_run program all s) splits.split
    ∙ free_run-append program splits.before splits.after s
    ∙ free_run-ended program splits.after (free_run program splits.before s) ended

-- an end with a value is one
IsReturned-is : (ending : Option Ending) (value : Value) → ending ≡ Some (returned value) → IsReturned ending
IsReturned-is ending value is = let Returned : Option Ending → Type 0 = IsReturned in subst Returned (sym is) tt

-- what is returned into a frame after two runs that show the same differs in turns alone
resumes-later : (turns : ℕ) (value : Value) (below : Frame) (low : List Frame) (waits : Option ℕ) (s t : State)
    → t.heap ≡ s.heap → t.rest ≡ s.rest → t.output ≡ s.output → t.turns ≡ s.turns + turns
    → resumes value below low waits (record t { ending = None }) ≡ later turns (resumes value below low waits (record s { ending = None }))
resumes-later turns value below low None s t heap rest output more = cc
resumes-later turns value below low (Some variable) s t heap rest output more = cc

-- both stay above the further frames
both-stay : (program : ProgramView) (low : List Frame) (choices others : List Bool) (s t u : State)
    → StaysAbove low (free_run program choices s) (free_run program choices (above low s))
    → StaysAbove low (free_run program others t) (free_run program others (above low t))
    → (free_run program choices s).turns ≤ (free_run program others t).turns → Match (free_run program choices s) (free_run program others t)
    → Agree program (above low t) u → IsShownFrom program u (free_run program choices (above low s))
both-stay program low choices others s t u first second turns matches agrees =
    let Shown : State → Type 0 = IsShownFrom program u in
    let here : State = free_run program choices s in
    let there : State = free_run program others t in
    subst Shown (sym first.same) (shown-less program u (above low here) (above low there) turns
    (record { output = matches.output; rest = matches.rest; ending = matches.ending; heap = matches.heap })
    (subst Shown second.same (agrees others)))

-- both come back, with the same value
both-come_back : (program : ProgramView) (below : Frame) (low : List Frame) (before after others : List Bool) (s t u : State)
    → ComesBack (below ∷ low) (free_run program before s) (free_run program before (above (below ∷ low) s))
    → ComesBack (below ∷ low) (free_run program others t) (free_run program others (above (below ∷ low) t))
    → (free_run program before s).turns ≤ (free_run program others t).turns → Match (free_run program before s) (free_run program others t)
    → Agree program (above (below ∷ low) t) u → IsShownFrom program u (free_run program (before ++ after) (above (below ∷ low) s))
both-come_back program below low before after others s t u first second turns matches agrees =
    let Shown : State → Type 0 = IsShownFrom program u in
    let Ended : Option Ending → Type 0 = IsSome in
    let here : State = free_run program before s in
    let there : State = free_run program others t in
    let more : ℕ = there.turns - here.turns in
    let back : State = returned_into (below ∷ low) first.value here in
    let value : second.value ≡ first.value = cc (first.ended, second.ended, matches.ending) in
    let ended : IsSome here.ending = subst Ended (sym first.ended) refl in
    let longer : there.turns ≡ here.turns + more = omega (arith, turns) in
    let differ : returned_into (below ∷ low) second.value there ≡ later more back =
    ap (λ v. returned_into (below ∷ low) v there) value
    ∙ resumes-later more first.value below low below.waits here there (sym (matches.heap ended)) (sym matches.rest) (sym matches.output) longer in
    let theirs : free_run program (others ++ after) (above (below ∷ low) t) ≡ later more (free_run program after back) =
    free_run-append program others after (above (below ∷ low) t)
    ∙ ap (free_run program after) (second.same ∙ differ)
    ∙ later-free_run more program after back in
    let ours : free_run program (before ++ after) (above (below ∷ low) s) ≡ free_run program after back =
    free_run-append program before after (above (below ∷ low) s) ∙ ap (free_run program after) first.same in
    let fewer : (free_run program after back).turns ≤ (free_run program after back).turns + more = omega arith in
    subst Shown (sym ours) (shown-less program u (free_run program after back) (later more (free_run program after back)) fewer
    (Match-later more (free_run program after back)) (subst Shown theirs (agrees (others ++ after))))

-- the one stays above the further frames
one-stays : (program : ProgramView) (below : Frame) (low : List Frame) (choices others : List Bool) (s t u : State)
    → StaysAbove (below ∷ low) (free_run program choices s) (free_run program choices (above (below ∷ low) s))
    → StaysAbove (below ∷ low) (free_run program others t) (free_run program others (above (below ∷ low) t)) ⊎ SplitsAt program (below ∷ low) others t
    → (free_run program choices s).turns ≤ (free_run program others t).turns → Match (free_run program choices s) (free_run program others t)
    → Agree program (above (below ∷ low) t) u → IsShownFrom program u (free_run program choices (above (below ∷ low) s))
one-stays program below low choices others s t u first (inl second) turns matches agrees =
    both-stay program (below ∷ low) choices others s t u first second turns matches agrees
one-stays program below low choices others s t u first (inr second) turns matches agrees =
    absurd (first.going (IsReturned-is (free_run program choices s).ending second.back.value
    (matches.ending ∙ ap (λ (v : State). v.ending) (ended-split program (below ∷ low) others t second) ∙ second.back.ended)))

-- the one comes back
one-comes_back : (program : ProgramView) (below : Frame) (low : List Frame) (before after others : List Bool) (s t u : State)
    → ComesBack (below ∷ low) (free_run program before s) (free_run program before (above (below ∷ low) s))
    → StaysAbove (below ∷ low) (free_run program others t) (free_run program others (above (below ∷ low) t)) ⊎ SplitsAt program (below ∷ low) others t
    → (free_run program before s).turns ≤ (free_run program others t).turns → Match (free_run program before s) (free_run program others t)
    → Agree program (above (below ∷ low) t) u → IsShownFrom program u (free_run program (before ++ after) (above (below ∷ low) s))
one-comes_back program below low before after others s t u first (inl second) turns matches agrees =
    absurd (second.going (IsReturned-is (free_run program others t).ending first.value (sym matches.ending ∙ first.ended)))
one-comes_back program below low before after others s t u first (inr second) turns matches agrees =
    let same : free_run program others t ≡ free_run program second.before t = ended-split program (below ∷ low) others t second in
    let Reaches : State → Type 0 = λ v. (free_run program before s).turns ≤ v.turns in
    let Matches : State → Type 0 = Match (free_run program before s) in
    both-come_back program below low before after second.before s t u first second.back (subst Reaches same turns) (subst Matches same matches) agrees

-- some free steps, which stay above the further frames or return into them
run-agrees : (program : ProgramView) (below : Frame) (low : List Frame) (choices : List Bool) (s t u : State)
    → HasTop t.frames → ¬ IsReturned t.ending
    → StaysAbove (below ∷ low) (free_run program choices s) (free_run program choices (above (below ∷ low) s)) ⊎ SplitsAt program (below ∷ low) choices s
    → Agree program s t → Agree program (above (below ∷ low) t) u → IsShownFrom program u (free_run program choices (above (below ∷ low) s))
run-agrees program below low choices s t u top going (inl first) agrees after_return =
    let shown : IsShownFreely program t (free_run program choices s) = shown-freely program t (free_run program choices s) (agrees choices) in
    one-stays program below low choices shown.choices s t u first (runs_above program shown.choices (below ∷ low) t top going)
    shown.turns shown.matches after_return
run-agrees program below low choices s t u top going (inr first) agrees after_return =
    let shown : IsShownFreely program t (free_run program first.before s) =
    shown-freely program t (free_run program first.before s) (agrees first.before) in
    let Shown : List Bool → Type 0 = λ all. IsShownFrom program u (free_run program all (above (below ∷ low) s)) in
    subst Shown (sym first.split)
    (one-comes_back program below low first.before first.after shown.choices s t u first.back
    (runs_above program shown.choices (below ∷ low) t top going) shown.turns shown.matches after_return)

-- what agrees with a run goes on to agree with it above further frames
pub agrees_above : AgreesAbove
agrees_above program below low s t u top_s going_s top_t going_t agrees whole choices =
    run-agrees program below low choices s t u top_t going_t (runs_above program choices (below ∷ low) s top_s going_s) agrees whole
