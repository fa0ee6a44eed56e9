-- How many steps may follow one another without a turn.
use Rattle.std.proofs.Common.{◌≡◌, ◌<◌, ◌+◌, ◌*◌, ◌≤◌, ℕ, suc, Bool, true, false, not, List, [], ◌∷◌, Option, None, Some, length, replicate, refl, sym, ap, subst, ◌∙◌, arith}
use Rattle.std.specs.List.{AllByRecursion}
use Rattle.std.proofs.lemmas.List.{length-replicate}
use Rattle.std.proofs.lemmas.Result.{IfOk-at_ok}
use Rattle.sour_syntax.specs.declared.instruction.Instr.{Instr}
use Rattle.sour_syntax.specs.declared.instruction.Instr.TheVariants.{Assume}
use Rattle.sour_syntax.specs.declared.instruction.Line.{Line}
use Rattle.sour_syntax.specs.declared.exit.Exit.{Exit}
use Rattle.sour_syntax.specs.Exits.{top_continuation, continuations_of}
use Rattle.sour_syntax.specs.Labels.{from_label, first_label}
use Rattle.sour_syntax.specs.Program.{ProgramView, IsProgram}
use Rattle.sour_syntax.specs.Terminator.{IsTerminator}
use Rattle.sour_syntax.proofs.Everywhere.{AllByRecursion-replicate}
use Rattle.sour_semantics.specs.State.{Frame, State, Ending}
use Rattle.sour_semantics.specs.Step.{Choice, Entry, exit_code, step, text_choice, is_anchor, lines_of}
use Rattle.sour_semantics.specs.Run.{text_run}
use Rattle.sour_semantics.specs.Agreement.{run_by}
use Rattle.sour_semantics.specs.Validity.{IsStanding, IsValidFrame, IsValidEnding, IsValid, MayChoose}
use Rattle.sour_semantics.proofs.Places.{lines_of-body}
use Rattle.sour_semantics.proofs.Runs.{text_run-suc}
use Rattle.laws_effects.specs.Effect.{world_of, Deed, goes, asks, gives, lands, finishes, Effect, effect, done, applied, effect_first, effect_unless}
use Rattle.laws_effects.specs.Onward.{IsDeedOf, IsTurnOf, IsEffectOf}
use Rattle.laws_effects.proofs.Onward.{effect-is}
use Rattle.laws_effects.proofs.Steps.{steps_by_effect, shown-applied}
use Rattle.laws_validity.proofs.Bodies.{depth, Leads, IsBodyOf, IsBodyOf-code}
use Rattle.laws_validity.proofs.Reached.{reached}
use Rattle.laws_validity.proofs.Runs.{IsValid-run_by, run_by-text}
use Rattle.laws_validity.proofs.States.{going}
use Rattle.laws_validity.proofs.Steps.{IsValid-step}
use Rattle.laws_runs.proofs.FollowingLines.{following}
use Rattle.laws_runs.proofs.ChosenRuns.{turns-run_by, going_before}
use Rattle.laws_runs.proofs.LowerBodies.{left, left-most, anchor_made, HasTop, IfOk-top, left-lower}
use Rattle.laws_runs.proofs.StepTurns.{Near-step}

-- a run that goes on with no turn more has less left
abbrev pub IsNearer : ProgramView → ℕ → ℕ → State → Type 0
IsNearer program most turns t = t.ending ≡ None → t.turns ≡ turns → left program t.frames < most

-- in the code of a frame as many lines stand from the label of the first of these on
abbrev AreLeft : ProgramView → Frame → List Line → Type 0
AreLeft program frame rest = length (from_label (first_label rest) (lines_of program frame.code)) ≡ length rest

-- what is true isn't its negation
not-false : (b : Bool) → false ≡ not b → b ≡ true
not-false true is = refl
not-false false is = absurd (cc)

-- a deed that takes no turn goes to the line behind it, leads to a lower body, or ends the run
IsNearer-done : (program : ProgramView) (entry : Entry) (frame : Frame) (frames : List Frame) (instr : Instr)
    (rest : List Line) (deed : Deed) (s : State) → ((IsTerminator instr → ⊥) → AreLeft program frame rest)
    → IsProgram program
    → AllByRecursion (Leads program frame.code) (continuations_of instr)
    → (is_anchor frame.label ≡ true → 0 < depth frame.code)
    → IsDeedOf program frame s.heap instr (first_label rest) deed
    → IsTurnOf frame (world_of s) instr (first_label rest) false deed
    → IsNearer program (depth frame.code * 4096 + suc (length rest)) s.turns
    (done program entry deed (going (frame ∷ frames) s))
IsNearer-done program entry frame frames instr rest (goes label environment after) s behind checked leads made does
    takes =
    let next : (label ≡ first_label rest) × (IsTerminator instr → ⊥) = takes.0 refl in
    let here : length (from_label label (lines_of program frame.code)) ≡ length rest =
    ap (λ l. length (from_label l (lines_of program frame.code))) next.0 ∙ behind next.1 in
    λ going same. omega (arith, here)
IsNearer-done program entry frame frames instr rest (asks x f values label) s behind checked leads made does takes =
    absurd (cc)
IsNearer-done program entry frame frames instr rest (gives value) s behind checked leads made does takes = absurd (cc)
IsNearer-done program entry frame frames instr rest (lands tops) s behind checked leads made does takes =
    let exit : Exit = does.1 in
    let Lead : Instr → Type 0 = λ i. AllByRecursion (Leads program frame.code) (continuations_of i) in
    let lead : Lead (Assume does.0 exit) = subst Lead does.2 leads in
    let top : HasTop (exit_code frame.code exit.target.code) tops =
    IfOk-at_ok (HasTop (exit_code frame.code exit.target.code)) does.3 (IfOk-top program frame s.heap exit) in
    λ going same. omega (
      arith,
      left-lower program frame.code (top_continuation exit) tops frames checked lead.0
          (made (not-false (is_anchor frame.label) takes)) top,
    )
IsNearer-done program entry frame frames instr rest (finishes ending) s behind checked leads made does takes =
    λ going same. absurd (cc)

-- an effect takes a turn, or its deed is such
IsNearer-applied : (program : ProgramView) (entry : Entry) (frame : Frame) (frames : List Frame) (instr : Instr)
    (rest : List Line) (turn : Bool) (deed : Deed) (s : State) → ((IsTerminator instr → ⊥) → AreLeft program frame rest)
    → IsProgram program → AllByRecursion (Leads program frame.code) (continuations_of instr)
    → (is_anchor frame.label ≡ true → 0 < depth frame.code)
    → IsEffectOf program frame (world_of s) instr (first_label rest) (record { turn = turn; deed = deed })
    → IsNearer program (depth frame.code * 4096 + suc (length rest)) s.turns
    (applied program entry (record { turn = turn; deed = deed }) (going (frame ∷ frames) s))
IsNearer-applied program entry frame frames instr rest true deed s behind checked leads made is =
    let shows = shown-applied program entry (record { turn = true; deed = deed }) (going (frame ∷ frames) s) in
    λ going same. absurd (omega (arith, shows.turns, same))
IsNearer-applied program entry frame frames instr rest false deed s behind checked leads made is =
    IsNearer-done program entry frame frames instr rest deed s behind checked leads made is.does is.takes

-- the first of the lines that are left is carried out
IsNearer-first : (program : ProgramView) (choice : Choice) (arrays : ℕ) (frame : Frame) (frames : List Frame)
    (lines : List Line) (s : State)
    → IsProgram program → IsValidFrame program arrays frame → from_label frame.label (lines_of program frame.code) ≡ lines
    → IsNearer program (depth frame.code * 4096 + length lines) s.turns
    (applied program choice.entry (effect_first program choice.leaves frame (world_of s) lines)
    (going (frame ∷ frames) s))
IsNearer-first program choice arrays frame frames [] s checked valid stands = λ going same. absurd (cc)
IsNearer-first program choice arrays frame frames (line ∷ rest) s checked valid stands =
    let one : IsBodyOf program frame.code valid.body = IsBodyOf-code program frame.code valid.body checked valid.code valid.runs in
    let lines : lines_of program frame.code ≡ valid.body.lines = lines_of-body program frame.code valid.body valid.runs in
    let at : from_label frame.label valid.body.lines ≡ line ∷ rest = ap (from_label frame.label) (sym lines) ∙ stands in
    let e : Effect = effect program choice.leaves frame (world_of s) line.instr (first_label rest) in
    IsNearer-applied program choice.entry frame frames line.instr rest e.turn e.deed s
    (λ going. ap (λ (all : List Line). length (from_label (first_label rest) all)) lines
    ∙ ap length (following frame.label valid.body.lines line rest one.is.labels one.is.end at going).stands)
    checked (one.leads valid.count frame.label _ line rest valid.path (record { stands = at }))
    (anchor_made program frame.code valid.body frame.label line rest one at)
    (effect-is program frame (first_label rest) (world_of s) choice.leaves line.instr)

-- a run takes a turn, ends, or has less left, by its frames and its end
IsNearer-parts : (program : ProgramView) (choice : Choice) (arrays : ℕ) (frames : List Frame) (ending : Option Ending)
    (s : State)
    → IsProgram program → AllByRecursion (IsValidFrame program arrays) frames
    → IsNearer program (left program frames) s.turns
    (applied program choice.entry (effect_unless program choice.leaves (world_of s) frames ending)
    (record s { frames = frames; ending = ending }))
IsNearer-parts program choice arrays frames (Some ending) s checked valid = λ going same. absurd (cc)
IsNearer-parts program choice arrays [] None s checked valid = λ going same. absurd (cc)
IsNearer-parts program choice arrays (frame ∷ frames) None s checked valid =
    IsNearer-first program choice arrays frame frames (from_label frame.label (lines_of program frame.code)) s checked
    valid.0 refl

-- a step takes a turn, ends, or leaves less
pub IsNearer-step : (program : ProgramView) (choice : Choice) (s : State) → IsProgram program → IsValid program s
    → IsNearer program (left program s.frames) s.turns (step program choice s)
IsNearer-step program choice s checked valid =
    let Nearer : State → Type 0 = IsNearer program (left program s.frames) s.turns in
    subst Nearer (sym (steps_by_effect program choice s))
    (IsNearer-parts program choice (length s.heap) s.frames s.ending s checked valid.frames)

-- no more steps than are left
steps_left : (program : ProgramView) (choices : List Choice) (s : State) → IsProgram program → IsValid program s
    → AllByRecursion (MayChoose program) choices → (run_by program choices s).ending ≡ None → (run_by program choices s).turns ≡ s.turns
    → length choices + left program (run_by program choices s).frames ≤ left program s.frames
steps_left program [] s checked valid may going same = omega arith
steps_left program (choice ∷ choices) s checked valid may going same =
    let next : State = step program choice s in
    let turns : next.turns ≡ s.turns = omega (arith, (Near-step program choice s).least, turns-run_by program choices next, same) in
    let nearer : left program next.frames < left program s.frames =
    IsNearer-step program choice s checked valid (going_before program choices next going) turns in
    omega (arith, nearer, steps_left program choices next checked (IsValid-step program choice s checked valid may.0) may.1 going (same ∙ sym turns))

-- there are lines where there are not none
some_lines : (lines : List Line) → (lines ≡ [] → ⊥) → 0 < length lines
some_lines [] some = absurd (some refl)
some_lines (line ∷ lines) some = omega arith

-- where frames stand there is a step left
some_left : (program : ProgramView) (arrays : ℕ) (frames : List Frame) → IsProgram program
    → AllByRecursion (IsValidFrame program arrays) frames → IsStanding frames → 0 < left program frames
some_left program arrays [] checked valid stand = absurd stand
some_left program arrays (frame ∷ frames) checked valid stand =
    let top : IsValidFrame program arrays frame = valid.0 in
    let one : IsBodyOf program frame.code top.body = IsBodyOf-code program frame.code top.body checked top.code top.runs in
    let lines : lines_of program frame.code ≡ top.body.lines = lines_of-body program frame.code top.body top.runs in
    omega (
      arith,
      some_lines (from_label frame.label (lines_of program frame.code))
          (λ none. reached top.body top.count frame.label _ one.is top.path (ap (from_label frame.label) (sym lines) ∙ none)),
    )

-- valid frames have no more left than a bundle and a version have lines
left-bound : (program : ProgramView) (arrays : ℕ) (frames : List Frame) → IsProgram program
    → AllByRecursion (IsValidFrame program arrays) frames → left program frames ≤ 135168
left-bound program arrays [] checked valid = omega arith
left-bound program arrays (frame ∷ frames) checked valid =
    let top : IsValidFrame program arrays frame = valid.0 in
    let one : IsBodyOf program frame.code top.body = IsBodyOf-code program frame.code top.body checked top.code top.runs in
    omega (arith, one.low, left-most program frame.code frame.label top.body top.runs one.lines)

-- turns come soon
pub soon : (program : ProgramView) (choices : List Choice) (last : Choice) (s : State) → IsProgram program → IsValid program s
    → AllByRecursion (MayChoose program) choices → MayChoose program last → (run_by program choices s).ending ≡ None
    → (step program last (run_by program choices s)).turns ≡ s.turns → suc (length choices) ≤ 135168
soon program choices last s checked valid may may_last going same =
    let before : State = run_by program choices s in
    let none : before.turns ≡ s.turns = omega (arith, turns-run_by program choices s, (Near-step program last before).least, same) in
    let after : IsValid program before = IsValid-run_by program choices s checked may valid in
    let Ends : Option Ending → Type 0 = λ ending. IsValidEnding program (length before.heap) ending before.frames in
    let stand : IsStanding before.frames = subst Ends going after.ending in
    omega (
      arith,
      steps_left program choices s checked valid may going none,
      some_left program (length before.heap) before.frames checked after.frames stand,
      left-bound program (length s.heap) s.frames checked valid.frames,
    )

-- so they do in a run that enters text versions alone
pub text_soon : (program : ProgramView) (steps : ℕ) (s : State) → IsProgram program → IsValid program s
    → (text_run program steps s).ending ≡ None → (text_run program (suc steps) s).turns ≡ s.turns → suc steps ≤ 135168
text_soon program steps s checked valid going same =
    let choices : List Choice = replicate steps text_choice in
    let along : run_by program choices s ≡ text_run program steps s = run_by-text program steps s in
    let within : suc (length choices) ≤ 135168 =
    soon program choices text_choice s checked valid (AllByRecursion-replicate (MayChoose program) steps text_choice tt) tt
    (ap (λ (t : State). t.ending) along ∙ going)
    (ap (λ (t : State). (step program text_choice t).turns) along ∙ sym (ap (λ (t : State). t.turns) (text_run-suc program steps s)) ∙ same) in
    omega (arith, within, length-replicate steps text_choice)
