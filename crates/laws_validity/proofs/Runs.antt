-- A run of a checked program is valid throughout.
use Rattle.std.proofs.Common.{◌≡◌, ℕ, zero, suc, List, [], ◌∷◌, Option, Some, length, replicate, refl, sym, ap, ◌∙◌, subst, arith}
use Rattle.std.specs.List.{AllByRecursion, slice_get}
use Rattle.sour_syntax.specs.declared.literal.Literal.{Literal}
use Rattle.sour_syntax.specs.declared.literal.Value.{Value}
use Rattle.sour_syntax.specs.declared.program.Function.{Function}
use Rattle.sour_syntax.specs.declared.program.Version.{Version}
use Rattle.sour_syntax.specs.BodyView.{BodyView}
use Rattle.sour_syntax.specs.Program.{ProgramView, IsProgram, HasMain}
use Rattle.sour_syntax.specs.Targets.{version_body, text_body}
use Rattle.sour_syntax.proofs.Everywhere.{AllByRecursion-replicate}
use Rattle.sour_semantics.specs.State.{Heap, FrameCode, text, Ending, stuck, State}
use Rattle.sour_semantics.specs.Step.{Choice, text_choice, step, body_at, body_or_empty, entered_frame}
use Rattle.sour_semantics.specs.Run.{start_of, start, text_run}
use Rattle.sour_semantics.specs.Validity.{IsCode, IsValidFrame, IsValid, IsValidEnding, MayChoose, MayStart}
use Rattle.sour_semantics.specs.Agreement.{run_by}
use Rattle.laws_validity.proofs.Values.{IsLiteralOf}
use Rattle.laws_validity.proofs.Frames.{IsValidFrame-entered}
use Rattle.laws_validity.proofs.Steps.{IsValid-step}

-- the start of a run of a body, with values for its parameters, is valid
pub IsValid-start_of : (program : ProgramView) (code : FrameCode) (body : BodyView) (values : List Value) (heap : Heap)
    (rest : List Literal) (output : List ℕ) → body_at program code ≡ Some body → IsCode program code
    → MayStart program body.parameters values heap rest output → IsValid program (start_of program code values heap rest output)
IsValid-start_of program code body values heap rest output runs fine may =
    let Enters : Option BodyView → Type 0 =
    λ found. IsValidFrame program (length heap) (entered_frame code (body_or_empty found) values) in
    let frame : Enters (body_at program code) =
    subst Enters (sym runs) (IsValidFrame-entered program (length heap) code body values runs fine may.count may.are) in
    record { frames = (frame, tt); heap = may.heap_is; input = may.input; output = may.room; ending = (refl, tt) }

-- the body of the version that main has
pub runs_main : (program : ProgramView) (main : HasMain program) → body_at program (text program.main 0) ≡ Some main.version.body
runs_main program main =
    ap (λ (found : Option Function). text_body found 0) main.found
    ∙ ap (λ (versions : List Version). version_body (slice_get versions 0)) main.text

-- a run of a body without parameters may start with the input of the program, no array and no output
pub MayStart-main : (program : ProgramView) (parameters : ℕ) (input : List Literal) → parameters ≡ 0
    → AllByRecursion (IsLiteralOf program) input → MayStart program parameters [] [] input []
MayStart-main program parameters input none literals = record {
  count = sym none;
  are = tt;
  heap_is = record { cells = omega arith; values = tt };
  input = literals;
  room = omega arith;
}

-- the start of a run of main is valid
pub IsValid-start : (program : ProgramView) (input : List Literal) → IsProgram program → AllByRecursion (IsLiteralOf program) input
    → IsValid program (start program input)
IsValid-start program input is literals =
    IsValid-start_of program (text program.main 0) is.main.version.body [] [] input [] (runs_main program is.main) tt
    (MayStart-main program is.main.version.body.parameters input is.main.parameters literals)

-- and so is every state behind a valid one
pub IsValid-run_by : (program : ProgramView) (choices : List Choice) (s : State) → IsProgram program
    → AllByRecursion (MayChoose program) choices → IsValid program s → IsValid program (run_by program choices s)
IsValid-run_by program [] s is may valid = valid
IsValid-run_by program (choice ∷ choices) s is may valid =
    IsValid-run_by program choices (step program choice s) is may.1 (IsValid-step program choice s is valid may.0)

-- a valid state isn't stuck
not_stuck : (program : ProgramView) (s : State) → IsValid program s → s.ending ≡ Some stuck → ⊥
not_stuck program s valid same =
    let Ends : Option Ending → Type 0 = λ ending. IsValidEnding program (length s.heap) ending s.frames in
    subst Ends same valid.ending

-- a run from a valid state stays valid and never gets stuck, whatever it may choose
pub never_by : (program : ProgramView) (choices : List Choice) (s : State) → IsProgram program → IsValid program s
    → AllByRecursion (MayChoose program) choices
    → IsValid program (run_by program choices s) × ((run_by program choices s).ending ≡ Some stuck → ⊥)
never_by program choices s is valid may =
    let after : IsValid program (run_by program choices s) = IsValid-run_by program choices s is may valid in
    (after, not_stuck program (run_by program choices s) after)

-- a run of the text is one by its choice, taken so many times
pub run_by-text : (program : ProgramView) (steps : ℕ) (s : State) → run_by program (replicate steps text_choice) s ≡ text_run program steps s
run_by-text program zero s = refl
run_by-text program (suc steps) s = run_by-text program steps (step program text_choice s)

-- a run of the text never gets stuck
pub never : (program : ProgramView) (input : List Literal) (steps : ℕ) → IsProgram program → AllByRecursion (IsLiteralOf program) input
    → (text_run program steps (start program input)).ending ≡ Some stuck → ⊥
never program input steps is literals same =
    let begin : State = start program input in
    let along : (run_by program (replicate steps text_choice) begin).ending ≡ (text_run program steps begin).ending =
    ap (λ (t : State). t.ending) (run_by-text program steps begin) in
    (never_by program (replicate steps text_choice) begin is (IsValid-start program input is literals)
    (AllByRecursion-replicate (MayChoose program) steps text_choice tt)).1 (along ∙ same)
