-- Code whose runs are followed by those of code that agrees with the text.
use Rattle.std.proofs.Common.{List, [], ◌∷◌, ◌++◌, Bool, sym, subst}
use Rattle.sour_syntax.specs.declared.literal.FunId.{FunId}
use Rattle.sour_syntax.specs.Program.{ProgramView, IsProgram}
use Rattle.sour_semantics.specs.State.{FrameCode, State}
use Rattle.sour_semantics.specs.Step.{step}
use Rattle.sour_semantics.specs.Run.{start_of}
use Rattle.sour_semantics.specs.Validity.{IsValid}
use Rattle.sour_semantics.specs.Agreement.{free_choice, free_run}
use Rattle.laws_validity.proofs.Steps.{IsValid-step}
use Rattle.laws_agreement.proofs.RunsAlone.{free_run-append, shown-less}
use Rattle.laws_simulation.specs.Following.{AgreesFromStarts, IsFollowed}

-- a run is followed by a run
follows-run : (program : ProgramView) (f : FunId) (new old : FrameCode) (Follows : State → State → Type 0)
    → IsProgram program
    → IsFollowed program f new old Follows → (choices : List Bool) (s t : State) → IsValid program s → Follows s t
    → (others : List Bool) × Follows (free_run program choices s) (free_run program others t)
follows-run program f new old Follows checked followed [] s t valid follows = ([], follows)
follows-run program f new old Follows checked followed (leaves ∷ more) s t valid follows =
    let Next : State → Type 0 = Follows (free_run program (leaves ∷ more) s) in
    let one : (others : List Bool) × Follows (step program (free_choice leaves) s) (free_run program others t) =
    followed.steps leaves s t valid follows in
    let rest : (others : List Bool) × Follows (free_run program more (step program (free_choice leaves) s))
    (free_run program others (free_run program one.0 t)) =
    follows-run program f new old Follows checked followed more (step program (free_choice leaves) s)
    (free_run program one.0 t)
    (IsValid-step program (free_choice leaves) s checked valid tt) one.1 in
    (one.0 ++ rest.0, subst Next (sym (free_run-append program one.0 rest.0 t)) rest.1)

-- code agrees with the text if its runs are followed by those of code that does
pub followed-agrees : (program : ProgramView) (f : FunId) (new old : FrameCode) (Follows : State → State → Type 0)
    → IsProgram program
    → IsFollowed program f new old Follows → AgreesFromStarts program f old → AgreesFromStarts program f new
followed-agrees program f new old Follows checked followed agrees values heap rest output may choices =
    let new_start : State = start_of program new values heap rest output in
    let old_start : State = start_of program old values heap rest output in
    let begin : (others : List Bool) × Follows new_start (free_run program others old_start) =
    followed.starts values heap rest output may in
    let run : (others : List Bool) × Follows (free_run program choices new_start)
    (free_run program others (free_run program begin.0 old_start)) =
    follows-run program f new old Follows checked followed choices new_start (free_run program begin.0 old_start)
    (followed.valid values heap rest output may) begin.1 in
    let Shows : State → Type 0 = λ u. Follows (free_run program choices new_start) u in
    let whole : Follows (free_run program choices new_start) (free_run program (begin.0 ++ run.0) old_start) =
    subst Shows (sym (free_run-append program begin.0 run.0 old_start)) run.1 in
    shown-less program _ (free_run program choices new_start) (free_run program (begin.0 ++ run.0) old_start)
    (followed.turns _ _ whole) (followed.matches _ _ whole) (agrees values heap rest output may (begin.0 ++ run.0))
