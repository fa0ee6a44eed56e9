-- What holds of a run that has entered main.
use Rattle.std.proofs.Common.{◌≡◌, ◌+◌, ℕ, List, Option, None, Some, length, sym, ap, subst, ◌∙◌, arith}
use Rattle.std.specs.Prelude.{codes}
use Rattle.sour_syntax.specs.declared.literal.Literal.{Literal}
use Rattle.sour_syntax.specs.Program.{ProgramView}
use Rattle.sour_semantics.specs.Block.{memory, block}
use Rattle.sour_versions.specs.History.{History, TableRead, IsHistoryOf}
use Rattle.sour_versions.specs.CallLog.{CallLog, by_log}
use Rattle.sour_versions.specs.VersionRun.{Counted, all_calls}
use Rattle.sour_versions.specs.Notes.{log_from, empty_log, HasUsed}
use Rattle.sour_versions.specs.GoesOn.{calls_made, calls_before, GoesOnOver, IsRunSoFar}
use Rattle.sour_versions.specs.MayShow.{MayShow}
use Rattle.laws_versions.specs.ShownLaws.{AnswersAreLawful}
use Rattle.laws_versions.specs.GoesOnLaws.{CallsFit, RunsSoFar}
use Rattle.laws_versions.proofs.LawfulAnswers.{lawful_answers, used_are_lawful}
use Rattle.laws_versions.proofs.ShownVersions.{version_runs_may_show}
use Rattle.sour_versions.proofs.Histories.{front-extended}
use Rattle.laws_versions.proofs.FitParts.{fits-lower}
use Rattle.laws_versions.proofs.Logs.{IsLogOver, empty-over, log-fits}
use Rattle.laws_versions.proofs.GoingOn.{log-then, made-count}

-- the log of a run that went on is one of its calls, and the later history has what they used
log-over : (program : ProgramView) (input : List Literal) (early late : History) (old new : CallLog)
    (before : Option Counted) (d : Counted) → IsLogOver early (calls_before before) old
    → GoesOnOver program input early late old new before d → IsLogOver late d.calls new
log-over program input early late old new before d over goes =
    let calls : List TableRead = calls_made program input (by_log new) goes.on.steps before in
    let Over : History → Type 0 = λ history. IsLogOver history (calls_before before) old in
    let Calls : ℕ → Type 0 = λ n. IsLogOver late n (log_from old (calls_before before + 1) calls) in
    let Log : CallLog → Type 0 = IsLogOver late d.calls in
    let counted : calls_before before + length calls ≡ d.calls =
    sym (made-count program input (by_log new) goes.on.steps before)
    ∙ ap (λ (one : Counted). one.calls) goes.on.reached in
    subst Log (sym goes.on.notes) (subst Calls counted
    (log-fits (length early) late old (calls_before before) calls goes.fit
    (subst Over (sym (front-extended early late goes.extends)) over)))

-- a run so far, over the history
pub calls_fit : CallsFit
calls_fit program input early late log c goes =
    let over : IsLogOver late c.calls log =
    log-over program input early late empty_log log None c (empty-over early) goes in (
      fits-lower 0 (length early) late (all_calls program input (by_log log) goes.on.steps) (omega arith) goes.fit,
      over.is,
      over.has,
    )

-- a run so far that goes on is one again
so_far-on : (program : ProgramView) (input : List Literal) (early late : History) (old new : CallLog) (c d : Counted)
    → IsHistoryOf program late → HasUsed early old.used → GoesOnOver program input early late old new (Some c) d
    → IsRunSoFar program input old c → IsRunSoFar program input new d
so_far-on program input early late old new c d history has goes so_far =
    let over : IsLogOver late d.calls new =
    log-over program input early late old new (Some c) d (record { is = so_far.is_log; has = has }) goes in
    record {
      on = log-then program input empty_log old new None c d so_far.on goes.on;
      is_log = over.is;
      lawful = used_are_lawful program late new.used history over.has;
    }

-- its calls are answered by lawful versions
lawful-so_far : (program : ProgramView) (input : List Literal) (log : CallLog) (c : Counted)
    → IsRunSoFar program input log c → AnswersAreLawful program (by_log log)
lawful-so_far program input log c so_far = lawful_answers.of_log program log so_far.lawful

-- what holds of a run so far
pub runs_so_far : RunsSoFar
runs_so_far = record {
  begins = λ program input early late log c history goes.
      let over : IsLogOver late c.calls log =
      log-over program input early late empty_log log None c (empty-over early) goes in
      record {
        on = goes.on;
        is_log = over.is;
        lawful = used_are_lawful program late log.used history over.has;
      };
  goes_on = so_far-on;
  has = λ program input early late old new c d is has goes.
      (log-over program input early late old new (Some c) d (record { is = is; has = has }) goes).has;
  rests = λ program input log c budget so_far rests.
      record { steps = so_far.on.steps; reached = so_far.on.reached; rests = rests };
  shows = λ program input log c number budget checked literals so_far rests.
      version_runs_may_show.rests program input (by_log log) number budget c checked literals
      (lawful-so_far program input log c so_far)
      (record { steps = so_far.on.steps; reached = so_far.on.reached; rests = rests });
  wants = λ program input log c number budget checked literals so_far.
      let May : Counted → Type 0 =
      λ one. MayShow program input number budget memory (block number one.state.output (codes "memory")) in
      subst May so_far.on.reached
      (version_runs_may_show.wants program input (by_log log) number budget so_far.on.steps checked literals
      (lawful-so_far program input log c so_far));
}
