-- Runs while nothing is published.
use Rattle.std.proofs.Common.{◌≡◌, ◌≤◌, ◌+◌, ℕ, zero, suc, List, [], ◌∷◌, Option, None, Some, length, take, refl, sym}
use Rattle.std.proofs.Common.{ap, ◌∙◌, arith}
use Rattle.std.specs.List.{AllByRecursion}
use Rattle.std.proofs.Math.Seq.{take-length}
use Rattle.sour_syntax.specs.declared.literal.FunId.{FunId}
use Rattle.sour_syntax.specs.declared.literal.Literal.{Literal}
use Rattle.sour_syntax.specs.Program.{ProgramView}
use Rattle.sour_semantics.specs.Run.{text_run}
use Rattle.sour_versions.specs.History.{History, TableRead, read_of, by_history}
use Rattle.sour_versions.specs.Fits.{FitsFrom}
use Rattle.sour_versions.specs.CallLog.{CallLog, by_log}
use Rattle.sour_versions.specs.Entering.{entering}
use Rattle.sour_versions.specs.VersionRun.{Counted, counted_by, counted_step, version_run, with_call, calls_in}
use Rattle.sour_versions.specs.VersionRun.{version_start}
use Rattle.sour_versions.specs.GoesOn.{begun, calls_made}
use Rattle.laws_versions.specs.GoesOnLaws.{RoundsEnterActive, text_begun, RoundsOverNothing}
use Rattle.laws_versions.proofs.VersionRuns.{runs_over_nothing}
use Rattle.laws_versions.proofs.AnsweredCalls.{entered_as}
use Rattle.laws_versions.proofs.GoingOn.{started_as}

-- the whole history answered a read
abbrev FoundWhole : History → TableRead → Type 0
FoundWhole history read = read ≡ read_of read.function history

-- it answered all reads that fit it and begin no earlier than its end
found-whole : (least : ℕ) (history : History) (reads : List TableRead) → length history ≤ least
    → FitsFrom least history reads → AllByRecursion (FoundWhole history) reads
found-whole least history [] all fits = tt
found-whole least history (read ∷ reads) all (seen, low, high, is, rest) =
    let e : seen ≡ length history = omega (arith, all, low, high) in (
      is ∙ ap (λ n. read_of read.function (take n history)) e ∙ ap (read_of read.function) (take-length history),
      found-whole seen history reads (omega (arith, all, low)) rest,
    )

-- a step by a log is one by the history, if it answered the call; and it answered the others
record IsWhole (program : ProgramView) (history : History) (log : CallLog) (c : Counted) (f : Option FunId)
    (others : List TableRead) : Type 0 where
  pub same : counted_by program (by_log log) c f ≡ counted_by program (by_history history) c f
  pub rest : AllByRecursion (FoundWhole history) others

-- whether or not the step calls
whole-by : (program : ProgramView) (history : History) (log : CallLog) (c : Counted) (f : Option FunId)
    (others : List TableRead) → AllByRecursion (FoundWhole history) (with_call (by_log log) (c.calls + 1) f others)
    → IsWhole program history log c f others
whole-by program history log c None others all = record { same = refl; rest = all }
whole-by program history log c (Some f) others all = record { same = ap (entered_as program c) all.0; rest = all.1 }

-- a run by a log is one by the history, if it answered all calls
whole-run : (program : ProgramView) (history : History) (log : CallLog) (steps : ℕ) (c : Counted)
    → AllByRecursion (FoundWhole history) (calls_in program (by_log log) steps c)
    → version_run program (by_history history) steps c ≡ version_run program (by_log log) steps c
whole-run program history log zero c all = refl
whole-run program history log (suc steps) c all =
    let next : Counted = counted_step program (by_log log) c in
    let one : IsWhole program history log c (entering program c.state) (calls_in program (by_log log) steps next) =
    whole-by program history log c (entering program c.state) (calls_in program (by_log log) steps next) all in
    ap (version_run program (by_history history) steps) (sym one.same)
    ∙ whole-run program history log steps next one.rest

-- so it is for a run that enters main first
whole-begun : (program : ProgramView) (input : List Literal) (history : History) (log : CallLog) (steps : ℕ)
    (before : Option Counted) → AllByRecursion (FoundWhole history) (calls_made program input (by_log log) steps before)
    → version_run program (by_history history) steps (begun program input (by_history history) before)
    ≡ version_run program (by_log log) steps (begun program input (by_log log) before)
whole-begun program input history log steps None all =
    ap (version_run program (by_history history) steps) (sym (ap (started_as program input) all.0))
    ∙ whole-run program history log steps (version_start program input (by_log log)) all.1
whole-begun program input history log steps (Some c) all = whole-run program history log steps c all

-- each call enters what is active in the history
pub rounds_enter_active : RoundsEnterActive
rounds_enter_active program input history old log before c goes =
    whole-begun program input history log goes.on.steps before
    (found-whole (length history) history (calls_made program input (by_log log) goes.on.steps before) (omega arith)
    goes.fit)
    ∙ goes.on.reached

-- over nothing a run begins as that of the text
nothing-begun : (program : ProgramView) (input : List Literal) (before : Option Counted)
    → (begun program input (by_history []) before).state ≡ text_begun program input before
nothing-begun program input None = refl
nothing-begun program input (Some c) = refl

-- and goes on as that of the text
pub rounds_over_nothing : RoundsOverNothing
rounds_over_nothing program input old log before c goes =
    ap (text_run program goes.on.steps) (sym (nothing-begun program input before))
    ∙ sym (runs_over_nothing.goes program goes.on.steps (begun program input (by_history []) before))
    ∙ ap (λ (d : Counted). d.state) (rounds_enter_active program input [] old log before c goes)
