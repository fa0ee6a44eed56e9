-- How a run goes on while a table answers its calls.
use Rattle.std.proofs.Common.{◌≡◌, ◌≤◌, ◌+◌, ◌++◌, ℕ, List, [], ◌∷◌, Option, None, Some, length, refl, sym, ap}
use Rattle.std.proofs.Common.{subst, ◌∙◌, arith}
use Rattle.sour_syntax.specs.declared.literal.FunId.{FunId}
use Rattle.sour_syntax.specs.declared.literal.Literal.{Literal}
use Rattle.sour_syntax.specs.Program.{ProgramView}
use Rattle.sour_semantics.specs.Step.{text_choice, step, entered_code}
use Rattle.sour_semantics.specs.Run.{start_of, IsAtBudget}
use Rattle.sour_versions.specs.History.{History, TableRead, read_of, Answers, Extends}
use Rattle.sour_versions.specs.Fits.{FitsFrom, FindsAll}
use Rattle.sour_versions.specs.CallLog.{CallLog, by_log}
use Rattle.sour_versions.specs.Entering.{entering}
use Rattle.sour_versions.specs.VersionRun.{Counted, counted_by, version_run, with_call, calls_in, version_start}
use Rattle.sour_versions.specs.Notes.{noted, log_from, empty_log, HasUsed, IsLog}
use Rattle.sour_versions.specs.GoesOn.{AnswerAlike, begun, calls_made, calls_before, turns_before, GoesOnByLog}
use Rattle.sour_versions.specs.GoesOn.{GoesOnOver, GoesOnFinding}
use Rattle.laws_versions.specs.GoesOnLaws.{GoesOnByParts, AdvancesOverAdd}
use Rattle.laws_versions.proofs.VersionRuns.{version_rests-sum, version_run-add}
use Rattle.laws_versions.proofs.AnsweredCalls.{calls-version_run, entered_as, alike-run, calls-count, calls-parts}
use Rattle.sour_versions.proofs.Histories.{Extends-same, Extends-on, Extends-length}
use Rattle.laws_versions.proofs.FitParts.{fits-parts, finds-parts, fits-now, finds-now}
use Rattle.laws_versions.proofs.Logs.{empty-over, says-after, keeps-after, log_from-append}

-- the start of a run that enters main as it was read
abbrev pub started_as : ProgramView → List Literal → TableRead → Counted
started_as program input read =
    record { state = start_of program (entered_code read.entry program.main) [] [] input []; calls = 1 }

-- a run begins the same, if main is answered alike
begun-alike : (program : ProgramView) (input : List Literal) (answers other : Answers) (before : Option Counted)
    → AnswerAlike (begun program input answers before).calls answers other
    → begun program input answers before ≡ begun program input other before
begun-alike program input answers other None alike = ap (started_as program input) (alike 1 program.main (omega arith))
begun-alike program input answers other (Some c) alike = refl

-- it has made the calls of its parts
made-parts : (program : ProgramView) (input : List Literal) (answers other : Answers) (m n : ℕ)
    (before : Option Counted)
    → AnswerAlike (version_run program answers m (begun program input answers before)).calls answers other
    → calls_made program input other (m + n) before
    ≡ calls_made program input answers m before
    ++ calls_in program other n (version_run program answers m (begun program input answers before))
made-parts program input answers other m n None alike =
    let begin : Counted = version_start program input answers in
    let first : answers 1 program.main ≡ other 1 program.main =
    alike 1 program.main (calls-version_run program answers m begin) in
    ap (λ read. read ∷ calls_in program other (m + n) (version_start program input other)) (sym first)
    ∙ ap (λ read. answers 1 program.main ∷ calls_in program other (m + n) (started_as program input read)) (sym first)
    ∙ ap (λ calls. answers 1 program.main ∷ calls) (calls-parts program answers other m n begin alike)
made-parts program input answers other m n (Some c) alike = calls-parts program answers other m n c alike

-- it has made as many as it counts
pub made-count : (program : ProgramView) (input : List Literal) (answers : Answers) (m : ℕ) (before : Option Counted)
    → (version_run program answers m (begun program input answers before)).calls
    ≡ calls_before before + length (calls_made program input answers m before)
made-count program input answers m None =
    let counted = calls-count program answers m (version_start program input answers) in
    omega (arith, counted)
made-count program input answers m (Some c) = calls-count program answers m c

-- it has made no fewer than before
begun-calls : (program : ProgramView) (input : List Literal) (answers : Answers) (before : Option Counted)
    → calls_before before ≤ (begun program input answers before).calls
begun-calls program input answers None = omega arith
begun-calls program input answers (Some c) = omega arith

-- a run goes on by its log in two parts, of which the second begins at the moment that the first comes to
log-from : (program : ProgramView) (input : List Literal) (old log new : CallLog) (before : Option Counted)
    (c d : Counted)
    → (first : GoesOnByLog program input old log before c)
    → GoesOnByLog program input log new
    (Some (version_run program (by_log log) first.steps (begun program input (by_log log) before))) d
    → GoesOnByLog program input old new before d
log-from program input old log new before c d first second =
    let m : ℕ = first.steps in
    let n : ℕ = second.steps in
    let begin : Counted = begun program input (by_log log) before in
    let half : Counted = version_run program (by_log log) m begin in
    let made : List TableRead = calls_made program input (by_log log) m before in
    let others : List TableRead = calls_in program (by_log new) n half in
    let grown : begin.calls ≤ half.calls = calls-version_run program (by_log log) m begin in
    let no_fewer : calls_before before ≤ half.calls =
    omega (arith, grown, begun-calls program input (by_log log) before) in
    let same : begin ≡ begun program input (by_log new) before =
    begun-alike program input (by_log log) (by_log new) before
    (λ call f within. second.kept call f (omega (arith, within, grown))) in
    let count : calls_before before + 1 + length made ≡ half.calls + 1 =
    omega (arith, made-count program input (by_log log) m before) in
    record {
      steps = m + n;
      reached = ap (version_run program (by_log new) (m + n)) (sym same)
          ∙ version_run-add program (by_log new) m n begin
          ∙ ap (version_run program (by_log new) n)
          (sym (alike-run program (by_log log) (by_log new) m begin second.kept))
          ∙ second.reached;
      kept = λ call f within. first.kept call f within ∙ second.kept call f (omega (arith, within, no_fewer));
      notes = second.notes
          ∙ ap (λ kept. log_from kept (half.calls + 1) others) first.notes
          ∙ ap (λ call. log_from (log_from old (calls_before before + 1) made) call others) (sym count)
          ∙ sym (log_from-append old (calls_before before + 1) made others)
          ∙ sym (ap (log_from old (calls_before before + 1))
          (made-parts program input (by_log log) (by_log new) m n before second.kept));
    }

-- a run goes on by its log, and then further
pub log-then : (program : ProgramView) (input : List Literal) (old log new : CallLog) (before : Option Counted)
    (c d : Counted)
    → GoesOnByLog program input old log before c → GoesOnByLog program input log new (Some c) d
    → GoesOnByLog program input old new before d
log-then program input old log new before c d first second =
    let From : Counted → Type 0 = λ one. GoesOnByLog program input log new (Some one) d in
    log-from program input old log new before c d first (subst From (sym first.reached) second)

module _ (program : ProgramView) (input : List Literal) (early middle late : History) (old log new : CallLog)
    (before : Option Counted) where
  -- so it does over a table, in two parts
  over-from : (c d : Counted) (first : GoesOnOver program input early middle old log before c)
      → GoesOnOver program input middle late log new
      (Some (version_run program (by_log log) first.on.steps (begun program input (by_log log) before))) d
      → GoesOnOver program input early late old new before d
  unfolding log-from
  over-from c d first second =
      let m : ℕ = first.on.steps in
      let n : ℕ = second.on.steps in
      let half : Counted = version_run program (by_log log) m (begun program input (by_log log) before) in
      let Fitted : List TableRead → Type 0 = FitsFrom (length early) late in
      record {
        on = log-from program input old log new before c d first.on second.on;
        extends = Extends-on early middle late first.extends second.extends;
        fit = subst Fitted (sym (made-parts program input (by_log log) (by_log new) m n before second.on.kept))
            (fits-parts (length early) middle late (calls_made program input (by_log log) m before)
            (calls_in program (by_log new) n half) (Extends-length early middle first.extends) second.extends first.fit
            second.fit);
      }

  -- and then further
  over-then : (c d : Counted) → GoesOnOver program input early middle old log before c
      → GoesOnOver program input middle late log new (Some c) d → GoesOnOver program input early late old new before d
  over-then c d first second =
      let From : Counted → Type 0 = λ one. GoesOnOver program input middle late log new (Some one) d in
      over-from c d first (subst From (sym first.on.reached) second)

  -- so it does if it finds all, in two parts
  finding-from : (c d : Counted) (first : GoesOnFinding program input early middle old log before c)
      → GoesOnFinding program input middle late log new
      (Some (version_run program (by_log log) first.over.on.steps (begun program input (by_log log) before))) d
      → GoesOnFinding program input early late old new before d
  unfolding log-from over-from
  finding-from c d first second =
      let m : ℕ = first.over.on.steps in
      let n : ℕ = second.over.on.steps in
      let half : Counted = version_run program (by_log log) m (begun program input (by_log log) before) in
      let Finds : List TableRead → Type 0 = FindsAll early late in
      record {
        over = over-from c d first.over second.over;
        finds = subst Finds (sym (made-parts program input (by_log log) (by_log new) m n before second.over.on.kept))
            (finds-parts early middle late (calls_made program input (by_log log) m before)
            (calls_in program (by_log new) n half) first.finds second.finds);
      }

  -- and then further
  finding-then : (c d : Counted) → GoesOnFinding program input early middle old log before c
      → GoesOnFinding program input middle late log new (Some c) d
      → GoesOnFinding program input early late old new before d
  finding-then c d first second =
      let From : Counted → Type 0 = λ one. GoesOnFinding program input middle late log new (Some one) d in
      finding-from c d first (subst From (sym first.over.on.reached) second)

-- a run enters main
main-finding : (program : ProgramView) (input : List Literal) (early late : History) → Extends early late
    → GoesOnFinding program input early late empty_log (noted empty_log 1 (read_of program.main late)) None
    (started_as program input (read_of program.main late))
main-finding program input early late extends =
    let is : IsLog 0 empty_log = (empty-over early).is in
    let new : CallLog = noted empty_log 1 (read_of program.main late) in
    let says : by_log new 1 program.main ≡ read_of program.main late =
    says-after early late empty_log 0 program.main is tt extends in
    record {
      over = record {
        on = record {
          steps = 0;
          reached = ap (started_as program input) says;
          kept = keeps-after early late empty_log 0 program.main is tt extends;
          notes = ap (noted empty_log 1) (sym says);
        };
        extends = extends;
        fit = fits-now early late program.main (by_log new 1 program.main) extends says;
      };
      finds = finds-now early late program.main (by_log new 1 program.main) says;
    }

-- a run takes a step that enters nothing
steps-finding : (program : ProgramView) (input : List Literal) (history : History) (log : CallLog) (c : Counted)
    → entering program c.state ≡ None
    → GoesOnFinding program input history history log log (Some c)
    (record { state = step program text_choice c.state; calls = c.calls })
steps-finding program input history log c none =
    let made : Option FunId → List TableRead = λ f. with_call (by_log log) (c.calls + 1) f [] in
    let Fitted : Option FunId → Type 0 = λ f. FitsFrom (length history) history (made f) in
    let Finds : Option FunId → Type 0 = λ f. FindsAll history history (made f) in
    record {
      over = record {
        on = record {
          steps = 1;
          reached = ap (counted_by program (by_log log) c) none;
          kept = λ call f within. refl;
          notes = sym (ap (λ f. log_from log (c.calls + 1) (made f)) none);
        };
        extends = Extends-same history;
        fit = subst Fitted (sym none) tt;
      };
      finds = subst Finds (sym none) (record { last = tt; still = λ empty. refl });
    }

-- a run takes a step that enters a function
calls-finding : (program : ProgramView) (input : List Literal) (early late : History) (log : CallLog) (c : Counted)
    (f : FunId) → entering program c.state ≡ Some f → IsLog c.calls log → HasUsed early log.used → Extends early late
    → GoesOnFinding program input early late log (noted log (c.calls + 1) (read_of f late)) (Some c)
    (entered_as program c (read_of f late))
calls-finding program input early late log c f enters is has extends =
    let new : CallLog = noted log (c.calls + 1) (read_of f late) in
    let read : TableRead = by_log new (c.calls + 1) f in
    let says : read ≡ read_of f late = says-after early late log c.calls f is has extends in
    let made : Option FunId → List TableRead = λ g. with_call (by_log new) (c.calls + 1) g [] in
    let Fitted : Option FunId → Type 0 = λ g. FitsFrom (length early) late (made g) in
    let Finds : Option FunId → Type 0 = λ g. FindsAll early late (made g) in
    record {
      over = record {
        on = record {
          steps = 1;
          reached = ap (counted_by program (by_log new) c) enters ∙ ap (entered_as program c) says;
          kept = keeps-after early late log c.calls f is has extends;
          notes = ap (noted log (c.calls + 1)) (sym says)
              ∙ sym (ap (λ g. log_from log (c.calls + 1) (made g)) enters);
        };
        extends = extends;
        fit = subst Fitted (sym enters) (fits-now early late f read extends says);
      };
      finds = subst Finds (sym enters) (finds-now early late f read says);
    }

-- a run stays while more is published
stays-over : (program : ProgramView) (input : List Literal) (early late : History) (log : CallLog) (c : Counted)
    → Extends early late → GoesOnOver program input early late log log (Some c) c
stays-over program input early late log c extends = record {
  on = record { steps = 0; reached = refl; kept = λ call f within. refl; notes = refl };
  extends = extends;
  fit = tt;
}

-- how a run goes on
pub goes_on_by_parts : GoesOnByParts
goes_on_by_parts = record {
  main = main-finding;
  steps = steps-finding;
  calls = calls-finding;
  then = finding-then;
  stays = stays-over;
  then_over = over-then;
}

-- to advance by some turns and then by others is to advance by all
pub advances_over_add : AdvancesOverAdd
advances_over_add program input a b early middle late old log new before c d first second =
    let AtD : ℕ → Type 0 = λ turns. IsAtBudget program turns d.state in
    let sums : turns_before before + a + b ≡ turns_before before + (a + b) = omega arith in
    let on : GoesOnByLog program input log new (Some c) d = second.finding.over.on in
    record {
      finding = finding-then program input early middle late old log new before c d first.finding second.finding;
      rests = subst AtD sums
          (version_rests-sum program (by_log new) (turns_before before + a) b on.steps c d on.reached first.rests
          second.rests);
    }
