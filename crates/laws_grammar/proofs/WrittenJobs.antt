-- What well-formed tokens spell within the limits is written and short: from lines up to the whole job.
use Rattle.std.proofs.Common.{◌≡◌, ℕ, suc, ◌≤◌, ◌+◌, inl, inr, List, [], ◌∷◌, length, length-append, Option, Some, None, subst, true, false, Bool, refl, arith}
use Rattle.std.specs.Prelude.{⊤}
use Rattle.std.specs.List.{AllByRecursion, list_any}
use Rattle.std.specs.Str.{bytes_eq}
use Rattle.sour_syntax.specs.Name.{IsName}
use Rattle.sour_syntax.proofs.Everywhere.{AllByRecursion-weaker, AllByRecursion-append}
use Rattle.sour_raw.specs.declared.kind.Kind.TheVariants.{Limit as limit}
use Rattle.sour_raw.specs.declared.raw.RawInstr.{RawInstr}
use Rattle.sour_raw.specs.declared.raw.RawLine.{RawLine}
use Rattle.sour_raw.specs.declared.raw.RawVersion.{RawVersion}
use Rattle.sour_raw.specs.declared.raw.RawFunction.{RawFunction}
use Rattle.sour_raw.specs.declared.raw.RawInput.{RawInput}
use Rattle.sour_raw.specs.declared.raw.RawPlanSimple.{RawPlanSimple}
use Rattle.sour_raw.specs.declared.raw.RawPlanSimple.TheVariants as side
use Rattle.sour_raw.specs.declared.raw.RawPredicate.{RawPredicate}
use Rattle.sour_raw.specs.declared.raw.RawPass.{RawPass}
use Rattle.sour_raw.specs.declared.raw.RawPass.TheVariants.{Inject, Constprop, Unreachable, Inline, Move, Hoist, Compose, Prune}
use Rattle.sour_raw.specs.declared.raw.RawPlanJob.{RawPlanJob}
use Rattle.sour_raw.specs.declared.raw.RawJob.{RawJob}
use Rattle.sour_raw.specs.Lexemes.{comma, semicolon}
use Rattle.sour_raw.specs.Spelling.{listed, one_or_more, after_all, alone, Language}
use Rattle.sour_raw.specs.Mentions.{with_name}
use Rattle.sour_raw.specs.Variables.{with_instr, with_line}
use Rattle.sour_raw.specs.Grammar.{no_names, name, literal, instr, labelled, line, parameter_names, version, parameters, function, anchor, psimple, pred, pass, plan_job, plan, input, inputs, optional, job}
use Rattle.sour_raw.specs.Written.{IsPath, IsWrittenLiteral, IsWrittenLabel, IsWrittenLine, IsWrittenVersion, IsWrittenFunction, IsWrittenSide, IsWrittenPredicate, IsWrittenPass, IsWrittenJob, IsWrittenInput, IsWritten}
use Rattle.sour_raw.specs.Limits.{IsShortInstr, IsShortVersion, IsShortFunction, IsShortJob, IsShortInput, IsShort}
use Rattle.laws_grammar.proofs.Held.{Held, cut, skip, on_line, Keeps, each_kept, separated, first_kept}
use Rattle.laws_grammar.proofs.WrittenNames.{name_written, fitting_written, path_written, IsState}
use Rattle.laws_grammar.proofs.VariableLaws.{all_variables}
use Rattle.laws_grammar.proofs.WrittenInstructions.{literal_written, IsWell, instr_written}

-- what holds of each element in two ways holds in each way
both_ways : {X : Type 0} (P Q : X → Type 0) (xs : List X) → AllByRecursion (λ x. P x × Q x) xs → AllByRecursion P xs
    × AllByRecursion Q xs
both_ways P Q xs all = (
  AllByRecursion-weaker (λ x. P x × Q x) P (λ x is. is.0) xs all,
  AllByRecursion-weaker (λ x. P x × Q x) Q (λ x is. is.1) xs all,
)

-- nothing is asked of the names so far
abbrev Free : List (List ℕ) → Type 0
Free names = ⊤

-- ---- versions

-- what is known of a line
abbrev IsWellLine : RawLine → Type 0
IsWellLine l = IsWrittenLine l × IsShortInstr l.instr

-- what may have a label is so
labelled_written : (names : List (List ℕ)) → IsState names → (i : RawInstr) (label : Option (List ℕ))
    → Held (labelled names label limit (instr names limit i)) → IsWrittenLabel label
    × (IsWell i × IsState (with_instr names i))
labelled_written names state i None h = (tt, instr_written names state i h)
labelled_written names state i (Some x) h =
    let c = cut h in (fitting_written names state x c.0, instr_written names state i (skip c.1))

-- lines keep the state
lines_keep : Keeps line with_line IsState IsWellLine
lines_keep = record {
  item = λ names state l h.
      let w = labelled_written names state l.instr l.label (cut (on_line h)).0 in
      ((record { label = w.0; instr = w.1.0.0 }, w.1.0.1), w.1.1);
}

-- parameters begin the state
parameters_state : (names parameters : List (List ℕ)) → AllByRecursion IsName names → AllByRecursion IsName parameters
    → AllByRecursion IsName (after_all with_name names parameters)
    × (length (after_all with_name names parameters) ≤ length names + length parameters)
parameters_state names [] all are = (all, omega arith)
parameters_state names (x ∷ parameters) all are =
    let next = with_one (list_any (bytes_eq x) names) refl in
    let more = parameters_state (with_name names x) parameters next.0 are.1 in
    (more.0, omega (arith, more.1, next.1)) where
      with_one : (b : Bool) → list_any (bytes_eq x) names ≡ b → AllByRecursion IsName (with_name names x)
          × (length (with_name names x) ≤ length names + 1)
      with_one true e = rw e (all, omega arith)
      with_one false e = rw e (
        AllByRecursion-append IsName names (x ∷ []) all (are.0, tt),
        omega (arith, length-append names (x ∷ [])),
      )

-- what is known of a version
abbrev IsWellVersion : List (List ℕ) → RawVersion → Type 0
IsWellVersion parameters v = IsWrittenVersion v × IsShortVersion parameters v

-- versions of a function with these parameters
versions_keep : (parameters : List (List ℕ)) → AllByRecursion IsName parameters → length parameters ≤ 255
    → Keeps (λ names. version parameters) alone Free (IsWellVersion parameters)
versions_keep parameters are few = record {
  item = λ names free v h.
      let c = cut (skip (on_line h)) in
      let start = parameters_state [] parameters tt are in
      let state : IsState (parameter_names parameters) = (start.0, omega (arith, start.1, few)) in
      let all = each_kept lines_keep (Some 4096) (parameter_names parameters) state v.lines (skip c.1) in
      let split = both_ways IsWrittenLine (λ (l : RawLine). IsShortInstr l.instr) v.lines all.0 in
      let known = subst (λ (names : List (List ℕ)). length names ≤ 1024) (all_variables parameters v.lines) all.1.1 in (
        (
          record { name = name_written v.name c.0; lines = split.0 },
          record { lines = all.2; instrs = split.1; variables = known },
        ),
        tt,
      );
}

-- ---- functions

-- names that aren't looked up
names_keep : Keeps (λ names. name) alone Free IsName
names_keep = record { item = λ names free x h. (name_written x h, tt) }

-- parameters are names, and no more than 255
parameters_written : (xs : List (List ℕ)) → Held (parameters limit xs) → AllByRecursion IsName xs × (length xs ≤ 255)
parameters_written [] h = (tt, omega arith)
parameters_written (x ∷ xs) h =
    let all = first_kept names_keep (separated comma names_keep) (Some 255) tt no_names tt x xs h in (all.0, all.2)

-- what is known of a function
abbrev IsWellFunction : RawFunction → Type 0
IsWellFunction f = IsWrittenFunction f × IsShortFunction f

-- one and then others are some
one_kept : {X : Type 0} {S : List (List ℕ) → Language X} {P : X → Type 0} → Keeps S alone Free P
    → (most : ℕ) (xs : List X)
    → Held (one_or_more S alone (Some (suc most)) no_names limit xs) → AllByRecursion P xs × (length xs ≤ suc most)
    × (xs ≡ [] → ⊥)
one_kept keeps most [] h = absurd h.1
one_kept keeps most (x ∷ xs) h =
    let all = first_kept keeps keeps (Some (suc most)) tt no_names tt x xs h in (all.0, all.2, λ none. absurd cc)

-- functions
functions_keep : Keeps (λ names. function) alone Free IsWellFunction
functions_keep = record {
  item = λ names free f h.
      let c = cut (skip (on_line h)) in
      let d = cut (skip c.1) in
      let e = cut (skip (skip d.1)) in
      let ps = parameters_written f.parameters d.0 in
      let vs = one_kept (versions_keep f.parameters ps.0 ps.1) 15 f.versions e.0 in
      let split = both_ways IsWrittenVersion (IsShortVersion f.parameters) f.versions vs.0 in (
        (
          record { name = name_written f.name c.0; parameters = ps.0; some = vs.2; versions = split.0 },
          record { parameters = ps.1; versions = vs.1; each = split.1 },
        ),
        tt,
      );
}

-- ---- plans

-- an anchor is written so
anchor_written : (a : List ℕ) → Held (anchor limit a) → IsPath a
anchor_written a h = path_written a (skip h)

-- a side of a predicate is written so
side_written : (a : RawPlanSimple) → Held (psimple limit a) → IsWrittenSide a
side_written (side.Lit a) h = literal_written a h
side_written (side.Name a) h = path_written a h

-- a predicate is written so
pred_written : (p : RawPredicate) → Held (pred limit p) → IsWrittenPredicate p
pred_written p h = let c = cut h in (side_written p.left c.0, side_written p.right (skip c.1))

-- a pass is written so
pass_written : (p : RawPass) → Held (pass limit p) → IsWrittenPass p
pass_written (Inject a p) h = let c = cut (skip h) in (anchor_written a c.0, pred_written p c.1)
pass_written Constprop h = tt
pass_written Unreachable h = tt
pass_written (Inline a i) h = path_written a (cut (skip h)).0
pass_written (Move a) h = anchor_written a (skip h)
pass_written (Hoist a b p) h =
    let c = cut (skip h) in
    let d = cut c.1 in (anchor_written a c.0, anchor_written b d.0, pred_written p d.1)
pass_written (Compose a) h = anchor_written a (skip h)
pass_written Prune h = tt

-- passes
passes_keep : Keeps (λ names. pass) alone Free IsWrittenPass
passes_keep = record { item = λ names free p h. (pass_written p h, tt) }

-- the passes of a job are written so, and no more than 64
passes_written : (ps : List RawPass) → Held (listed semicolon (λ names. pass) alone (Some 64) no_names limit ps)
    → AllByRecursion IsWrittenPass ps × (length ps ≤ 64)
passes_written [] h = (tt, omega arith)
passes_written (p ∷ ps) h =
    let all = first_kept passes_keep (separated semicolon passes_keep) (Some 64) tt no_names tt p ps h in (all.0, all.2)

-- what is known of a job of the plan
abbrev IsWellJob : RawPlanJob → Type 0
IsWellJob j = IsWrittenJob j × IsShortJob j

-- jobs of the plan
jobs_keep : Keeps (λ names. plan_job) alone Free IsWellJob
jobs_keep = record {
  item = λ names free j h.
      let c = cut (skip (on_line h)) in
      let d = cut (skip (cut (skip c.1)).1) in
      let ps = passes_written j.passes d.0 in
      ((record { function = name_written j.function c.0; passes = ps.0 }, ps.1), tt);
}

-- the plan is written so, and short
plan_written : (jobs : List RawPlanJob) → Held (optional plan limit jobs) → AllByRecursion IsWellJob jobs
    × (length jobs ≤ 1024)
plan_written jobs (u, inl none, known) = rw none.0 (tt, omega arith)
plan_written jobs (u, inr s, known) =
    let h : Held (plan limit jobs) = (u, s, known) in
    let all = each_kept jobs_keep (Some 1024) no_names tt jobs (skip (skip (skip h))) in (all.0, all.2)

-- ---- inputs

-- values of an input
values_keep : Keeps (λ names. literal) alone Free IsWrittenLiteral
values_keep = record { item = λ names free a h. (literal_written a h, tt) }

-- what is known of an input
abbrev IsWellInput : RawInput → Type 0
IsWellInput i = IsWrittenInput i × IsShortInput i

-- inputs
inputs_keep : Keeps (λ names. input) alone Free IsWellInput
inputs_keep = record {
  item = λ names free i h.
      let all = each_kept values_keep (Some 65536) no_names tt i.values (cut (skip (on_line h))).0 in
      ((all.0, all.2), tt);
}

-- the inputs are written so, and short
inputs_written : (given : List RawInput) → Held (optional inputs limit given) → AllByRecursion IsWellInput given
    × (length given ≤ 4096)
inputs_written given (u, inl none, known) = rw none.0 (tt, omega arith)
inputs_written given (u, inr s, known) =
    let h : Held (inputs limit given) = (u, s, known) in
    let all = each_kept inputs_keep (Some 4096) no_names tt given (skip (skip (skip h))) in (all.0, all.2)

-- ---- the whole job

-- a job is written so, and short
pub job_written : (raw : RawJob) → Held (job limit raw) → IsWritten raw × IsShort raw
job_written raw h =
    let c = cut h in
    let d = cut c.1 in
    let fs = one_kept functions_keep 255 raw.functions c.0 in
    let jobs = plan_written raw.plan d.0 in
    let given = inputs_written raw.inputs d.1 in
    let f = both_ways IsWrittenFunction IsShortFunction raw.functions fs.0 in
    let j = both_ways IsWrittenJob IsShortJob raw.plan jobs.0 in
    let i = both_ways IsWrittenInput IsShortInput raw.inputs given.0 in (
      record { some = fs.2; functions = f.0; plan = j.0; inputs = i.0 },
      record { functions = fs.1; each = f.1; plan = jobs.1; each_job = j.1; inputs = given.1; each_input = i.1 },
    )
