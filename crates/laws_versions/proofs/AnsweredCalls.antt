-- The calls of a run, and what they are answered.
use Rattle.std.proofs.Common.{◌≡◌, ◌≤◌, ◌+◌, ◌++◌, ℕ, zero, suc, List, ◌∷◌, length}
use Rattle.std.proofs.Common.{Option, None, Some, refl, sym, ap, ◌∙◌, arith}
use Rattle.sour_syntax.specs.declared.literal.FunId.{FunId}
use Rattle.sour_syntax.specs.Program.{ProgramView}
use Rattle.sour_semantics.specs.Step.{step}
use Rattle.sour_versions.specs.History.{TableRead, Answers}
use Rattle.sour_versions.specs.Entering.{entering}
use Rattle.sour_versions.specs.VersionRun.{entry_choice, Counted, counted_by, counted_step, version_run}
use Rattle.sour_versions.specs.VersionRun.{with_call, calls_in}
use Rattle.sour_versions.specs.GoesOn.{AnswerAlike}
use Rattle.laws_versions.specs.RunLaws.{CallsOfRuns}

-- a step counts no fewer calls
calls-by : (program : ProgramView) (answers : Answers) (c : Counted) (f : Option FunId)
    → c.calls ≤ (counted_by program answers c f).calls
calls-by program answers c None = omega arith
calls-by program answers c (Some f) = omega arith

-- nor does a run
pub calls-version_run : (program : ProgramView) (answers : Answers) (steps : ℕ) (c : Counted)
    → c.calls ≤ (version_run program answers steps c).calls
calls-version_run program answers zero c = omega arith
calls-version_run program answers (suc steps) c =
    let next : Counted = counted_step program answers c in
    omega (arith, calls-by program answers c (entering program c.state), calls-version_run program answers steps next)

-- the moment after a step that enters what was read
abbrev pub entered_as : ProgramView → Counted → TableRead → Counted
entered_as program c read = record { state = step program (entry_choice read.entry) c.state; calls = c.calls + 1 }

-- a step is the same, if its call is answered alike
alike-by : (program : ProgramView) (answers other : Answers) (c : Counted) (f : Option FunId) (last : ℕ)
    → (counted_by program answers c f).calls ≤ last → AnswerAlike last answers other
    → counted_by program answers c f ≡ counted_by program other c f
alike-by program answers other c None last within alike = refl
alike-by program answers other c (Some f) last within alike =
    ap (entered_as program c) (alike (c.calls + 1) f within)

-- so is the first step of a run
alike-step : (program : ProgramView) (answers other : Answers) (steps : ℕ) (c : Counted)
    → AnswerAlike (version_run program answers steps (counted_step program answers c)).calls answers other
    → counted_step program answers c ≡ counted_step program other c
alike-step program answers other steps c alike =
    alike-by program answers other c (entering program c.state) _
    (calls-version_run program answers steps (counted_step program answers c)) alike

-- a run is the same, if its calls are answered alike
pub alike-run : (program : ProgramView) (answers other : Answers) (steps : ℕ) (c : Counted)
    → AnswerAlike (version_run program answers steps c).calls answers other
    → version_run program answers steps c ≡ version_run program other steps c
alike-run program answers other zero c alike = refl
alike-run program answers other (suc steps) c alike =
    alike-run program answers other steps (counted_step program answers c) alike
    ∙ ap (version_run program other steps) (alike-step program answers other steps c alike)

-- a call is counted, if there is one
count-by : (program : ProgramView) (answers : Answers) (c : Counted) (f : Option FunId) (others : List TableRead)
    → (counted_by program answers c f).calls + length others
    ≡ c.calls + length (with_call answers (c.calls + 1) f others)
count-by program answers c None others = refl
count-by program answers c (Some f) others = omega arith

-- so all calls are
pub calls-count : (program : ProgramView) (answers : Answers) (steps : ℕ) (c : Counted)
    → (version_run program answers steps c).calls ≡ c.calls + length (calls_in program answers steps c)
calls-count program answers zero c = omega arith
calls-count program answers (suc steps) c =
    let next : Counted = counted_step program answers c in
    calls-count program answers steps next
    ∙ count-by program answers c (entering program c.state) (calls_in program answers steps next)

-- a call stands before the others, by either of two ways to answer that are alike
front-by : (program : ProgramView) (answers other : Answers) (c : Counted) (f : Option FunId) (last : ℕ)
    (first second : List TableRead) → (counted_by program answers c f).calls ≤ last → AnswerAlike last answers other
    → with_call other (c.calls + 1) f (first ++ second) ≡ with_call answers (c.calls + 1) f first ++ second
front-by program answers other c None last first second within alike = refl
front-by program answers other c (Some f) last first second within alike =
    ap (λ read. read ∷ first ++ second) (sym (alike (c.calls + 1) f within))

-- the calls of a run are those of its parts
pub calls-parts : (program : ProgramView) (answers other : Answers) (m n : ℕ) (c : Counted)
    → AnswerAlike (version_run program answers m c).calls answers other
    → calls_in program other (m + n) c
    ≡ calls_in program answers m c ++ calls_in program other n (version_run program answers m c)
calls-parts program answers other zero n c alike = let e : 0 + n ≡ n = omega arith in rw e refl
calls-parts program answers other (suc m) n c alike =
    let next : Counted = counted_step program answers c in
    let f : Option FunId = entering program c.state in
    let e : suc m + n ≡ suc (m + n) = omega arith in
    rw e (ap (λ d. with_call other (c.calls + 1) f (calls_in program other (m + n) d))
    (sym (alike-step program answers other m c alike))
    ∙ ap (with_call other (c.calls + 1) f) (calls-parts program answers other m n next alike)
    ∙ front-by program answers other c f _ (calls_in program answers m next)
    (calls_in program other n (version_run program answers m next))
    (calls-version_run program answers m next) alike)

-- the calls of runs
pub calls_of_runs : CallsOfRuns
calls_of_runs = record { count = calls-count; parts = calls-parts }
