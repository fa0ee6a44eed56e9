-- What frames are in the language, and where they stand.
use Rattle.std.proofs.Common.{◌≡◌, ℕ, ◌-◌, ◌≤◌, List, [], ◌++◌, true, None, Some, length, map, replicate, drop, sym, ap, ◌∙◌, subst, arith}
use Rattle.std.specs.Prelude.{slice_set, is_some}
use Rattle.std.specs.List.{AllByRecursion}
use Rattle.std.proofs.lemmas.List.{length-map}
use Rattle.std.proofs.lemmas.Option.{same_Some}
use Rattle.sour_syntax.specs.BodyView.{BodyView}
use Rattle.sour_syntax.specs.Labels.{first_label, label_at}
use Rattle.sour_syntax.specs.Program.{ProgramView, HasMain}
use Rattle.sour_syntax.specs.Scopes.{Scope, first_scope, HasScope}
use Rattle.sour_syntax.specs.Terminator.{EndsInTerminator}
use Rattle.sour_syntax.specs.declared.literal.Value.{Value}
use Rattle.sour_syntax.proofs.Everywhere.{AllByRecursion-weaker}
use Rattle.sour_syntax.proofs.ScopeLists.{length-HasScope}
use Rattle.sour_semantics.specs.State as state
use Rattle.sour_semantics.specs.State.{Environment}
use Rattle.sour_semantics.specs.Step.{body_at, first_environment}
use Rattle.sour_semantics.specs.Validity.{scope_of}
use Rattle.sour_semantics.proofs.Environments.{scope_of-first}
use Rattle.sour_machine.specs.declared.activation.Activation.{Activation}
use Rattle.sour_machine.specs.declared.activation.Waiting.{Waiting}
use Rattle.sour_machine.specs.Frame.{code_of, StandsAtLine, StandsWaiting}
use Rattle.sour_machine.specs.Instruction.{HasPlaces}
use Rattle.sour_machine.proofs.Scopes.{scope_of-set, row-set}
use Rattle.laws_validity.proofs.Runs.{runs_main}

-- the result for which a frame waits has its place
pub HasPlaces-standing : (program : ProgramView) (below : List Waiting) → AllByRecursion (StandsWaiting program) below → AllByRecursion HasPlaces below
HasPlaces-standing program below all = AllByRecursion-weaker (StandsWaiting program) HasPlaces (λ waiting stands. stands.place) below all

-- a row of the values to which the other variables were added
pub first_environment-row : (body : BodyView) (row env : Environment) (values : List Value) (count : ℕ) → env ≡ row ++ replicate (count - length row) None → count ≡ length body.variables
    → row ≡ map Some values → env ≡ first_environment body values
first_environment-row body row env values count is counts begun =
    let each : length row ≡ length values = ap length begun ∙ length-map values Some in
    is
    ∙ ap (λ front. front ++ replicate (count - length row) None) begun
    ∙ ap (λ n. map Some values ++ replicate (n - length row) None) counts
    ∙ ap (λ n. map Some values ++ replicate (length body.variables - n) None) each

-- a frame that was entered stands at its first line
pub StandsAtLine-first : (program : ProgramView) (frame : Activation) (body : BodyView) (values : List Value)
    → body_at program (code_of frame.code) ≡ Some body → frame.place ≡ 0 → frame.env ≡ first_environment body values
    → length values ≡ body.parameters → body.parameters ≤ length body.variables → StandsAtLine program frame None
StandsAtLine-first program frame body values runs first begun taken within =
    let Ends : ℕ → Type 0 = λ place. EndsInTerminator (drop place body.lines) in
    let label : label_at body.lines frame.place ≡ first_label body.lines =
    ap (λ place. label_at body.lines place) first in
    let scope : scope_of frame.env ≡ first_scope body = ap scope_of begun ∙ scope_of-first body values taken in
    record {
      body = body;
      runs = runs;
      line = subst Ends (sym first);
      count = 0;
      path = (label, scope);
      row = sym (length-map frame.env is_some) ∙ length-HasScope body within 0 _ _ (label, scope);
    }

-- main stands at its first line, where none of its variables has a value
pub StandsAtLine-main : (program : ProgramView) (has : HasMain program) (frame : Activation) (body : BodyView)
    (count : ℕ) → code_of frame.code ≡ state.text program.main 0 → frame.place ≡ 0
    → Some body ≡ body_at program (code_of frame.code)
    → count ≡ length body.variables → frame.env ≡ replicate (count - 0) None → StandsAtLine program frame None
StandsAtLine-main program has frame body count code first runs counts begun =
    let main : body_at program (code_of frame.code) ≡ Some has.version.body =
    ap (body_at program) code ∙ runs_main program has in
    let same : body ≡ has.version.body = same_Some body has.version.body (runs ∙ main) in
    StandsAtLine-first program frame has.version.body [] main first
    (begun ∙ ap (λ n. replicate (n - 0) None) (counts ∙ ap (λ (b : BodyView). length b.variables) same))
    (sym has.parameters) (omega (arith, has.parameters))

-- a frame that got the result for which it waited
pub StandsAtLine-resumed : (program : ProgramView) (waiting : Waiting) (env : Environment) (value : Value) → env ≡ slice_set waiting.frame.env waiting.result.0 (Some value) → StandsWaiting program waiting
    → StandsAtLine program (record waiting.frame { env = env }) None
StandsAtLine-resumed program waiting env value is stands =
    let at = stands.at_line in
    let scope : scope_of env ≡ slice_set (scope_of waiting.frame.env) waiting.result.0 true = scope_of-set waiting.frame.env env waiting.result.0 (Some value) is in
    let Path : Scope → Type 0 = λ scope. HasScope at.body at.count (label_at at.body.lines waiting.frame.place) scope in
    record {
      body = at.body;
      runs = at.runs;
      line = at.line;
      count = at.count;
      path = subst Path (sym scope) at.path;
      row = row-set waiting.frame.env env waiting.result.0 (Some value) is ∙ at.row;
    }
