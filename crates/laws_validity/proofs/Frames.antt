-- How a valid frame goes further.
use Rattle.std.proofs.Common.{◌≡◌, ◌<◌, ◌≤◌, ◌-◌, ℕ, suc, List, [], ◌∷◌, Option, None, Some, set, map, length, replicate, refl, sym, ap, ◌∙◌, subst, Contains}
use Rattle.std.specs.Prelude.{IfSome, is_some}
use Rattle.std.specs.List.{AllByRecursion}
use Rattle.std.proofs.lemmas.List.{map-set, length-map}
use Rattle.sour_syntax.specs.declared.instruction.Instr.{Instr}
use Rattle.sour_syntax.specs.declared.instruction.Line.{Line}
use Rattle.sour_syntax.specs.declared.literal.Value.{Value}
use Rattle.sour_syntax.specs.declared.literal.VarId.{VarId}
use Rattle.sour_syntax.specs.BodyView.{BodyView}
use Rattle.sour_syntax.specs.Labels.{first_label}
use Rattle.sour_syntax.specs.Exits.{continuations_of}
use Rattle.sour_syntax.specs.Literals.{literals_of}
use Rattle.sour_syntax.specs.Program.{ProgramView, IsProgram}
use Rattle.sour_syntax.specs.Scopes.{Scope, mentioned, scope_after, following_labels, scope_with, IsLineAt, HasScope, IsFine}
use Rattle.sour_syntax.proofs.Everywhere.{AllByRecursion-weaker, AllByRecursion-append, AllByRecursion-set, AllByRecursion-replicate}
use Rattle.sour_syntax.proofs.NoExits.{All-from_label}
use Rattle.sour_syntax.proofs.ScopeLists.{length-HasScope}
use Rattle.sour_semantics.specs.State.{Environment, Frame, FrameCode}
use Rattle.sour_semantics.specs.Step.{body_at, entered_frame}
use Rattle.sour_semantics.specs.Validity.{IsValue, IsKept, IsCode, IsValidFrame, scope_of}
use Rattle.sour_semantics.proofs.Environments.{scope_of-first}
use Rattle.laws_validity.proofs.Bodies.{Leads, IsBodyOf, IsBodyOf-code}
use Rattle.laws_validity.proofs.Values.{IsLiteralOf, IsKept-more}

-- a frame stays valid when there are more arrays
pub IsValidFrame-more : (program : ProgramView) (few many : ℕ) → few ≤ many → (frame : Frame) → IsValidFrame program few frame
    → IsValidFrame program many frame
IsValidFrame-more program few many less frame valid = record {
  body = valid.body;
  runs = valid.runs;
  code = valid.code;
  count = valid.count;
  path = valid.path;
  values = AllByRecursion-weaker (IsKept (length program.functions) few) (IsKept (length program.functions) many)
      (IsKept-more (length program.functions) few many less) frame.environment valid.values;
  place = valid.place;
}

-- a frame goes to this label with this environment
abbrev pub moved : Frame → List ℕ → Environment → Frame
moved frame label environment = record frame { label = label; environment = environment }

-- a frame stands at this label with this environment, and waits or doesn't
abbrev pub standing : Frame → List ℕ → Environment → Option ℕ → Frame
standing frame label environment waits = record frame { label = label; environment = environment; waits = waits }

-- a frame that waits for nothing stands at an instruction, behind which is a line with this label
pub record StandsBefore (program : ProgramView) (frame : Frame) (instr : Instr) (next : List ℕ) : Type 0 where
  pub free : frame.waits ≡ None
  pub fine : IsFine instr (scope_of frame.environment)
  pub literals : AllByRecursion (IsLiteralOf program) (literals_of instr)
  pub leads : AllByRecursion (Leads program frame.code) (continuations_of instr)
  -- each variable that it mentions has its place
  pub places : AllByRecursion (λ x. x.0 < length frame.environment) (mentioned instr)
  pub onward : (arrays : ℕ) (label : List ℕ) (environment : Environment) (waits : Option ℕ) → Contains (following_labels instr next) label
      → scope_with waits (scope_of environment) ≡ scope_after instr (scope_of frame.environment)
      → AllByRecursion (IsKept (length program.functions) arrays) environment
      → IfSome waits (λ x. x < length environment)
      → IsValidFrame program arrays (standing frame label environment waits)

-- a frame that waits for nothing has the scope of its environment
free_scope : (waits : Option ℕ) (scope : Scope) → waits ≡ None → scope_with waits scope ≡ scope
free_scope waits scope free = ap (λ (waits : Option ℕ). scope_with waits scope) free

-- where nothing waits, each variable that waits has its place
free_place : (waits : Option ℕ) (count : ℕ) → waits ≡ None → IfSome waits (λ x. x < count)
free_place waits count free =
    let Placed : Option ℕ → Type 0 = λ waits. IfSome waits (λ x. x < count) in
    subst Placed (sym free) tt

-- a valid frame stands before its instruction
pub StandsBefore-frame : (program : ProgramView) (arrays : ℕ) (frame : Frame) (line : Line) (rest : List Line) → IsProgram program
    → (valid : IsValidFrame program arrays frame) → frame.waits ≡ None → IsLineAt valid.body frame.label line rest
    → StandsBefore program frame line.instr (first_label rest)
StandsBefore-frame program arrays frame line rest is valid free at =
    let body : BodyView = valid.body in
    let one : IsBodyOf program frame.code body = IsBodyOf-code program frame.code body is valid.code valid.runs in
    let HasPath : Scope → Type 0 = HasScope body valid.count frame.label in
    let path : HasScope body valid.count frame.label (scope_of frame.environment) =
    subst HasPath (free_scope frame.waits (scope_of frame.environment) free) valid.path in
    let Within : ℕ → Type 0 = λ count. AllByRecursion (λ (x : VarId). x.0 < count) (mentioned line.instr) in
    let same : length body.variables ≡ length frame.environment =
    sym (length-HasScope body one.is.parameters valid.count frame.label (scope_of frame.environment) path)
    ∙ length-map frame.environment is_some in
    record {
      free = free;
      fine = one.is.scopes.fine valid.count frame.label (scope_of frame.environment) line rest path at;
      literals = All-from_label (λ (other : Line). AllByRecursion (IsLiteralOf program) (literals_of other.instr))
          frame.label body.lines line rest one.literals at.stands;
      leads = one.leads valid.count frame.label (scope_of frame.environment) line rest path at;
      places = subst Within same
          (All-from_label (λ (other : Line). AllByRecursion (λ (x : VarId). x.0 < length body.variables) (mentioned other.instr))
          frame.label body.lines line rest one.is.mentions at.stands);
      onward = λ arrays label environment waits follows scope values place. record {
        body = valid.body;
        runs = valid.runs;
        code = valid.code;
        count = suc valid.count;
        path = (frame.label, scope_of frame.environment, line, rest, path, at, follows, scope);
        values = values;
        place = place;
      };
    }

-- it goes to a label that may follow its instruction
pub IsValidFrame-moved : (program : ProgramView) (arrays : ℕ) (frame : Frame) (instr : Instr) (next label : List ℕ)
    (environment : Environment) → StandsBefore program frame instr next → Contains (following_labels instr next) label
    → scope_of environment ≡ scope_after instr (scope_of frame.environment)
    → AllByRecursion (IsKept (length program.functions) arrays) environment
    → IsValidFrame program arrays (moved frame label environment)
IsValidFrame-moved program arrays frame instr next label environment at follows scope values =
    at.onward arrays label environment frame.waits follows (free_scope frame.waits (scope_of environment) at.free ∙ scope) values
    (free_place frame.waits (length environment) at.free)

-- a frame that waits for a result goes on where it stands when it gets one
pub IsValidFrame-resumed : (program : ProgramView) (arrays : ℕ) (frame : Frame) (variable : ℕ) (value : Value)
    → IsValidFrame program arrays frame → frame.waits ≡ Some variable → IsValue (length program.functions) arrays value
    → IsValidFrame program arrays (record frame { environment = set frame.environment variable (Some value); waits = None })
IsValidFrame-resumed program arrays frame variable value valid waits is =
    let HasPath : Scope → Type 0 = HasScope valid.body valid.count frame.label in
    let scope : scope_with frame.waits (scope_of frame.environment) ≡ scope_of (set frame.environment variable (Some value)) =
    ap (λ (waits : Option ℕ). scope_with waits (scope_of frame.environment)) waits
    ∙ sym (map-set is_some frame.environment variable (Some value)) in
    record {
      body = valid.body;
      runs = valid.runs;
      code = valid.code;
      count = valid.count;
      path = subst HasPath scope valid.path;
      values = AllByRecursion-set (IsKept (length program.functions) arrays) frame.environment variable (Some value) valid.values is;
      place = tt;
    }

-- values with which a frame begins are kept as such
are_kept : (functions arrays : ℕ) (values : List Value) → AllByRecursion (IsValue functions arrays) values
    → AllByRecursion (IsKept functions arrays) (map Some values)
are_kept functions arrays [] are = tt
are_kept functions arrays (value ∷ values) are = (are.0, are_kept functions arrays values are.1)

-- a frame that is entered with values for its parameters is valid
pub IsValidFrame-entered : (program : ProgramView) (arrays : ℕ) (code : FrameCode) (body : BodyView) (values : List Value)
    → body_at program code ≡ Some body → IsCode program code → length values ≡ body.parameters
    → AllByRecursion (IsValue (length program.functions) arrays) values
    → IsValidFrame program arrays (entered_frame code body values)
IsValidFrame-entered program arrays code body values runs fine same are =
    let Kept : Option Value → Type 0 = IsKept (length program.functions) arrays in
    let empty : ℕ = length body.variables - length values in
    record {
      body = body;
      runs = runs;
      code = fine;
      count = 0;
      path = (refl, scope_of-first body values same);
      values = AllByRecursion-append Kept (map Some values) (replicate empty None) (are_kept (length program.functions) arrays values are)
          (AllByRecursion-replicate Kept empty None tt);
      place = tt;
    }
