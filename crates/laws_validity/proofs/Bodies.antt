-- The body that a frame runs is that of a version of the program or one of a bundle of it.
use Rattle.std.proofs.Common.{◌≡◌, ◌<◌, ◌≤◌, ◌+◌, ℕ, zero, suc, List, [], ◌∷◌, ◌++◌, true, false, Option, None, Some, length, refl, sym, ap, ◌∙◌, subst, arith, append_assoc, length-append}
use Rattle.std.specs.Prelude.{IfSome}
use Rattle.std.specs.List.{AllByRecursion, slice_get}
use Rattle.std.proofs.lemmas.Bool.{false≢true}
use Rattle.std.proofs.lemmas.Option.{IfSome_then, same_Some, none-some, slice_get_within}
use Rattle.sour_syntax.specs.declared.exit.Code.{Code}
use Rattle.sour_syntax.specs.declared.exit.Code.TheVariants.{Text, Made}
use Rattle.sour_syntax.specs.declared.instruction.Line.{Line}
use Rattle.sour_syntax.specs.declared.literal.FunId.{FunId}
use Rattle.sour_syntax.specs.declared.literal.VarId.{VarId}
use Rattle.sour_syntax.specs.declared.program.Function.{Function}
use Rattle.sour_syntax.specs.declared.program.Version.{Version}
use Rattle.sour_syntax.specs.Body.{IsBody}
use Rattle.sour_syntax.specs.BodyView.{BodyView}
use Rattle.sour_syntax.specs.Exits.{Continuation, continuations_of, bound_names}
use Rattle.sour_syntax.specs.Program.{ProgramView, HasLiterals, IsUnqualifiedName, IsVersion, IsFunction, AreFunctions, IsProgram}
use Rattle.sour_syntax.specs.Scopes.{Scope, scope_with, IsLineAt, HasScope}
use Rattle.sour_syntax.specs.Targets.{version_body, text_body, named_body, scope_of_names, Lands}
use Rattle.sour_syntax.proofs.Everywhere.{AllByRecursion-weaker, IfSome-slice_get, slice_get-front}
use Rattle.sour_syntax.proofs.NamedScopes.{length-scope_of_names}
use Rattle.sour_syntax.proofs.UnqualifiedNames.{unqualified_labels}
use Rattle.sour_semantics.specs.State.{FrameCode, text, made}
use Rattle.sour_semantics.specs.Step.{body_at, exit_code, is_anchor}
use Rattle.sour_semantics.specs.Shape.{HasMadeLabel, IsMadeBody, AreMadeBodies}
use Rattle.sour_semantics.specs.Validity.{IsCode}
use Rattle.sour_semantics.proofs.Anchors.{word-no_anchor}

-- the number of a body in its bundle; a version of the text has none, and counts as 0
abbrev pub depth : FrameCode → ℕ
depth (text function version) = 0
depth (made bodies number) = number

-- an exit of a frame that runs the first code names this body, which stands below that code if that is made
pub record NamesBelow (program : ProgramView) (from : FrameCode) (code : Code) (body : BodyView) : Type 0 where
  pub found : body_at program (exit_code from code) ≡ Some body
  pub fine : IsCode program (exit_code from code)
  pub lower : 0 < depth from → depth (exit_code from code) < depth from

-- a continuation of a frame that runs this code leads to a label where its map fits the scope
pub record Leads (program : ProgramView) (from : FrameCode) (continuation : Continuation) : Type 0 where
  pub body : BodyView
  pub names : NamesBelow program from continuation.target.code body
  pub count : ℕ
  pub path : HasScope body count continuation.target.label
      (scope_with continuation.waits (scope_of_names (length body.variables) (bound_names continuation.binds)))
  -- the variable that waits is one of the body's
  pub waits : IfSome continuation.waits (λ x. x < length body.variables)

-- what holds of a body that a frame runs as this code
pub record IsBodyOf (program : ProgramView) (code : FrameCode) (body : BodyView) : Type 0 where
  pub is : IsBody body
  pub literals : HasLiterals (length program.functions) body.lines
  pub lines : length body.lines ≤ 4096
  pub low : depth code ≤ 32
  -- a version of the text has no anchors
  pub anchors : AllByRecursion (λ line. is_anchor line.label ≡ true → 0 < depth code) body.lines
  pub leads : (count : ℕ) (label : List ℕ) (scope : Scope) (line : Line) (rest : List Line)
      → HasScope body count label scope → IsLineAt body label line rest
      → AllByRecursion (Leads program code) (continuations_of line.instr)

-- where a continuation lands it leads, if what it names stands below the code
pub Leads-lands : (program : ProgramView) (from : FrameCode) (bodies : List BodyView) (continuation : Continuation)
    → ((body : BodyView) → named_body program.functions bodies continuation.target.code ≡ Some body
    → NamesBelow program from continuation.target.code body)
    → Lands program.functions bodies continuation → Leads program from continuation
Leads-lands program from bodies continuation below lands =
    let names : List VarId = bound_names continuation.binds in
    let scope : Scope = scope_of_names (length lands.body.variables) names in
    record {
      body = lands.body;
      names = below lands.body lands.found;
      count = lands.count;
      path = lands.path;
      waits = IfSome_then continuation.waits {P = λ x. slice_get scope x ≡ Some false} {Q = λ x. x < length lands.body.variables} lands.free
          (λ x free. omega (arith, slice_get_within scope x false free, length-scope_of_names (length lands.body.variables) names));
    }

-- an exit of a version names a version
pub NamesBelow-text : (program : ProgramView) (function : FunId) (version : ℕ) (code : Code) (body : BodyView)
    → named_body program.functions [] code ≡ Some body → NamesBelow program (text function version) code body
NamesBelow-text program function version (Text f place) body found =
    record { found = found; fine = tt; lower = λ above. absurd (omega (arith, above)) }
NamesBelow-text program function version (Made zero) body found = absurd (none-some body found)
NamesBelow-text program function version (Made (suc place)) body found = absurd (none-some body found)

-- an exit of a body of a bundle names a version or one of the bodies before it
NamesBelow-made : (program : ProgramView) (bodies earlier behind : List BodyView) (own : ℕ) (code : Code) (body : BodyView)
    → IsCode program (made bodies own) → bodies ≡ earlier ++ behind → length earlier < own
    → named_body program.functions earlier code ≡ Some body → NamesBelow program (made bodies own) code body
NamesBelow-made program bodies earlier behind own (Text f place) body fine whole below found =
    record { found = found; fine = tt; lower = λ above. above }
NamesBelow-made program bodies earlier behind own (Made zero) body fine whole below found = absurd (none-some body found)
NamesBelow-made program bodies earlier behind own (Made (suc place)) body fine whole below found =
    let Found : List BodyView → Type 0 = λ all. slice_get all place ≡ Some body in
    record {
      found = subst Found (sym whole) (slice_get-front earlier behind place body found);
      fine = fine;
      lower = λ above. omega (arith, below, slice_get_within earlier place body found);
    }

-- the body of a version
IsBodyOf-version : (program : ProgramView) (function : FunId) (place number : ℕ) (parameters : List (List ℕ)) (version : Version)
    → IsVersion program.functions number parameters version → IsBodyOf program (text function place) version.body
IsBodyOf-version program function place number parameters version is = record {
  is = is.body;
  literals = is.literals;
  lines = is.lines;
  low = omega arith;
  anchors = AllByRecursion-weaker (λ (line : Line). IsUnqualifiedName line.label)
      (λ (line : Line). is_anchor line.label ≡ true → 0 < depth (text function place))
      (λ line unqualified anchor. absurd (false≢true (sym (word-no_anchor line.label unqualified.begins) ∙ anchor))) version.body.lines
      (unqualified_labels program.functions number parameters version is);
  leads = λ count label scope line rest path at.
      AllByRecursion-weaker (Lands program.functions []) (Leads program (text function place))
      (λ continuation. Leads-lands program (text function place) [] continuation
      (NamesBelow-text program function place continuation.target.code))
      (continuations_of line.instr) (is.exits.land count label scope line rest path at);
}

-- the body of what may be a version
IsBodyOf-version_body : (program : ProgramView) (code : FrameCode) (found : Option Version) (body : BodyView)
    → IfSome found (λ (version : Version). IsBodyOf program code version.body) → version_body found ≡ Some body → IsBodyOf program code body
IsBodyOf-version_body program code None body fine is = absurd (none-some body is)
IsBodyOf-version_body program code (Some version) body fine is =
    let Fine : BodyView → Type 0 = IsBodyOf program code in
    subst Fine (same_Some version.body body is) fine

-- the body of a version of what may be a function
IsBodyOf-text_body : (program : ProgramView) (f : FunId) (place : ℕ) (found : Option Function) (body : BodyView)
    → IfSome found (λ (function : Function). (number : ℕ) × IsFunction program.functions number function)
    → text_body found place ≡ Some body → IsBodyOf program (text f place) body
IsBodyOf-text_body program f place None body fine is = absurd (none-some body is)
IsBodyOf-text_body program f place (Some function) body (number, fine) is =
    let Fine : Version → Type 0 = λ version. IsBodyOf program (text f place) version.body in
    IsBodyOf-version_body program (text f place) (slice_get function.versions place) body
    (IfSome-slice_get Fine function.versions place
    (AllByRecursion-weaker (IsVersion program.functions number fine.parameters) Fine
    (IsBodyOf-version program f place number fine.parameters) function.versions fine.versions)) is

-- what is looked up among some functions is one with a number
pub IfSome-functions : (all : List Function) (number : ℕ) (functions : List Function) (place : ℕ) → AreFunctions all number functions
    → IfSome (slice_get functions place) (λ (function : Function). (other : ℕ) × IsFunction all other function)
IfSome-functions all number [] place are = tt
IfSome-functions all number (function ∷ functions) zero are = (number, are.0)
IfSome-functions all number (function ∷ functions) (suc place) are = IfSome-functions all (suc number) functions place are.1

-- a body stands at a place of a bundle, counted from 0
record StandsIn (program : ProgramView) (all : List BodyView) (place : ℕ) (body : BodyView) : Type 0 where
  pub earlier : List BodyView
  pub behind : List BodyView
  pub whole : all ≡ earlier ++ behind
  pub count : length earlier ≡ place
  pub within : place < length all
  pub is : IsMadeBody program earlier body

-- what is found among some bodies of a bundle stands there
StandsIn-found : (program : ProgramView) (all earlier bodies : List BodyView) (place at : ℕ) (body : BodyView)
    → AreMadeBodies program earlier bodies → all ≡ earlier ++ bodies → at ≡ length earlier + place
    → slice_get bodies place ≡ Some body → StandsIn program all at body
StandsIn-found program all earlier [] place at body are whole is found = absurd (none-some body found)
StandsIn-found program all earlier (first ∷ bodies) zero at body are whole is found = record {
  earlier = earlier;
  behind = first ∷ bodies;
  whole = whole;
  count = omega (arith, is);
  within = omega (arith, is, ap length whole, length-append earlier (first ∷ bodies));
  is = subst (IsMadeBody program earlier) (same_Some first body found) are.0;
}
StandsIn-found program all earlier (first ∷ bodies) (suc place) at body are whole is found =
    StandsIn-found program all (earlier ++ first ∷ []) bodies place at body are.1
    (whole ∙ sym (append_assoc earlier (first ∷ []) bodies))
    (omega (arith, is, length-append earlier (first ∷ []))) found

-- a body of a bundle
IsBodyOf-made : (program : ProgramView) (bodies : List BodyView) (place : ℕ) (body : BodyView) → IsCode program (made bodies (suc place))
    → StandsIn program bodies place body → IsBodyOf program (made bodies (suc place)) body
IsBodyOf-made program bodies place body fine at = record {
  is = at.is.is;
  literals = at.is.literals;
  lines = at.is.lines;
  low = omega (arith, at.within, fine.1.few);
  anchors = AllByRecursion-weaker HasMadeLabel (λ (line : Line). is_anchor line.label ≡ true → 0 < suc place)
      (λ line labelled anchor. omega arith) body.lines at.is.labels;
  leads = λ count label scope line rest path stands.
      AllByRecursion-weaker (Lands program.functions at.earlier) (Leads program (made bodies (suc place)))
      (λ continuation. Leads-lands program (made bodies (suc place)) at.earlier continuation
      (λ other. NamesBelow-made program bodies at.earlier at.behind (suc place) continuation.target.code other fine at.whole
      (omega (arith, at.count))))
      (continuations_of line.instr) (at.is.exits.land count label scope line rest path stands);
}

-- what a code names is the body of a version of the program or of a bundle of it
pub IsBodyOf-code : (program : ProgramView) (code : FrameCode) (body : BodyView) → IsProgram program → IsCode program code
    → body_at program code ≡ Some body → IsBodyOf program code body
IsBodyOf-code program (text f place) body is fine runs =
    IsBodyOf-text_body program f place (slice_get program.functions f.0) body
    (IfSome-functions program.functions 0 program.functions f.0 is.each) runs
IsBodyOf-code program (made bodies zero) body is fine runs = absurd (none-some body runs)
IsBodyOf-code program (made bodies (suc place)) body is fine runs =
    IsBodyOf-made program bodies place body fine
    (StandsIn-found program bodies [] bodies place place body fine.1.each refl (omega arith) runs)
