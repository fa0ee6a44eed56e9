-- Bodies of the versions of a checked program.
use Rattle.std.proofs.Common.{◌≡◌, ◌≢◌, ◌+◌, ℕ, zero, suc, cond, List, [], ◌∷◌, ◌++◌, Some, slice_get, refl, ap, subst, arith}
use Rattle.std.specs.List.{AllByRecursion}
use Rattle.std.proofs.lemmas.Option.{same_Some, none-some}
use Rattle.sour_syntax.specs.declared.exit.Code.{Code}
use Rattle.sour_syntax.specs.declared.exit.Code.TheVariants.{Text, Made}
use Rattle.sour_syntax.specs.declared.instruction.Line.{Line}
use Rattle.sour_syntax.specs.declared.literal.FunId.{FunId}
use Rattle.sour_syntax.specs.declared.program.Function.{Function}
use Rattle.sour_syntax.specs.declared.program.Version.{Version}
use Rattle.sour_syntax.specs.BodyView.{BodyView}
use Rattle.sour_syntax.specs.Exits.{Continuation, continuations_of}
use Rattle.sour_syntax.specs.Program.{ProgramView, BeginsAsWord, IsUnqualifiedName, IsVersion, AreFunctions, IsProgram}
use Rattle.sour_syntax.specs.Targets.{version_body, text_body, named_body, IsNamed}
use Rattle.sour_syntax.proofs.UnqualifiedNames.{unqualified_labels}
use Rattle.sour_semantics.specs.Shape.{without_at, BeginsWith}
use Rattle.sour_semantics.proofs.Anchors.{no_at}

-- a body is that of a version of the function that has this number
pub record IsVersionBody (functions : List Function) (number : ℕ) (body : BodyView) : Type 0 where
  pub parameters : List (List ℕ)
  pub version : Version
  pub is : IsVersion functions number parameters version
  pub same : version.body ≡ body

-- the body of a version that is found among some
IsVersionBody-version : (functions : List Function) (number : ℕ) (parameters : List (List ℕ)) (versions : List Version) (place : ℕ) (body : BodyView)
    → AllByRecursion (IsVersion functions number parameters) versions → version_body (slice_get versions place) ≡ Some body
    → IsVersionBody functions number body
IsVersionBody-version functions number parameters [] place body are found = absurd (none-some body found)
IsVersionBody-version functions number parameters (version ∷ versions) zero body are found =
    record { parameters = parameters; version = version; is = are.0; same = same_Some version.body body found }
IsVersionBody-version functions number parameters (version ∷ versions) (suc place) body are found =
    IsVersionBody-version functions number parameters versions place body are.1 found

-- the body of a version of a function that is found among some
IsVersionBody-function : (functions : List Function) (number : ℕ) (some : List Function) (place version : ℕ) (body : BodyView)
    → AreFunctions functions number some → text_body (slice_get some place) version ≡ Some body → IsVersionBody functions (number + place) body
IsVersionBody-function functions number [] place version body are found = absurd (none-some body found)
IsVersionBody-function functions number (function ∷ some) zero version body are found =
    let Numbered : ℕ → Type 0 = λ n. IsVersionBody functions n body in
    let same : number ≡ number + 0 = omega arith in
    subst Numbered same (IsVersionBody-version functions number are.0.parameters function.versions version body are.0.versions found)
IsVersionBody-function functions number (function ∷ some) (suc place) version body are found =
    let Numbered : ℕ → Type 0 = λ n. IsVersionBody functions n body in
    let same : suc number + place ≡ number + suc place = omega arith in
    subst Numbered same (IsVersionBody-function functions (suc number) some place version body are.1 found)

-- the body of a version of a checked program
pub IsVersionBody-program : (program : ProgramView) (f : FunId) (version : ℕ) (body : BodyView) → IsProgram program
    → text_body (slice_get program.functions f.0) version ≡ Some body → IsVersionBody program.functions f.0 body
IsVersionBody-program program f version body is found =
    let Numbered : ℕ → Type 0 = λ n. IsVersionBody program.functions n body in
    let same : 0 + f.0 ≡ f.0 = omega arith in
    subst Numbered same (IsVersionBody-function program.functions 0 program.functions f.0 version body is.each found)

-- a label that begins as a word does has no `@` to take away
pub word-without_at : (label : List ℕ) → BeginsAsWord label → without_at label ≡ label
word-without_at [] begins = absurd begins
word-without_at (byte ∷ bytes) begins = ap (λ test. cond test bytes (byte ∷ bytes)) (no_at byte begins)

-- bytes among which a `/` stands have one
has_slash : (label rest : List ℕ) → AllByRecursion (λ byte. byte ≢ 47) ((label ++ 47 ∷ []) ++ rest) → ⊥
has_slash [] rest all = all.0 refl
has_slash (byte ∷ label) rest all = has_slash label rest all.1

-- a name without a `/` begins with no label and `/`
pub whole-no_front : (name label : List ℕ) → AllByRecursion (λ byte. byte ≢ 47) name → ¬ BeginsWith (label ++ 47 ∷ []) name
whole-no_front name label whole begins =
    let Whole : List ℕ → Type 0 = AllByRecursion (λ byte. byte ≢ 47) in
    has_slash label begins.0 (subst Whole begins.1 whole)

-- an exit leads to a version of the text
abbrev pub IsTextTarget : Code → Type 0
IsTextTarget (Text f version) = Unit {0}
IsTextTarget (Made number) = ⊥

-- where there is no made body, one that is named is a version's
IsTextTarget-named : (functions : List Function) (code : Code) (body : BodyView) → named_body functions [] code ≡ Some body → IsTextTarget code
IsTextTarget-named functions (Text f version) body found = tt
IsTextTarget-named functions (Made zero) body found = none-some body found
IsTextTarget-named functions (Made (suc place)) body found = none-some body found

-- a line of a text has an unqualified label, and leaves for versions alone
pub record IsTextLine (line : Line) : Type 0 where
  pub label : IsUnqualifiedName line.label
  pub exits : AllByRecursion (λ continuation. IsTextTarget continuation.target.code) (continuations_of line.instr)

-- so do continuations that are named where there is no made body
are-text : (functions : List Function) (continuations : List Continuation) → AllByRecursion (IsNamed functions []) continuations
    → AllByRecursion (λ continuation. IsTextTarget continuation.target.code) continuations
are-text functions [] named = tt
are-text functions (continuation ∷ others) named =
    (IsTextTarget-named functions continuation.target.code named.0.body named.0.found, are-text functions others named.1)

-- the lines of a version
are-lines : (functions : List Function) (lines : List Line) → AllByRecursion (λ line. IsUnqualifiedName line.label)
    lines
    → AllByRecursion (λ line. AllByRecursion (IsNamed functions []) (continuations_of line.instr)) lines → AllByRecursion IsTextLine lines
are-lines functions [] unqualified named = tt
are-lines functions (line ∷ lines) unqualified named = (
  record { label = unqualified.0; exits = are-text functions (continuations_of line.instr) named.0 },
  are-lines
      functions lines unqualified.1 named.1,
)

-- the lines of the body of a version
pub text-lines : (functions : List Function) (number : ℕ) (body : BodyView) → IsVersionBody functions number body → AllByRecursion IsTextLine body.lines
text-lines functions number body of =
    let Lines : BodyView → Type 0 = λ b. AllByRecursion IsTextLine b.lines in
    subst Lines of.same (are-lines functions of.version.body.lines
    (unqualified_labels functions number of.parameters of.version of.is) of.is.exits.named)
