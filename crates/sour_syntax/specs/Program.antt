-- What holds of every program that a text means.
use Rattle.std.specs.Prelude.{◌≡◌, ◌≢◌, ◌<◌, ◌≤◌, ◌||◌, ◌⊎◌, ℕ, suc, IsTrue, List, [], ◌∷◌, ◌++◌, Some, length, map, nat_eq, slice_get, codes}
use Rattle.std.specs.Char.{is_ascii_alphabetic}
use Rattle.std.specs.List.{AllByRecursion}
use Rattle.sour_syntax.specs.declared.literal.FunId.{FunId}
use Rattle.sour_syntax.specs.declared.literal.VarId.{VarId}
use Rattle.sour_syntax.specs.declared.program.Function.{Function}
use Rattle.sour_syntax.specs.declared.program.Version.{Version}
use Rattle.sour_syntax.specs.declared.instruction.Line.{Line}
use Rattle.sour_syntax.specs.Body.{IsBody}
use Rattle.sour_syntax.specs.Labels.{automatic_label}
use Rattle.sour_syntax.specs.Literals.{IsLiteral, literals_of}
use Rattle.sour_syntax.specs.Limits.{IsShortInstr}
use Rattle.sour_syntax.specs.Name.{IsName}
use Rattle.sour_syntax.specs.Scopes.{mentioned}
use Rattle.sour_syntax.specs.Targets.{HasExits}

-- what contracts see of a program
pub record ProgramView : Type 0 where
  pub functions : List Function
  pub main : FunId

-- no two of the names are the same
abbrev pub NamesDiffer : List (List ℕ) → Type 0
NamesDiffer [] = Unit {0}
NamesDiffer (name ∷ names) = AllByRecursion (λ other. other ≢ name) names × NamesDiffer names

-- the literals of these lines are those of a program with so many functions
abbrev pub HasLiterals : ℕ → List Line → Type 0
HasLiterals functions lines = AllByRecursion (λ line. AllByRecursion (IsLiteral functions) (literals_of line.instr)) lines

-- the first byte is a letter or `_`, as that of a word
abbrev pub BeginsAsWord : List ℕ → Type 0
BeginsAsWord [] = ⊥
BeginsAsWord (byte ∷ bytes) = IsTrue (is_ascii_alphabetic byte || nat_eq byte 95)

-- a name begins as a word does, and has no `/`
pub record IsUnqualifiedName (name : List ℕ) : Type 0 where
  pub begins : BeginsAsWord name
  pub whole : AllByRecursion (λ byte. byte ≢ 47) name

-- each label is a name, or the automatic one of its line, where the first of the lines stands at this place
abbrev pub HasLabels : ℕ → List Line → Type 0
HasLabels place [] = Unit {0}
HasLabels place (line ∷ lines) = (IsName line.label ⊎ (line.label ≡ automatic_label place)) × HasLabels (suc place) lines

-- the variables that lines mention, in the order in which they are written
abbrev pub mentioned_in : List Line → List VarId
mentioned_in [] = []
mentioned_in (line ∷ lines) = mentioned line.instr ++ mentioned_in lines

-- each of the variables has a number below the count so far, or exactly that count, which then grows by one, and in the end there are so many
abbrev pub AreNumberedInOrder : ℕ → List VarId → ℕ → Type 0
AreNumberedInOrder count [] all = count ≡ all
AreNumberedInOrder count (x ∷ xs) all =
    ((x.0 < count) × AreNumberedInOrder count xs all) ⊎ ((x.0 ≡ count) × AreNumberedInOrder (suc count) xs all)

-- a version of the function that has this number and these parameters, among these functions
pub record IsVersion (functions : List Function) (number : ℕ) (parameters : List (List ℕ)) (version : Version) : Type 0 where
  pub name : IsName version.name
  pub body : IsBody version.body
  pub numbered : version.body.function.0 ≡ number
  -- the parameters come first among the variables
  pub takes : version.body.parameters ≡ length parameters
  pub others : List (List ℕ)
  pub variables : version.body.variables ≡ parameters ++ others
  -- and behind them each has the next number where a line first mentions it
  pub order : AreNumberedInOrder version.body.parameters (mentioned_in version.body.lines) (length version.body.variables)
  pub differ : NamesDiffer version.body.variables
  pub names : AllByRecursion IsName version.body.variables
  pub labels : HasLabels 0 version.body.lines
  pub literals : HasLiterals (length functions) version.body.lines
  -- an exit leads to a version of the text
  pub exits : HasExits functions [] version.body
  -- what a text may give a version at most
  pub lines : length version.body.lines ≤ 4096
  pub few_variables : length version.body.variables ≤ 1024
  pub instrs : AllByRecursion (λ line. IsShortInstr line.instr) version.body.lines

-- the function that has this number, among these functions: it has a version, its versions have different names, and all have the same parameters
pub record IsFunction (functions : List Function) (number : ℕ) (function : Function) : Type 0 where
  pub name : IsName function.name
  pub some : ¬ (function.versions ≡ [])
  pub names : NamesDiffer (map (λ (version : Version). version.name) function.versions)
  pub parameters : List (List ℕ)
  pub versions : AllByRecursion (IsVersion functions number parameters) function.versions
  -- what a text may give a function at most
  pub few_parameters : length parameters ≤ 255
  pub few_versions : length function.versions ≤ 16

-- some of the functions of a program, the first of which has this number
abbrev pub AreFunctions : List Function → ℕ → List Function → Type 0
AreFunctions functions number [] = Unit {0}
AreFunctions functions number (function ∷ others) = IsFunction functions number function × AreFunctions functions (suc number) others

-- there is a function main, it has a text version, and it has no parameters
pub record HasMain (program : ProgramView) : Type 0 where
  pub function : Function
  pub version : Version
  pub others : List Version
  pub found : slice_get program.functions program.main.0 ≡ Some function
  pub named : function.name ≡ codes "main"
  pub text : function.versions ≡ version ∷ others
  pub parameters : version.body.parameters ≡ 0

-- a checked program
pub record IsProgram (program : ProgramView) : Type 0 where
  pub names : NamesDiffer (map (λ (function : Function). function.name) program.functions)
  pub few : length program.functions ≤ 256
  pub each : AreFunctions program.functions 0 program.functions
  pub main : HasMain program
