-- A program with names in place of numbers is within the limits, and has the line numbers of the canonical text.
use Rattle.std.proofs.Common.{◌≡◌, ◌+◌, ◌≤◌, ℕ, suc, List, [], ◌∷◌, length, refl, sym, ap, subst, arith}
use Rattle.std.specs.List.{AllByRecursion}
use Rattle.std.proofs.lemmas.List.{length-map}
use Rattle.sour_syntax.specs.declared.instruction.Instr.{Instr}
use Rattle.sour_syntax.specs.declared.instruction.Instr.TheVariants.{Var, Drop, Assign, ArrayLength, ArrayList, Store, Print, Read, Branch, Goto, Call, Return, Stop, Assume}
use Rattle.sour_syntax.specs.declared.instruction.Line.{Line}
use Rattle.sour_syntax.specs.declared.program.Function.{Function}
use Rattle.sour_syntax.specs.declared.program.Version.{Version}
use Rattle.sour_syntax.specs.Limits.{IsShortInstr}
use Rattle.sour_syntax.specs.Program.{IsVersion, AreFunctions}
use Rattle.sour_raw.specs.Limits.{IsShortInstr as IsShortRaw, HasShortInstrs, IsShortVersion, IsShortFunction}
use Rattle.laws_printing.specs.Laws.{ProgramsAreShort, ProgramsAreCanonical}
use Rattle.laws_printing.specs.Named.{raw_expr, raw_extra, raw_instr, raw_lines, raw_version, raw_versions, raw_function, raw_functions}
use Rattle.laws_printing.specs.Numbered.{version_height, function_height, AreNumbered, AreVersionsNumbered, AreFunctionsNumbered}
use Rattle.laws_printing.proofs.ProgramsChecked.{function_parameters, version_variables}

module _ (functions : List Function) where
  -- ---- how many there are

  -- lines
  length-raw_lines : (names : List (List ℕ)) (number place : ℕ) (lines : List Line)
      → length (raw_lines functions names number place lines) ≡ length lines
  length-raw_lines names number place [] = refl
  length-raw_lines names number place (line ∷ lines) = ap suc (length-raw_lines names (number + 1) (suc place) lines)

  -- versions
  length-raw_versions : (number : ℕ) (versions : List Version)
      → length (raw_versions functions number versions) ≡ length versions
  length-raw_versions number [] = refl
  length-raw_versions number (version ∷ versions) =
      ap suc (length-raw_versions (number + version_height (raw_version functions number version)) versions)

  -- functions
  length-raw_functions : (number : ℕ) (some : List Function)
      → length (raw_functions functions number some) ≡ length some
  length-raw_functions number [] = refl
  length-raw_functions number (function ∷ others) =
      ap suc (length-raw_functions (number + function_height (raw_function functions number function)) others)

  -- ---- limits

  -- an instruction is as short as it was
  instr_short : (names : List (List ℕ)) (i : Instr) → IsShortInstr i → IsShortRaw (raw_instr functions names i)
  instr_short names (Var x e) short = tt
  instr_short names (Drop x) short = tt
  instr_short names (Assign x e) short = tt
  instr_short names (ArrayLength x e) short = tt
  instr_short names (ArrayList x es) short =
      subst (λ n. n ≤ 1024) (sym (length-map es (raw_expr functions names))) short
  instr_short names (Store x index e) short = tt
  instr_short names (Print e) short = tt
  instr_short names (Read x) short = tt
  instr_short names (Branch e first second) short = tt
  instr_short names (Goto label) short = tt
  instr_short names (Call x callee es) short =
      subst (λ n. n ≤ 255) (sym (length-map es (raw_expr functions names))) short
  instr_short names (Return e) short = tt
  instr_short names Stop short = tt
  instr_short names (Assume es exit) short = (
    subst (λ n. n ≤ 16) (sym (length-map es (raw_expr functions names))) short.0,
    subst (λ n. n ≤ 16) (sym (length-map exit.extras (raw_extra functions names))) short.1,
  )

  -- so are lines
  lines_short : (names : List (List ℕ)) (number place : ℕ) (lines : List Line)
      → AllByRecursion (λ (line : Line). IsShortInstr line.instr) lines
      → HasShortInstrs (raw_lines functions names number place lines)
  lines_short names number place [] short = tt
  lines_short names number place (line ∷ lines) short =
      (instr_short names line.instr short.0, lines_short names (number + 1) (suc place) lines short.1)

  -- versions
  versions_short : (f number : ℕ) (parameters : List (List ℕ)) (versions : List Version)
      → AllByRecursion (IsVersion functions f parameters) versions
      → AllByRecursion (IsShortVersion parameters) (raw_versions functions number versions)
  versions_short f number parameters [] each = tt
  versions_short f number parameters (version ∷ versions) (is, others) =
      let names : List (List ℕ) = version.body.variables in (
        record {
          lines = subst (λ n. n ≤ 4096) (sym (length-raw_lines names (number + 1) 0 version.body.lines)) is.lines;
          variables =
              subst (λ (own : List (List ℕ)). length own ≤ 1024)
              (sym (version_variables functions f parameters version (number + 1) is))
              is.few_variables;
          instrs = lines_short names (number + 1) 0 version.body.lines is.instrs;
        },
        versions_short f (number + version_height (raw_version functions number version)) parameters versions others,
      )

  -- functions
  functions_short : (f number : ℕ) (some : List Function) → AreFunctions functions f some
      → AllByRecursion IsShortFunction (raw_functions functions number some)
  functions_short f number [] each = tt
  functions_short f number (function ∷ others) (is, each) =
      let same = sym (function_parameters functions f function is) in (
        record {
          parameters = subst (λ (parameters : List (List ℕ)). length parameters ≤ 255) same is.few_parameters;
          versions = subst (λ n. n ≤ 16) (sym (length-raw_versions (number + 1) function.versions)) is.few_versions;
          each =
              subst (λ (parameters : List (List ℕ)). AllByRecursion (IsShortVersion parameters)
              (raw_versions functions (number + 1) function.versions)) same
              (versions_short f (number + 1) is.parameters function.versions is.versions);
        },
        functions_short (suc f) (number + function_height (raw_function functions number function)) others each,
      )

  -- ---- line numbers

  -- of lines
  lines_numbered : (names : List (List ℕ)) (number place : ℕ) (lines : List Line)
      → AreNumbered number (raw_lines functions names number place lines)
  lines_numbered names number place [] = tt
  lines_numbered names number place (line ∷ lines) = (refl, lines_numbered names (number + 1) (suc place) lines)

  -- of versions
  versions_numbered : (number : ℕ) (versions : List Version)
      → AreVersionsNumbered number (raw_versions functions number versions)
  versions_numbered number [] = tt
  versions_numbered number (version ∷ versions) = (
    refl,
    lines_numbered version.body.variables (number + 1) 0 version.body.lines,
    versions_numbered (number + version_height (raw_version functions number version)) versions,
  )

  -- of functions
  functions_numbered : (number : ℕ) (some : List Function)
      → AreFunctionsNumbered number (raw_functions functions number some)
  functions_numbered number [] = tt
  functions_numbered number (function ∷ others) = (
    refl,
    versions_numbered (number + 1) function.versions,
    functions_numbered (number + function_height (raw_function functions number function)) others,
  )

-- the law that a program with names in place of numbers is within the limits
pub programs_are_short : ProgramsAreShort
programs_are_short program is = record {
  functions = subst (λ n. n ≤ 256) (sym (length-raw_functions program.functions 1 program.functions)) is.few;
  each = functions_short program.functions 0 1 program.functions is.each;
  plan = omega arith;
  each_job = tt;
  inputs = omega arith;
  each_input = tt;
}

-- the law that it has the line numbers of the canonical text
pub programs_are_canonical : ProgramsAreCanonical
programs_are_canonical program = record {
  plan = refl;
  inputs = refl;
  numbered = functions_numbered program.functions 1 program.functions;
}
