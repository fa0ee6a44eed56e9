-- What holds of a text in which a stage finds nothing, in the words of the program that it is.
use Rattle.std.specs.Prelude.{◌≡◌, ℕ, List, [], None, length, codes}
use Rattle.std.specs.List.{AllByRecursion}
use Rattle.sour_syntax.specs.declared.instruction.Line.{Line}
use Rattle.sour_syntax.specs.Exits.{continuations_of}
use Rattle.sour_syntax.specs.Jumps.{NamesItsLabels}
use Rattle.sour_syntax.specs.Labels.{LabelsDiffer}
use Rattle.sour_syntax.specs.Literals.{IsLiteral}
use Rattle.sour_syntax.specs.Plan.{IsKnownJob}
use Rattle.sour_syntax.specs.Program.{ProgramView, NamesDiffer, HasLiterals}
use Rattle.sour_syntax.specs.Scopes.{HasScopes}
use Rattle.sour_syntax.specs.Targets.{IsNamed}
use Rattle.sour_syntax.specs.Terminator.{EndsInTerminator}
use Rattle.sour_raw.specs.declared.raw.RawFunction.{RawFunction}
use Rattle.sour_raw.specs.declared.raw.RawJob.{RawJob}
use Rattle.sour_checked.specs.Outline.{outline, function_number}
use Rattle.sour_checked.specs.Numbered.{functions_of, plan_of, inputs_of}
use Rattle.sour_checked.specs.Checked.{IsMain}
use Rattle.sour_checked.specs.FirstFault.{scope_fault, exit_fault}
use Rattle.sour_checked.specs.Names.{names_broken, main_broken}
use Rattle.sour_checked.specs.Texts.{TextVersion, text_versions, function_names, version_names, body}

-- the names of a version are right: its labels differ, it ends in a terminator, and all that it names is there
pub record HasNames (functions : List RawFunction) (text : TextVersion) : Type 0 where
  pub labels : LabelsDiffer (body functions text).lines
  pub end : EndsInTerminator (body functions text).lines
  pub jumps : NamesItsLabels (body functions text).lines
  pub literals : HasLiterals (length functions) (body functions text).lines
  pub exits : AllByRecursion (λ (line : Line). AllByRecursion
      (IsNamed (functions_of (outline functions) 0 functions) []) (continuations_of line.instr))
      (body functions text).lines

-- the names of the parameters of a function differ, and so do those of its versions
pub record HasDistinctNames (function : RawFunction) : Type 0 where
  pub parameters : NamesDiffer function.parameters
  pub versions : NamesDiffer (version_names function.versions)

-- the names of a text are right
pub record AreNamesRight (raw : RawJob) : Type 0 where
  pub functions : NamesDiffer (function_names raw.functions)
  pub each : AllByRecursion HasDistinctNames raw.functions
  pub versions : AllByRecursion (HasNames raw.functions) (text_versions 0 raw.functions)
  pub plan : AllByRecursion (IsKnownJob (length raw.functions)) (plan_of (function_names raw.functions) raw.plan)
  pub inputs : AllByRecursion (AllByRecursion (IsLiteral (length raw.functions)))
      (inputs_of (function_names raw.functions) raw.inputs)

-- there is a function main without parameters
abbrev pub HasMain : RawJob → Type 0
HasMain raw = (number : ℕ) × IsMain raw.functions number

-- each version of a text has scopes
abbrev pub HaveScopes : RawJob → Type 0
HaveScopes raw = AllByRecursion (λ text. HasScopes (body raw.functions text)) (text_versions 0 raw.functions)

-- no stage finds anything
pub record FindsNothing (raw : RawJob) : Type 0 where
  pub names : names_broken raw ≡ []
  pub main : main_broken raw ≡ []
  pub scopes : scope_fault raw ≡ None
  pub exits : exit_fault raw ≡ None

-- the program of a text with numbers in place of names: its main is the first function of that name
abbrev pub program_of : RawJob → ProgramView
program_of raw = record {
  functions = functions_of (outline raw.functions) 0 raw.functions;
  main = function_number (function_names raw.functions) (codes "main");
}
