-- What it says of a text that the first stage finds nothing.
use Rattle.std.proofs.Common.{◌≡◌, ◌↔◌, ℕ, suc, false, List, [], ◌∷◌, ◌++◌, Option, None, Some, Contains, length, map, refl, sym, ap, ◌∙◌, subst}
use Rattle.std.specs.Prelude.{codes, option_map, slice_get}
use Rattle.std.specs.List.{AllByRecursion, flat_map}
use Rattle.std.proofs.lemmas.List.{length-map}
use Rattle.std.proofs.lemmas.Option.{slice_get-map, slice_get_within}
use Rattle.sour_syntax.specs.declared.instruction.Line.{Line}
use Rattle.sour_syntax.specs.Exits.{continuations_of}
use Rattle.sour_syntax.specs.Jumps.{named_labels}
use Rattle.sour_syntax.specs.Literals.{IsLiteral, literals_of}
use Rattle.sour_syntax.specs.Plan.{IsKnownJob}
use Rattle.sour_syntax.specs.Program.{NamesDiffer}
use Rattle.sour_syntax.specs.Targets.{IsNamed}
use Rattle.sour_raw.specs.declared.raw.RawLine.{RawLine}
use Rattle.sour_raw.specs.declared.raw.RawVersion.{RawVersion}
use Rattle.sour_raw.specs.declared.raw.RawFunction.{RawFunction}
use Rattle.sour_raw.specs.declared.raw.RawPlanJob.{RawPlanJob}
use Rattle.sour_raw.specs.declared.raw.RawInput.{RawInput}
use Rattle.sour_raw.specs.declared.raw.RawJob.{RawJob}
use Rattle.sour_raw.specs.Written.{IsWrittenLine, IsWrittenVersion, IsWrittenFunction, IsWrittenJob, IsWrittenInput, IsWritten}
use Rattle.sour_checked.specs.Outline.{outline, own_names}
use Rattle.sour_checked.specs.Numbered.{label_of, literal_of, instr_of, lines_of, plan_job_of, plan_of, inputs_of}
use Rattle.sour_checked.specs.Checked.{IsMain}
use Rattle.laws_scope.proofs.OutlineLaws.{own_names-outline}
use Rattle.laws_scope.proofs.NameLaws.{place_there}
use Rattle.sour_checked.specs.Texts.{TextVersion, text_version, text_versions, function_names, number_in, variables, labels, body}
use Rattle.sour_checked.specs.Parts.{instr_functions, instr_labels, leaves, job_functions, input_functions}
use Rattle.sour_checked.specs.Names.{Broken, labelled, repeated, repeated_on, unknown_each, leave_broken, line_broken, end_broken, version_broken, function_broken, names_broken, takes_some, main_is_broken}
use Rattle.laws_scope.specs.Right.{HasNames, HasDistinctNames, AreNamesRight}
use Rattle.laws_scope.specs.Laws.{NamesExactly, MainExactly}
use Rattle.laws_scope.proofs.Kit.{iff_then, iff_both, iff_three, iff_each, iff_given, iff_map, iff_append, none_both, none_three, none_each, none_if, differ_none, differ_on, AreAmong, known_each, number_found}
use Rattle.laws_scope.proofs.VersionRules.{its_label, its_line, labels_are, labels_rule, end_rule, jumps_rule}
use Rattle.laws_scope.proofs.LiteralRules.{of_instr, of_literals, of_job}
use Rattle.laws_scope.proofs.TargetRules.{numbered, leaves_rule}

-- the lines of a version are as they are written
abbrev IsWrittenText : TextVersion → Type 0
IsWrittenText text = AllByRecursion IsWrittenLine text.version.lines

-- ---- lines

module _ (functions : List RawFunction) where
  -- there are as many names as functions
  count : length (own_names (outline functions)) ≡ length functions
  count = ap length (own_names-outline functions) ∙ length-map functions (λ (function : RawFunction). function.name)

  -- the literals of a line are known
  abbrev OfLiterals : Line → Type 0
  OfLiterals line = AllByRecursion (IsLiteral (length functions)) (literals_of line.instr)

  -- its jumps go to these labels
  abbrev OfJumps : List (List ℕ) → Line → Type 0
  OfJumps labels line = AllByRecursion (Contains labels) (named_labels line.instr)

  -- what its continuations name is there
  abbrev OfExits : Line → Type 0
  OfExits line = AllByRecursion (IsNamed (numbered functions) []) (continuations_of line.instr)

  module _ (names : List (List ℕ)) (labels : List (List ℕ)) where
    -- a line as it is made
    abbrev made : ℕ → RawLine → Line
    made place line = record {
      label = label_of place line.label;
      instr = instr_of (outline functions) names line.instr;
    }

    -- the functions that a line names are there
    functions_rule : (line : RawLine) → IsWrittenLine line
        → (unknown_each line.line (function_names functions) (instr_functions line.instr) ≡ [])
        ↔ AllByRecursion (IsLiteral (length functions)) (literals_of (instr_of (outline functions) names line.instr))
    functions_rule line written =
        let P : List (List ℕ) → Type 0 =
        λ all. AreAmong all (instr_functions line.instr)
        ↔ AllByRecursion (IsLiteral (length functions))
        (literals_of (instr_of (outline functions) names line.instr)) in
        let law : P (own_names (outline functions)) =
        subst (λ n. AreAmong (own_names (outline functions)) (instr_functions line.instr)
        ↔ AllByRecursion (IsLiteral n) (literals_of (instr_of (outline functions) names line.instr)))
        count (of_instr functions names line.instr written.instr) in
        iff_then (known_each line.line (function_names functions) (instr_functions line.instr))
        (subst P (own_names-outline functions) law)

    -- no rule of a line is broken
    line_rule : (place : ℕ) (line : RawLine) → IsWrittenLine line
        → (line_broken functions labels line ≡ [])
        ↔ (OfLiterals (made place line) × OfJumps labels (made place line) × OfExits (made place line))
    line_rule place line written =
        let first = unknown_each line.line (function_names functions) (instr_functions line.instr) in
        let second = unknown_each line.line labels (instr_labels line.instr) in
        let third = flat_map (leave_broken functions line.line) (leaves line.instr) in
        iff_then (none_three first second third)
        (iff_three (functions_rule line written) (jumps_rule functions names line.line labels line.instr)
        (leaves_rule functions names line.line line.instr))

    -- no rule of any line
    lines_rule : (place : ℕ) (lines : List RawLine) → AllByRecursion IsWrittenLine lines
        → AllByRecursion (λ line. line_broken functions labels line ≡ []) lines
        ↔ (AllByRecursion OfLiterals (lines_of (outline functions) names place lines)
        × AllByRecursion (OfJumps labels) (lines_of (outline functions) names place lines)
        × AllByRecursion OfExits (lines_of (outline functions) names place lines))
    lines_rule place [] written = ((λ all. (tt, tt, tt)), λ all. tt)
    lines_rule place (line ∷ lines) written =
        let here = line_rule place line written.0 in
        let rest = lines_rule (suc place) lines written.1 in (
          (λ all.
              let one = here.0 all.0 in
              let others = rest.0 all.1 in ((one.0, others.0), (one.1, others.1), (one.2, others.2))),
          λ all. (here.1 (all.0.0, all.1.0, all.2.0), rest.1 (all.0.1, all.1.1, all.2.1)),
        )

  -- ---- versions

  -- no rule of a version is broken where its names are right
  version_rule : (text : TextVersion) → IsWrittenText text → (version_broken functions text ≡ [])
      ↔ HasNames functions text
  version_rule text written =
      let lines = text.version.lines in
      let first = repeated its_label its_line [] (labelled 0 lines) in
      let second = flat_map (line_broken functions (labels text)) lines in
      let third = end_broken text.version.line lines in
      let law = none_three first second third in
      let differ = labels_rule functions (variables text) 0 lines in
      let each = iff_then (none_each (line_broken functions (labels text)) lines)
      (lines_rule (variables text) (labels text) 0 lines written) in
      let end = end_rule functions (variables text) text.version.line 0 lines in
      let own = labels_are functions (variables text) 0 lines in
      let P : List (List ℕ) → Type 0 = λ all. AllByRecursion (OfJumps all) (body functions text).lines in (
        (λ is.
            let parts = law.0 is in
            let rules = each.0 parts.1 in
            record {
              labels = differ.0 parts.0;
              end = end.0 parts.2;
              jumps = subst P (sym own) rules.1;
              literals =
                  rules.0;
              exits = rules.2;
            }),
        λ right. law.1 (
          differ.1 right.labels,
          each.1 (right.literals, subst P own right.jumps, right.exits),
          end.1
              right.end,
        ),
      )

-- the versions of a function are as they are written
versions_written : (number : ℕ) (function : RawFunction) (versions : List RawVersion)
    → AllByRecursion IsWrittenVersion versions
    → AllByRecursion IsWrittenText (map (text_version number function) versions)
versions_written number function [] written = tt
versions_written number function (version ∷ versions) written =
    (written.0.lines, versions_written number function versions written.1)

-- and so are those of functions
texts_written : (number : ℕ) (functions : List RawFunction) → AllByRecursion IsWrittenFunction functions
    → AllByRecursion IsWrittenText (text_versions number functions)
texts_written number [] written = tt
texts_written number (function ∷ functions) written =
    (iff_append IsWrittenText (map (text_version number function) function.versions)
    (text_versions (suc number) functions)).1 (
      versions_written number function function.versions written.0.versions,
      texts_written (suc number) functions
          written.1,
    )

-- ---- the text

-- the names of a function differ
function_rule : (function : RawFunction) → (function_broken function ≡ []) ↔ HasDistinctNames function
function_rule function =
    let named : RawVersion → List ℕ = λ version. version.name in
    let line_of : RawVersion → ℕ = λ version. version.line in
    let law = iff_then (none_both (repeated_on function.line function.parameters)
    (repeated named line_of [] function.versions))
    (iff_both (differ_on function.line function.parameters) (differ_none named line_of function.versions)) in (
      (λ is. let both = law.0 is in record { parameters = both.0; versions = both.1 }),
      λ differ. law.1 (differ.parameters, differ.versions),
    )

module _ (raw : RawJob) (written : IsWritten raw) where
  -- the names of its functions
  abbrev all : List (List ℕ)
  all = function_names raw.functions

  -- how many there are
  all_count : length all ≡ length raw.functions
  all_count = length-map raw.functions (λ (function : RawFunction). function.name)

  -- the rules of a job of the plan
  abbrev job_broken : RawPlanJob → List Broken
  job_broken job = unknown_each job.line all (job_functions job)

  -- and of an input
  abbrev input_broken : RawInput → List Broken
  input_broken input = unknown_each input.line all (input_functions input)

  -- the functions that the plan names are there
  plan_rule : (flat_map job_broken raw.plan ≡ []) ↔ AllByRecursion (IsKnownJob (length raw.functions))
      (plan_of all raw.plan)
  plan_rule =
      let mapped = iff_map (IsKnownJob (length all)) (plan_job_of all) raw.plan in
      let law = iff_then (none_each job_broken raw.plan)
      (iff_then (iff_given IsWrittenJob (λ job. job_broken job ≡ [])
      (λ job. IsKnownJob (length all) (plan_job_of all job))
      (λ job is. iff_then (known_each job.line all (job_functions job)) (of_job all job is)) raw.plan written.plan)
      (mapped.1, mapped.0)) in
      subst (λ n. (flat_map job_broken raw.plan ≡ []) ↔ AllByRecursion (IsKnownJob n) (plan_of all raw.plan)) all_count
      law

  -- and so are those that the inputs name
  inputs_rule : (flat_map input_broken raw.inputs ≡ [])
      ↔ AllByRecursion (AllByRecursion (IsLiteral (length raw.functions))) (inputs_of all raw.inputs)
  inputs_rule =
      let mapped = iff_map (AllByRecursion (IsLiteral (length all)))
      (λ (input : RawInput). map (literal_of all) input.values) raw.inputs in
      let law = iff_then (none_each input_broken raw.inputs)
      (iff_then (iff_given IsWrittenInput (λ input. input_broken input ≡ [])
      (λ input. AllByRecursion (IsLiteral (length all)) (map (literal_of all) input.values))
      (λ input is. iff_then (known_each input.line all (input_functions input)) (of_literals all input.values is))
      raw.inputs written.inputs) (mapped.1, mapped.0)) in
      subst (λ n. (flat_map input_broken raw.inputs ≡ [])
      ↔ AllByRecursion (AllByRecursion (IsLiteral n)) (inputs_of all raw.inputs)) all_count law

  -- the name of a function, and its line
  abbrev its_name : RawFunction → List ℕ
  its_name function = function.name

  abbrev first_line : RawFunction → ℕ
  first_line function = function.line

  -- no rule of names is broken where names are right
  names_rule : (names_broken raw ≡ []) ↔ AreNamesRight raw
  names_rule =
      let first = repeated its_name first_line [] raw.functions in
      let second = flat_map function_broken raw.functions in
      let third = flat_map (version_broken raw.functions) (text_versions 0 raw.functions) in
      let fourth = flat_map job_broken raw.plan in
      let fifth = flat_map input_broken raw.inputs in
      let functions = iff_then (none_each function_broken raw.functions)
      (iff_each (λ function. function_broken function ≡ []) HasDistinctNames function_rule raw.functions) in
      let versions = iff_then (none_each (version_broken raw.functions) (text_versions 0 raw.functions))
      (iff_given IsWrittenText (λ text. version_broken raw.functions text ≡ []) (HasNames raw.functions)
      (version_rule raw.functions) (text_versions 0 raw.functions)
      (texts_written 0 raw.functions written.functions)) in
      let last = none_three (first ++ second ++ third) fourth fifth in
      let names = none_three first second third in
      let differ = differ_none its_name first_line raw.functions in (
        (λ is.
            let parts = last.0 is in
            let all = names.0 parts.0 in
            record {
              functions = differ.0 all.0;
              each = functions.0 all.1;
              versions = versions.0 all.2;
              plan =
                  plan_rule.0 parts.1;
              inputs = inputs_rule.0 parts.2;
            }),
        λ right. last.1 (
          names.1 (differ.1 right.functions, functions.1 right.each, versions.1 right.versions),
          plan_rule.1 right.plan,
          inputs_rule.1 right.inputs,
        ),
      )

-- no rule of names but that of main is broken exactly where they are right
pub names_exactly : NamesExactly
names_exactly raw written = names_rule raw written

-- ---- main

-- a function takes nothing where it has no parameters
takes_none : (parameters : List (List ℕ)) → (takes_some parameters ≡ false) ↔ (parameters ≡ [])
takes_none [] = ((λ is. refl), λ is. refl)
takes_none (name ∷ parameters) = ((λ is. absurd (cc)), λ is. absurd (cc))

module _ (functions : List RawFunction) where
  -- the number of main
  abbrev main_number : ℕ
  main_number = number_in (function_names functions) (codes "main")

  -- the name of a function
  abbrev name_of : RawFunction → List ℕ
  name_of function = function.name

  -- what is found by the name is main
  by_main : (found : Option RawFunction) → slice_get functions main_number ≡ found → main_is_broken found ≡ []
      → IsMain functions main_number
  by_main None is none = absurd (cc)
  by_main (Some function) is none =
      let there : slice_get (function_names functions) main_number ≡ Some function.name = slice_get-map name_of
      functions main_number ∙ ap (option_map name_of) is in
      let within = slice_get_within (function_names functions) main_number function.name there in
      let main = number_found (function_names functions) (codes "main") within in
      record {
        function = function;
        there = is;
        name = let both : Some function.name ≡ Some (codes "main") = sym there ∙ main in cc;
        parameters = (takes_none function.parameters).0
            ((none_if (takes_some function.parameters) 8 function.line).0 none);
      }

  -- where its rule isn't broken there is one
  pub main_there : main_is_broken (slice_get functions main_number) ≡ [] → IsMain functions main_number
  main_there none = by_main (slice_get functions main_number) refl none

  -- where no two functions have the same name, main is the first of its name
  pub main_is : (number : ℕ) → NamesDiffer (function_names functions) → IsMain functions number → number ≡ main_number
  main_is number differ main = place_there (function_names functions) (codes "main") number differ
      (slice_get-map name_of functions number ∙ ap (option_map name_of) main.there ∙ ap Some main.name)

  -- so its rule isn't broken
  main_found : (number : ℕ) → NamesDiffer (function_names functions) → IsMain functions number
      → main_is_broken (slice_get functions main_number) ≡ []
  main_found number differ main =
      let found : slice_get functions main_number ≡ Some main.function =
      ap (slice_get functions) (sym (main_is number differ main)) ∙ main.there in
      ap main_is_broken found ∙ (none_if (takes_some main.function.parameters) 8 main.function.line).1
      ((takes_none main.function.parameters).1 main.parameters)

-- the names of the functions differ where no rule of names is broken
functions_differ : (raw : RawJob) → names_broken raw ≡ [] → NamesDiffer (function_names raw.functions)
functions_differ raw none =
    let named : RawFunction → List ℕ = λ function. function.name in
    let line_of : RawFunction → ℕ = λ function. function.line in
    let first = repeated named line_of [] raw.functions in
    let second = flat_map function_broken raw.functions in
    let third = flat_map (version_broken raw.functions) (text_versions 0 raw.functions) in
    let parts = (none_three (first ++ second ++ third) _ _).0 none in
    (differ_none named line_of raw.functions).0 ((none_three first second third).0 parts.0).0

-- and then there is a function main without parameters exactly where its rule isn't broken
pub main_exactly : MainExactly
main_exactly raw none = (
  (λ is. (main_number raw.functions, main_there raw.functions is)),
  λ main. main_found raw.functions main.0 (functions_differ raw none) main.1,
)
