-- The outline of a text and the lines of its functions, put together, are the functions of the text with numbers in
-- place of names, where the labels of each version differ.
use Rattle.std.proofs.Common.{◌≡◌, ◌≢◌, ◌+◌, ℕ, suc, List, [], ◌∷◌, length, map, refl, subst, arith}
use Rattle.std.specs.List.{AllByRecursion}
use Rattle.sour_syntax.specs.declared.instruction.Line.{Line}
use Rattle.sour_syntax.specs.Labels.{labels_of, LabelsDiffer}
use Rattle.sour_syntax.specs.Program.{NamesDiffer}
use Rattle.sour_raw.specs.declared.raw.RawVersion.{RawVersion}
use Rattle.sour_raw.specs.declared.raw.RawFunction.{RawFunction}
use Rattle.sour_raw.specs.Mentions.{with_names}
use Rattle.sour_checked.specs.Texts.{TextVersion, text_version, text_versions, variables, labels, body}
use Rattle.laws_scope.proofs.Kit.{iff_append, iff_map}
use Rattle.laws_scope.proofs.VariableNames.{with_names-all_new}
use Rattle.laws_scope.proofs.VersionRules.{labels_are}
use Rattle.sour_scope.specs.InText.{version_lines, function_lines}
use Rattle.sour_scope.specs.Joined.{joined_version, joined_versions, joined_functions}
use Rattle.sour_scope.specs.NumberedJob.{numbered_version, numbered_functions}
use Rattle.sour_scope.specs.Outlined.{outlined, outlined_version}

-- labels that differ are names that do
labels_differ : (lines : List Line) → LabelsDiffer lines → NamesDiffer (labels_of lines)
labels_differ [] differ = tt
labels_differ (line ∷ lines) differ = (
  (iff_map (λ label. label ≢ line.label) (λ (other : Line). other.label) lines).1 differ.0,
  labels_differ lines differ.1,
)

module _ (functions : List RawFunction) where
  -- the labels of a version differ
  abbrev HasOwnLabels : TextVersion → Type 0
  HasOwnLabels text = LabelsDiffer (body functions text).lines

  -- so its labels, each once, are its labels
  labels_once : (text : TextVersion) → HasOwnLabels text → with_names [] (labels text) ≡ labels text
  labels_once text differ =
      let are : labels_of (body functions text).lines ≡ labels text =
      labels_are functions (variables text) 0 text.version.lines in
      with_names-all_new [] (labels text) (subst NamesDiffer are (labels_differ (body functions text).lines differ))

  -- a version
  version_joined : (number : ℕ) (function : RawFunction) (version : RawVersion)
      → HasOwnLabels (text_version number function version)
      → joined_version number (length function.parameters)
      (outlined_version function.parameters version, version_lines functions function.parameters version)
      ≡ numbered_version functions (text_version number function version)
  version_joined number function version differ =
      rw (labels_once (text_version number function version) differ) refl

  -- the versions of a function
  versions_joined : (number : ℕ) (function : RawFunction) (versions : List RawVersion)
      → AllByRecursion HasOwnLabels (map (text_version number function) versions)
      → joined_versions number (length function.parameters) (map (outlined_version function.parameters) versions)
      (map (version_lines functions function.parameters) versions)
      ≡ map (λ version. numbered_version functions (text_version number function version)) versions
  versions_joined number function [] differ = refl
  versions_joined number function (version ∷ versions) differ =
      rw (version_joined number function version differ.0, versions_joined number function versions differ.1) refl

  -- and the functions
  pub functions_joined : (number : ℕ) (some : List RawFunction)
      → AllByRecursion HasOwnLabels (text_versions number some)
      → joined_functions number (outlined some) (map (function_lines functions) some)
      ≡ numbered_functions functions number some
  functions_joined number [] differ = refl
  functions_joined number (function ∷ some) differ =
      let parts = (iff_append HasOwnLabels (map (text_version number function) function.versions)
      (text_versions (suc number) some)).0 differ in
      let next : number + 1 ≡ suc number = omega arith in
      rw (next, versions_joined number function function.versions parts.0, functions_joined (suc number) some parts.1)
      refl
