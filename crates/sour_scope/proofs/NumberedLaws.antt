-- What the second stage makes of the numbered functions of a text is what the text says.
use Rattle.std.proofs.Common.{◌≡◌, ℕ, suc, List, [], ◌∷◌, map, refl, sym, ap, ◌∙◌}
use Rattle.std.specs.List.{AllByRecursion}
use Rattle.std.proofs.lemmas.Simd.{map-map}
use Rattle.sour_syntax.specs.declared.program.Function.{Function}
use Rattle.sour_syntax.specs.declared.program.Version.{Version}
use Rattle.sour_syntax.specs.Body.{IsWellFormed}
use Rattle.sour_raw.specs.declared.raw.RawVersion.{RawVersion}
use Rattle.sour_raw.specs.declared.raw.RawFunction.{RawFunction}
use Rattle.sour_checked.specs.Fault.{or_else, first_fault_of}
use Rattle.sour_checked.specs.FirstFault.{taking_fault}
use Rattle.sour_checked.specs.Numbered.{version_of, functions_of}
use Rattle.sour_checked.specs.Outline.{outline}
use Rattle.sour_checked.specs.Texts.{TextVersion, text_version, text_versions, variables, body}
use Rattle.laws_scope.proofs.Kit.{iff_append}
use Rattle.laws_scope.proofs.VersionRules.{labels_are}
use Rattle.sour_scope.specs.declared.numbered.NumberedVersion.{NumberedVersion}
use Rattle.sour_scope.specs.Bodies.{IsReady, AreReady, made_version, made_function, body_fault, bodies_fault}
use Rattle.sour_scope.specs.NumberedJob.{numbered_version, numbered_functions}
use Rattle.sour_scope.proofs.FaultLaws.{first_of_append, first_of_map}

module _ (functions : List RawFunction) where
  -- a version of the function that has this number
  abbrev numbered : ℕ → RawFunction → RawVersion → NumberedVersion
  numbered number function version = numbered_version functions (text_version number function version)

  -- the functions that are made are those of the text
  pub functions_made : (number : ℕ) (some : List RawFunction)
      → map made_function (numbered_functions functions number some) ≡ functions_of (outline functions) number some
  functions_made number [] = refl
  functions_made number (function ∷ some) =
      let made : List Version → Function = λ versions. record { name = function.name; versions = versions } in
      ap (λ versions. made versions ∷ map made_function (numbered_functions functions (suc number) some))
      (map-map made_version (numbered number function) function.versions)
      ∙ ap (λ others. made (map (version_of (outline functions) number function.parameters) function.versions) ∷ others)
      (functions_made (suc number) some)

  -- the first fault of their scopes is that of the text
  pub scopes_fault : (number : ℕ) (some : List RawFunction)
      → bodies_fault (numbered_functions functions number some)
      ≡ first_fault_of (taking_fault functions) (text_versions number some)
  scopes_fault number [] = refl
  scopes_fault number (function ∷ some) =
      ap (λ here. or_else here (bodies_fault (numbered_functions functions (suc number) some)))
      (first_of_map body_fault (numbered number function) function.versions
      ∙ sym (first_of_map (taking_fault functions) (text_version number function) function.versions))
      ∙ ap (or_else (first_fault_of (taking_fault functions) (map (text_version number function) function.versions)))
      (scopes_fault (suc number) some)
      ∙ sym (first_of_append (taking_fault functions) (map (text_version number function) function.versions)
      (text_versions (suc number) some))

  -- the body of a version is well formed
  abbrev IsFormed : TextVersion → Type 0
  IsFormed text = IsWellFormed (body functions text)

  -- so each version is ready
  versions_ready : (number : ℕ) (function : RawFunction) (versions : List RawVersion)
      → AllByRecursion IsFormed (map (text_version number function) versions)
      → AllByRecursion IsReady (map (numbered number function) versions)
  versions_ready number function [] formed = tt
  versions_ready number function (version ∷ versions) formed =
      let text = text_version number function version in (
        record {
          form = formed.0;
          labels = sym (labels_are functions (variables text) 0 version.lines);
        },
        versions_ready number function versions formed.1,
      )

  pub all_ready : (number : ℕ) (some : List RawFunction) → AllByRecursion IsFormed (text_versions number some)
      → AreReady (numbered_functions functions number some)
  all_ready number [] formed = tt
  all_ready number (function ∷ some) formed =
      let parts = (iff_append IsFormed (map (text_version number function) function.versions)
      (text_versions (suc number) some)).0 formed in
      (versions_ready number function function.versions parts.0, all_ready (suc number) some parts.1)
