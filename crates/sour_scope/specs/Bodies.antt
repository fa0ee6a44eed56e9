-- What the second stage makes of numbered functions, and the first fault of their scopes.
use Rattle.std.specs.Prelude.{◌≡◌, ℕ, List, Option, map}
use Rattle.std.specs.List.{AllByRecursion}
use Rattle.sour_syntax.specs.declared.program.Function.{Function}
use Rattle.sour_syntax.specs.declared.program.Version.{Version}
use Rattle.sour_syntax.specs.BodyView.{BodyView}
use Rattle.sour_syntax.specs.Labels.{labels_of}
use Rattle.sour_syntax.specs.Taking.{taken}
use Rattle.sour_checked.specs.Fault.{Fault, first_fault_of}
use Rattle.sour_checked.specs.FirstFault.{fault_in}
use Rattle.sour_syntax.specs.Body.{IsWellFormed}
use Rattle.sour_scope.specs.declared.numbered.NumberedVersion.{NumberedVersion}
use Rattle.sour_scope.specs.declared.numbered.NumberedFunction.{NumberedFunction}

-- the body of a numbered version
abbrev pub made_body : NumberedVersion → BodyView
made_body version = record {
  function = version.function;
  parameters = version.parameters;
  variables = version.variables;
  lines = version.lines;
}

-- it may be a body, but for its scopes
pub record IsReady (version : NumberedVersion) : Type 0 where
  pub form : IsWellFormed (made_body version)
  pub labels : version.labels ≡ labels_of version.lines

-- the same of each version of these functions
abbrev pub AreReady : List NumberedFunction → Type 0
AreReady functions = AllByRecursion (λ (function : NumberedFunction). AllByRecursion IsReady function.versions) functions

-- the version that is made of it, and the function
abbrev pub made_version : NumberedVersion → Version
made_version version = record { name = version.name; body = made_body version }

abbrev pub made_function : NumberedFunction → Function
made_function function = record { name = function.name; versions = map made_version function.versions }

-- the lines of the instructions of each version of a function
abbrev pub line_numbers_in : NumberedFunction → List (List ℕ)
line_numbers_in function = map (λ (version : NumberedVersion). version.line_numbers) function.versions

-- the first fault of the scopes of a version, and of functions
abbrev pub body_fault : NumberedVersion → Option Fault
body_fault version = fault_in version.line_numbers (taken (made_body version))

abbrev pub bodies_fault : List NumberedFunction → Option Fault
bodies_fault functions = first_fault_of (λ (function : NumberedFunction). first_fault_of body_fault function.versions) functions
