-- The first fault of the names and scopes of a text: by stages, each of which comes only where the earlier ones find
-- nothing.
use Rattle.std.specs.Prelude.{◌≡◌, ◌⊎◌, ℕ, List, [], Option, None, Some, Result, Ok, Err, get_or}
use Rattle.sour_raw.specs.declared.raw.RawFunction.{RawFunction}
use Rattle.sour_raw.specs.declared.raw.RawJob.{RawJob}
use Rattle.sour_checked.specs.Fault.{Fault, nameless, not_in_scope, in_scope, scopes_differ, first_fault_of}
use Rattle.sour_checked.specs.Texts.{TextVersion, text_versions, body, line_numbers}
use Rattle.sour_checked.specs.Names.{Broken, IsFirstOf, names_broken, main_broken}
use Rattle.sour_syntax.specs.declared.body_fault.BodyFault.{BodyFault}
use Rattle.sour_syntax.specs.declared.body_fault.BodyFault.TheVariants.{NotInScope, InScope, ScopesDiffer}
use Rattle.sour_syntax.specs.declared.place_state.PlaceState.{PlaceState}
use Rattle.sour_syntax.specs.Taking.{taken}
use Rattle.sour_checked.specs.Landing.{landing_fault}

-- the fault of a text that the fault of a body is, whose lines stand on these lines of the text
abbrev pub fault_of : List ℕ → BodyFault → Fault
fault_of line_numbers (NotInScope place) = nameless not_in_scope (get_or line_numbers place 0)
fault_of line_numbers (InScope place) = nameless in_scope (get_or line_numbers place 0)
fault_of line_numbers (ScopesDiffer place had other) =
    record { kind = scopes_differ; line = get_or line_numbers place 0; first = had; second = other }

-- the same where there is one
abbrev pub fault_in : List ℕ → Result (List PlaceState) BodyFault → Option Fault
fault_in line_numbers (Ok places) = None
fault_in line_numbers (Err fault) = Some (fault_of line_numbers fault)

-- the first fault of the scopes of a version, if there is one
abbrev pub taking_fault : List RawFunction → TextVersion → Option Fault
taking_fault functions text = fault_in (line_numbers text) (taken (body functions text))

-- the first fault of the scopes of a text
abbrev pub scope_fault : RawJob → Option Fault
scope_fault raw = first_fault_of (taking_fault raw.functions) (text_versions 0 raw.functions)

-- the first fault of the continuations of a text
abbrev pub exit_fault : RawJob → Option Fault
exit_fault raw = first_fault_of (landing_fault raw.functions) (text_versions 0 raw.functions)

-- one of these that are broken comes first, and this is its fault
pub record IsBroken (all : List Broken) (fault : Fault) : Type 0 where
  pub broken : Broken
  pub first : IsFirstOf all broken
  pub is : fault ≡ nameless broken.kind broken.line

-- names are wrong
abbrev pub IsNamesFault : RawJob → Fault → Type 0
IsNamesFault raw fault = IsBroken (names_broken raw) fault

-- names are right, and main is wrong
abbrev pub IsMainFault : RawJob → Fault → Type 0
IsMainFault raw fault = (names_broken raw ≡ []) × IsBroken (main_broken raw) fault

-- the first stage finds nothing
abbrev pub HasRightNames : RawJob → Type 0
HasRightNames raw = (names_broken raw ≡ []) × (main_broken raw ≡ [])

-- names and main are right, and scopes are wrong
abbrev pub IsScopesFault : RawJob → Fault → Type 0
IsScopesFault raw fault = HasRightNames raw × (scope_fault raw ≡ Some fault)

-- names, main and scopes are right, and a continuation is wrong
abbrev pub IsExitsFault : RawJob → Fault → Type 0
IsExitsFault raw fault = HasRightNames raw × (scope_fault raw ≡ None) × (exit_fault raw ≡ Some fault)

-- the first fault of a text
abbrev pub IsFirstFault : RawJob → Fault → Type 0
IsFirstFault raw fault =
    IsNamesFault raw fault ⊎ (IsMainFault raw fault ⊎ (IsScopesFault raw fault ⊎ IsExitsFault raw fault))
