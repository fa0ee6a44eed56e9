-- The first continuation that doesn't fit its target, where names are numbers.
use Rattle.std.specs.Prelude.{◌≡◌, ℕ, List, [], Option, None, Some, length, slice_get}
use Rattle.std.specs.List.{enumerate_from, flat_map, zip}
use Rattle.std.specs.Option.{option_to_list}
use Rattle.sour_syntax.specs.declared.instruction.Instr.{Instr}
use Rattle.sour_syntax.specs.declared.instruction.Line.{Line}
use Rattle.sour_syntax.specs.declared.literal.VarId.{VarId}
use Rattle.sour_syntax.specs.declared.place_state.PlaceState.{PlaceState}
use Rattle.sour_syntax.specs.declared.program.Function.{Function}
use Rattle.sour_syntax.specs.declared.program.Version.{Version}
use Rattle.sour_syntax.specs.BodyView.{BodyView}
use Rattle.sour_syntax.specs.Exits.{Continuation, continuations_of, bound_names}
use Rattle.sour_syntax.specs.Scopes.{Scope, members}
use Rattle.sour_syntax.specs.Taking.{place_of, place_scope, taken}
use Rattle.sour_syntax.specs.Targets.{named_body, scope_of_names}
use Rattle.sour_checked.specs.Fault.{Fault, nameless, unknown, first_fault_of}
use Rattle.sour_checked.specs.Landing.{found_places, fit_fault}

-- the names of some variables
abbrev pub names_of : List (List ℕ) → List VarId → List (List ℕ)
names_of names variables = flat_map (λ (x : VarId). option_to_list (slice_get names x.0)) variables

-- what is found of the places of a body
abbrev pub places_of : BodyView → List PlaceState
places_of body = found_places (taken body)

-- the scope of a label of a body, if it has one
abbrev pub label_scope : BodyView → List ℕ → Option Scope
label_scope body label = place_scope (slice_get (places_of body) (place_of body label))

-- a place of a body has a scope, and these are the variables in it
pub record IsReached (body : BodyView) (found : Option Scope) (variables : List VarId) : Type 0 where
  pub scope : Scope
  pub is : found ≡ Some scope
  pub long : length scope ≡ length body.variables
  pub are : variables ≡ members 0 scope

-- the fault of a continuation on a line, where its target is in this body
abbrev pub target_fault : ℕ → Continuation → Option BodyView → Option Fault
target_fault line continuation None = Some (nameless unknown line)
target_fault line continuation (Some body) =
    fit_fault line body.variables continuation.waits (names_of body.variables (bound_names continuation.binds))
    (scope_of_names (length body.variables) (bound_names continuation.binds))
    (label_scope body continuation.target.label)

-- the fault of a continuation on a line, where its target is in one of these functions
abbrev pub continuation_fault : List Function → ℕ → Continuation → Option Fault
continuation_fault functions line continuation =
    target_fault line continuation (named_body functions [] continuation.target.code)

-- the first fault of the continuations of an instruction on a line, if it has a scope
abbrev pub instr_fault : List Function → ℕ → Instr → Option Scope → Option Fault
instr_fault functions line instr None = None
instr_fault functions line instr (Some scope) =
    first_fault_of (continuation_fault functions line) (continuations_of instr)

-- the same of an instruction with its place, where these are the places
abbrev pub line_fault : List Function → List PlaceState → ℕ × (Line × ℕ) → Option Fault
line_fault functions places (place, (line, number)) =
    instr_fault functions number line.instr (place_scope (slice_get places place))

-- the first fault of the exits of a version whose instructions stand on these lines
abbrev pub version_fault : List Function → Version × List ℕ → Option Fault
version_fault functions (version, line_numbers) =
    first_fault_of (line_fault functions (places_of version.body))
    (enumerate_from 0 (zip version.body.lines line_numbers))

-- the same of a function
abbrev pub function_fault : List Function → Function × List (List ℕ) → Option Fault
function_fault functions (function, line_numbers) =
    first_fault_of (version_fault functions) (zip function.versions line_numbers)

-- the first fault of the exits of functions, where each instruction stands on its line
abbrev pub functions_fault : List Function → List (List (List ℕ)) → Option Fault
functions_fault functions line_numbers = first_fault_of (function_fault functions) (zip functions line_numbers)
