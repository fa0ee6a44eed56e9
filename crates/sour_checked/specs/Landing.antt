-- The first continuation that doesn't fit its target: what the third stage looks at.
use Rattle.std.specs.Prelude.{ℕ, Bool, true, false, ◌&&◌, List, [], ◌∷◌, Option, None, Some, Result, Ok, Err, map, slice_get, slice_set, if◌then◌else◌}
use Rattle.sour_syntax.specs.Scopes.{Scope}
use Rattle.sour_raw.specs.declared.raw.RawLine.{RawLine}
use Rattle.sour_raw.specs.declared.raw.RawFunction.{RawFunction}
use Rattle.sour_checked.specs.Fault.{Fault, nameless, unknown, map_differs, or_else, first_fault_of}
use Rattle.sour_checked.specs.Texts.{TextVersion, body, version_at, variables, labels, number_in}
use Rattle.sour_checked.specs.Parts.{Leave, leaves}
use Rattle.sour_checked.specs.Names.{is_among}
use Rattle.sour_syntax.specs.declared.body_fault.BodyFault.{BodyFault}
use Rattle.sour_syntax.specs.declared.place_state.PlaceState.{PlaceState}
use Rattle.sour_syntax.specs.Taking.{place_scope, taken, says, same_scope, scope_names}

-- the places that were found, none where there is a fault
abbrev pub found_places : Result (List PlaceState) BodyFault → List PlaceState
found_places (Ok places) = places
found_places (Err fault) = []

-- the places of a version with their scopes
abbrev pub places : List RawFunction → TextVersion → List PlaceState
places functions text = found_places (taken (body functions text))

-- the scope of a label of a version, if it has one
abbrev pub scope_at : List RawFunction → TextVersion → List ℕ → Option Scope
scope_at functions text label = place_scope (slice_get (places functions text) (number_in (labels text) label))

-- the number of the variable that waits for a result, if one does, where these are the variables of the target
abbrev pub waiting : List (List ℕ) → Option (List ℕ) → Option ℕ
waiting variables None = None
waiting variables (Some name) = Some (number_in variables name)

-- the scope that the map must have: that of the target without the variable that waits
abbrev pub scope_without : Option ℕ → Scope → Scope
scope_without None scope = scope
scope_without (Some variable) scope = slice_set scope variable false

-- whether the variable that waits is in the scope of the target
abbrev pub has_result : Option ℕ → Scope → Bool
has_result None scope = true
has_result (Some variable) scope = says true (slice_get scope variable)

-- the scope of these variables in which those of these names are
abbrev pub scope_of : List (List ℕ) → List (List ℕ) → Scope
scope_of variables names = map (is_among names) variables

-- whether a map of these variables fits the scope of its target
abbrev pub fits : Option ℕ → Scope → Scope → Bool
fits waits mapped scope = has_result waits scope && same_scope mapped (scope_without waits scope)

-- the fault of a continuation on a line, whose map is of these names, where its target has these variables and this scope
abbrev pub fit_fault : ℕ → List (List ℕ) → Option ℕ → List (List ℕ) → Scope → Option Scope → Option Fault
fit_fault line variables waits names mapped None = Some (nameless unknown line)
fit_fault line variables waits names mapped (Some scope) =
    if fits waits mapped scope then None
    else Some (record {
      kind = map_differs;
      line = line;
      first = scope_names variables (scope_without waits scope);
      second = names;
    })

-- the same, where it goes on in this version
abbrev pub target_fault : List RawFunction → ℕ → Leave → Option TextVersion → Option Fault
target_fault functions line leave None = Some (nameless unknown line)
target_fault functions line leave (Some text) =
    fit_fault line (variables text) (waiting (variables text) leave.waits) leave.names
    (scope_of (variables text) leave.names) (scope_at functions text leave.target.label)

-- the fault of a continuation on a line
abbrev pub leave_fault : List RawFunction → ℕ → Leave → Option Fault
leave_fault functions line leave = target_fault functions line leave (version_at functions leave.target)

-- the first fault of the continuations of a line that has a scope
abbrev pub reached_fault : List RawFunction → RawLine → Option Scope → Option Fault
reached_fault functions line None = None
reached_fault functions line (Some scope) = first_fault_of (leave_fault functions line.line) (leaves line.instr)

-- the first fault of these lines, which stand at these places
abbrev pub lines_fault : List RawFunction → List PlaceState → List RawLine → Option Fault
lines_fault functions [] lines = None
lines_fault functions (place ∷ places) [] = None
lines_fault functions (place ∷ places) (line ∷ lines) = or_else
    (reached_fault functions line (place_scope (Some place))) (lines_fault functions places lines)

-- the first fault of the continuations of a version
abbrev pub landing_fault : List RawFunction → TextVersion → Option Fault
landing_fault functions text = lines_fault functions (places functions text) text.version.lines
