-- How scopes come to the places of a body, and the first fault in that: again and again the smallest place that has a
-- scope and wasn't taken is taken.
use Rattle.std.specs.Prelude.{◌≡◌, ◌+◌, ℕ, zero, suc, Bool, true, false, not, ◌&&◌, List, [], ◌∷◌, Option, None, Some, Result, Ok, Err, map, slice_get, slice_set, length, if◌then◌else◌}
use Rattle.std.specs.List.{list_all, position_or_len}
use Rattle.std.specs.Str.{bytes_eq}
use Rattle.sour_syntax.specs.declared.body_fault.BodyFault.{BodyFault}
use Rattle.sour_syntax.specs.declared.body_fault.BodyFault.TheVariants.{NotInScope, InScope, ScopesDiffer}
pub use Rattle.sour_syntax.specs.declared.place_state.PlaceState.{PlaceState}
pub use Rattle.sour_syntax.specs.declared.place_state.PlaceState.TheVariants.{Unreached, Reached, Taken}
use Rattle.sour_syntax.specs.declared.literal.VarId.{VarId}
use Rattle.sour_syntax.specs.declared.instruction.Instr.{Instr}
use Rattle.sour_syntax.specs.declared.instruction.Line.{Line}
use Rattle.sour_syntax.specs.BodyView.{BodyView}
use Rattle.sour_syntax.specs.Labels.{labels_of, label_at}
use Rattle.sour_syntax.specs.Scopes.{Scope, needed, declared_by, scope_after, following_labels, first_scope}

-- at first the first place alone has a scope
abbrev pub first_places : Scope → List Line → List PlaceState
first_places scope [] = []
first_places scope (line ∷ lines) = Reached scope ∷ map (λ (other : Line). Unreached) lines

-- whether a scope says this of a variable
abbrev pub says : Bool → Option Bool → Bool
says wanted None = false
says wanted (Some said) = if wanted then said else not said

-- whether all of these variables are in a scope
abbrev pub all_in : Scope → List VarId → Bool
all_in scope variables = list_all (λ (x : VarId). says true (slice_get scope x.0)) variables

-- whether none of these variables is in a scope
abbrev pub none_in : Scope → List VarId → Bool
none_in scope variables = list_all (λ (x : VarId). says false (slice_get scope x.0)) variables

-- whether two scopes are the same
abbrev pub same_scope : Scope → Scope → Bool
same_scope [] [] = true
same_scope [] (said ∷ other) = false
same_scope (wanted ∷ scope) [] = false
same_scope (wanted ∷ scope) (said ∷ other) = says wanted (Some said) && same_scope scope other

-- the names of the variables in a scope
abbrev pub scope_names : List (List ℕ) → Scope → List (List ℕ)
scope_names [] scope = []
scope_names (name ∷ names) [] = []
scope_names (name ∷ names) (true ∷ scope) = name ∷ scope_names names scope
scope_names (name ∷ names) (false ∷ scope) = scope_names names scope

-- the scope of a place, if there is such a place and it has one
abbrev pub place_scope : Option PlaceState → Option Scope
place_scope None = None
place_scope (Some Unreached) = None
place_scope (Some (Reached scope)) = Some scope
place_scope (Some (Taken scope)) = Some scope

-- the place of a label
abbrev pub place_of : BodyView → List ℕ → ℕ
place_of body label = position_or_len (bytes_eq label) (labels_of body.lines)

-- a scope comes from the instruction at a place to one that has this scope: that gets it where it has none, and else
-- has the same
abbrev pub come : List (List ℕ) → ℕ → Scope → List PlaceState → ℕ → Option Scope → Result (List PlaceState) BodyFault
come names from scope places to None = Ok (slice_set places to (Reached scope))
come names from scope places to (Some other) =
    if same_scope other scope then Ok places
    else Err (ScopesDiffer from (scope_names names other) (scope_names names scope))

-- what follows, unless there was a fault
abbrev pub unless_fault : {A B : Type 0} → Result A BodyFault → (A → Result B BodyFault) → Result B BodyFault
unless_fault (Ok a) next = next a
unless_fault (Err fault) next = Err fault

-- a scope comes from the instruction at a place to each of these labels in turn
abbrev pub come_each : BodyView → ℕ → Scope → List (List ℕ) → List PlaceState → Result (List PlaceState) BodyFault
come_each body from scope [] places = Ok places
come_each body from scope (label ∷ labels) places =
    unless_fault
    (come body.variables from scope places (place_of body label) (place_scope (slice_get places (place_of body label))))
    (come_each body from scope labels)

-- the instruction at a place, which has this scope, is taken, where these labels may follow it
abbrev pub take_instr : BodyView → ℕ → Instr → Scope → List (List ℕ) → List PlaceState
    → Result (List PlaceState) BodyFault
take_instr body place instr scope following places =
    if not (all_in scope (needed instr)) then Err (NotInScope place)
    else (if not (none_in scope (declared_by instr)) then Err (InScope place)
    else come_each body place (scope_after instr scope) following places)

-- the place is taken, where this line of the body stands there
abbrev pub take_line : BodyView → ℕ → Scope → List PlaceState → Option Line → Result (List PlaceState) BodyFault
take_line body place scope places None = Ok places
take_line body place scope places (Some line) =
    take_instr body place line.instr scope (following_labels line.instr (label_at body.lines (place + 1)))
    (slice_set places place (Taken scope))

-- the smallest place that has a scope and wasn't taken, with its scope, where the first of these is this one
abbrev pub smallest : ℕ → List PlaceState → Option (ℕ × Scope)
smallest place [] = None
smallest place (Unreached ∷ places) = smallest (suc place) places
smallest place (Reached scope ∷ places) = Some (place, scope)
smallest place (Taken scope ∷ places) = smallest (suc place) places

-- the smallest is taken, and then others, unless there is none
abbrev pub take_and : BodyView → List PlaceState → (List PlaceState → Result (List PlaceState) BodyFault)
    → Option (ℕ × Scope) → Result (List PlaceState) BodyFault
take_and body places others None = Ok places
take_and body places others (Some (place, scope)) =
    unless_fault (take_line body place scope places (slice_get body.lines place)) others

-- again and again the smallest place that has a scope and wasn't taken is taken, up to so many of them
abbrev pub take_all : BodyView → ℕ → List PlaceState → Result (List PlaceState) BodyFault
take_all body zero places = Ok places
take_all body (suc more) places = take_and body places (take_all body more) (smallest 0 places)

-- the places of a body once each that can be taken was, or the first fault
abbrev pub taken : BodyView → Result (List PlaceState) BodyFault
taken body = take_all body (length body.lines) (first_places (first_scope body) body.lines)

-- the scopes of the lines have no fault
abbrev pub HasNoBodyFault : BodyView → Type 0
HasNoBodyFault body = (places : List PlaceState) × (taken body ≡ Ok places)

-- the scopes of the lines have a first fault, and it is this one
abbrev pub IsFirstBodyFault : BodyView → BodyFault → Type 0
IsFirstBodyFault body fault = taken body ≡ Err fault
