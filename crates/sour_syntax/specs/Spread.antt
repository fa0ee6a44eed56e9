-- How the code works out the scopes of a body, from place to place.
use Rattle.std.specs.Prelude.{◌≡◌, ℕ, suc, List, [], ◌∷◌, Option, None, Some, Result, Ok, Err, length, slice_get}
use Rattle.std.specs.List.{AllByRecursion}
use Rattle.std.specs.Option.{IfSome}
use Rattle.sour_syntax.specs.declared.body_fault.BodyFault.{BodyFault}
use Rattle.sour_syntax.specs.declared.jump.Jump.{Jump}
use Rattle.sour_syntax.specs.declared.literal.VarId.{VarId}
use Rattle.sour_syntax.specs.declared.instruction.Instr.{Instr}
use Rattle.sour_syntax.specs.declared.instruction.Instr.TheVariants.{Var, Drop, Assign, ArrayLength, ArrayList, Store, Print, Read, Branch, Goto, Call, Return, Stop, Assume}
use Rattle.sour_syntax.specs.BodyView.{BodyView}
use Rattle.sour_syntax.specs.Labels.{label_at}
use Rattle.sour_syntax.specs.Scopes.{Scope, members, HasScope}
use Rattle.sour_syntax.specs.Taking.{PlaceState, Unreached, Reached, Taken, come, place_scope, unless_fault}

-- the places that may follow an instruction, where this one is that of the next line
abbrev pub following : Instr → Jump → ℕ → List ℕ
following (Var x e) jump next = next ∷ []
following (Drop x) jump next = next ∷ []
following (Assign x e) jump next = next ∷ []
following (ArrayLength x e) jump next = next ∷ []
following (ArrayList x es) jump next = next ∷ []
following (Store x i e) jump next = next ∷ []
following (Print e) jump next = next ∷ []
following (Read x) jump next = next ∷ []
following (Branch e a b) jump next = jump.first ∷ jump.second ∷ []
following (Goto a) jump next = jump.first ∷ []
following (Call x callee es) jump next = next ∷ []
following (Return e) jump next = []
following Stop jump next = []
following (Assume es exit) jump next = next ∷ []

-- the places that have a scope and weren't taken, in ascending order, where the first of these is this one
abbrev pub waiting_places : ℕ → List PlaceState → List ℕ
waiting_places place [] = []
waiting_places place (Unreached ∷ places) = waiting_places (suc place) places
waiting_places place (Reached scope ∷ places) = place ∷ waiting_places (suc place) places
waiting_places place (Taken scope ∷ places) = waiting_places (suc place) places

-- a scope comes from the instruction at a place to each of these places in turn
abbrev pub come_places : List (List ℕ) → ℕ → Scope → List ℕ → List PlaceState → Result (List PlaceState) BodyFault
come_places names from scope [] places = Ok places
come_places names from scope (to ∷ others) places =
    unless_fault (come names from scope places to (place_scope (slice_get places to)))
    (come_places names from scope others)

-- the places, unless a fault was found
abbrev pub unless_found : Option BodyFault → List PlaceState → Result (List PlaceState) BodyFault
unless_found None places = Ok places
unless_found (Some fault) places = Err fault

-- some path leads to the line at this place, and gives it this scope
pub record HasPath (body : BodyView) (place : ℕ) (scope : Scope) : Type 0 where
  pub count : ℕ
  pub path : HasScope body count (label_at body.lines place) scope

-- the variables in a scope, if there is one
abbrev pub variables_in : Option Scope → Option (List VarId)
variables_in None = None
variables_in (Some scope) = Some (members 0 scope)

-- each scope of these places tells of so many variables
abbrev pub TellOf : ℕ → List PlaceState → Type 0
TellOf count places = AllByRecursion (λ place. IfSome (place_scope (Some place)) (λ scope. length scope ≡ count)) places
