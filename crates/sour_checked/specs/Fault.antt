-- A fault of the names and scopes of a text.
use Rattle.std.specs.Prelude.{ℕ, List, [], ◌∷◌, Option, None, Some}

-- a rule that is broken: its number, the line where it is, and two lists of names, which are empty but for scopes that
-- differ and maps that do
pub record Fault : Type 0 where
  pub kind : ℕ
  pub line : ℕ
  pub first : List (List ℕ)
  pub second : List (List ℕ)

-- a function, a version, a parameter, a label or a name of a map stands twice
abbrev pub twice : ℕ
twice = 1

-- a function, a version, a label or a variable isn't there
abbrev pub unknown : ℕ
unknown = 2

-- a variable must be in scope and isn't
abbrev pub not_in_scope : ℕ
not_in_scope = 3

-- a variable is declared that is in scope
abbrev pub in_scope : ℕ
in_scope = 4

-- a place has a scope, and another one comes to it
abbrev pub scopes_differ : ℕ
scopes_differ = 5

-- the names of a map aren't those that its target asks for
abbrev pub map_differs : ℕ
map_differs = 6

-- a version doesn't end in a terminator
abbrev pub falls_off : ℕ
falls_off = 7

-- there is no function main, or it has parameters
abbrev pub no_main : ℕ
no_main = 8

-- a fault without names
abbrev pub nameless : ℕ → ℕ → Fault
nameless kind line = record { kind = kind; line = line; first = []; second = [] }

-- the first of two faults, if there is one
abbrev pub or_else : Option Fault → Option Fault → Option Fault
or_else None later = later
or_else (Some fault) later = Some fault

-- the first fault that one of these has, if one has any
abbrev pub first_fault_of : {X : Type 0} → (X → Option Fault) → List X → Option Fault
first_fault_of fault [] = None
first_fault_of fault (x ∷ xs) = or_else (fault x) (first_fault_of fault xs)
