-- The variables in scope as lists, for each place.
use Rattle.std.proofs.Common.{◌≡◌, ℕ, zero, suc, ◌+◌, ◌-◌, ◌<◌, ◌≤◌, Bool, true, false, List, [], ◌∷◌, ◌++◌, Option, None, Some, length, take, drop, drop-cons, get_or, slice_get, append_assoc, refl, sym, ap, ◌∙◌, add-one, arith}
use Rattle.std.proofs.lemmas.List.{append-nil, drop_all, length-append, length-replicate, length-set}
use Rattle.sour_syntax.specs.declared.instruction.Instr.{Instr}
use Rattle.sour_syntax.specs.declared.instruction.Instr.TheVariants.{Var, Drop, ArrayLength, ArrayList, Read, Call}
use Rattle.sour_syntax.specs.declared.literal.VarId.{VarId}
use Rattle.sour_syntax.specs.BodyView.{BodyView}
use Rattle.sour_syntax.specs.Taking.{scope_names}
use Rattle.sour_syntax.specs.Scopes.{Scope, members, scope_after, HasScope}

-- the variables found among so many, and those behind them
pub record FoundSoFar (scope : Scope) (number : ℕ) (found : List VarId) : Type 0 where
  pub are : found ++ members number (drop number scope) ≡ members 0 scope

-- the variables found so far and those from the next one on are all that are in scope
with_next : (scope rest : Scope) (number : ℕ) (found : List VarId) (is_in : Bool) → drop number scope ≡ is_in ∷ rest
    → FoundSoFar scope number found → found ++ members number (is_in ∷ rest) ≡ members 0 scope
with_next scope rest number found is_in at so_far = ap (λ (behind : Scope). found ++ members number behind) (sym at)
    ∙ so_far.are

-- whether the next variable is in scope
pub next_is : (scope : Scope) (number : ℕ) (value : Bool) → number < length scope → get_or scope number false ≡ value
    → drop number scope ≡ value ∷ drop (suc number) scope
next_is scope number value within is = drop-cons scope number false within
    ∙ ap (λ (first : Bool). first ∷ drop (suc number) scope) is

-- a variable in scope is found
pub found_more : (scope : Scope) (number : ℕ) (found : List VarId) → number < length scope
    → drop number scope ≡ true ∷ drop (suc number) scope → FoundSoFar scope number found
    → FoundSoFar scope (number + 1) (found ++ record { 0 = number } ∷ [])
found_more scope number found within at so_far = record {
  are = rw add-one (append_assoc found (record { 0 = number } ∷ []) (members (suc number) (drop (suc number) scope))
      ∙ with_next scope (drop (suc number) scope) number found true at so_far);
}

-- one that isn't is passed over
pub found_same : (scope : Scope) (number : ℕ) (found : List VarId) → number < length scope
    → drop number scope ≡ false ∷ drop (suc number) scope → FoundSoFar scope number found
    → FoundSoFar scope (number + 1) found
found_same scope number found within at so_far = record {
  are = rw add-one (with_next scope (drop (suc number) scope) number found false at so_far);
}

-- all are found
pub found_all : (scope : Scope) (number : ℕ) (found : List VarId) → length scope ≤ number
    → FoundSoFar scope number found → found ≡ members 0 scope
found_all scope number found past so_far =
    sym (append-nil found) ∙ ap (λ (behind : Scope). found ++ members number behind) (sym (drop_all number scope past))
    ∙ so_far.are

-- the name of a variable, where it has one and is in scope
abbrev pub name_if : Bool → Option (List ℕ) → List (List ℕ)
name_if is_in None = []
name_if true (Some name) = name ∷ []
name_if false (Some name) = []

pub name_if-false : (name : Option (List ℕ)) → name_if false name ≡ []
name_if-false None = refl
name_if-false (Some name) = refl

-- none are in no scope
pub scope_names-nil : (names : List (List ℕ)) → scope_names names [] ≡ []
scope_names-nil [] = refl
scope_names-nil (name ∷ names) = refl

-- the names in a scope up to a number, and that of the next
scope_names_next : (names : List (List ℕ)) (scope : Scope) (count : ℕ) → count < length scope
    → scope_names names (take (suc count) scope) ≡ scope_names names (take count scope) ++ name_if
    (get_or scope count false) (slice_get names count)
scope_names_next [] scope count within = refl
scope_names_next (name ∷ names) [] count within = absurd (omega arith)
scope_names_next (name ∷ names) (true ∷ scope) zero within = ap (λ others. name ∷ others) (scope_names-nil names)
scope_names_next (name ∷ names) (false ∷ scope) zero within = scope_names-nil names
scope_names_next (name ∷ names) (true ∷ scope) (suc count) within = ap (λ others. name ∷ others)
    (scope_names_next names scope count (omega arith))
scope_names_next (name ∷ names) (false ∷ scope) (suc count) within = scope_names_next names scope count (omega arith)

pub scope_names_more : (names : List (List ℕ)) (scope : Scope) (count : ℕ) (is_in : Bool) (name : Option (List ℕ))
    → count < length scope → get_or scope count false ≡ is_in
    → slice_get names count ≡ name → scope_names names (take (count + 1) scope) ≡ scope_names names
    (take count scope) ++ name_if is_in name
scope_names_more names scope count is_in name within said found =
    rw add-one (scope_names_next names scope count within)
    ∙ ap (λ said. scope_names names (take count scope) ++ name_if said (slice_get names count)) said
    ∙ ap (λ found. scope_names names (take count scope) ++ name_if is_in found) found

-- the scope behind an instruction tells of as many variables as the one before it
length_after : (instr : Instr) (scope : Scope) → length (scope_after instr scope) ≡ length scope
length_after (Var x e) scope = length-set scope x.0 true
length_after (Drop x) scope = length-set scope x.0 false
length_after (ArrayLength x e) scope = length-set scope x.0 true
length_after (ArrayList x es) scope = length-set scope x.0 true
length_after (Read x) scope = length-set scope x.0 true
length_after (Call x callee es) scope = length-set scope x.0 true
length_after instr scope = refl

-- a scope says of each variable whether it is in it
pub length-HasScope : (body : BodyView) → body.parameters ≤ length body.variables
    → (count : ℕ) (label : List ℕ) (scope : Scope) → HasScope body count label scope
    → length scope ≡ length body.variables
length-HasScope body few zero label scope (at, is) =
    let start : length scope ≡ body.parameters + (length body.variables - body.parameters) =
    ap length is ∙ simp (length-append, length-replicate) in
    omega (arith, few, start)
length-HasScope body few (suc count) label scope (from, before, line, rest, path, stands, follows, is) =
    ap length is ∙ length_after line.instr before ∙ length-HasScope body few count from before path
