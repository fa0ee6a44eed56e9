-- Lists of places: what is set, what is left to take, and which comes next.
use Rattle.std.proofs.Common.{◌≡◌, ◌+◌, ◌<◌, ◌≤◌, ◌==◌, ℕ, zero, suc, true, false, List, [], ◌∷◌, Option, None, Some, length, map, nat_lt, replicate, refl, ap, ◌∙◌, subst, arith}
use Rattle.std.specs.Prelude.{slice_get, slice_set}
use Rattle.std.specs.BTreeSet.{insert_key}
use Rattle.std.specs.Ordering.{nat_cmp}
use Rattle.std.proofs.lemmas.Bool.Decides.{nat_tests}
use Rattle.std.proofs.lemmas.List.{length-map}
use Rattle.sour_syntax.specs.declared.instruction.Line.{Line}
use Rattle.sour_syntax.specs.Scopes.{Scope}
use Rattle.sour_syntax.specs.Spread.{waiting_places}
use Rattle.sour_syntax.specs.Taking.{PlaceState, Unreached, Reached, Taken, first_places, place_scope, smallest}

-- what holds of the element that is set, and of the others as they were, holds of each
pub set_cases : {X : Type 0} (P : ℕ → Option X → Type 0) (xs : List X) (place : ℕ) (x : X) → place < length xs
    → P place (Some x) → ((other : ℕ) → P other (slice_get xs other))
    → (other : ℕ) → P other (slice_get (slice_set xs place x) other)
set_cases P [] place x within here others other = absurd (omega arith)
set_cases P (first ∷ xs) zero x within here others zero = here
set_cases P (first ∷ xs) zero x within here others (suc other) = others (suc other)
set_cases P (first ∷ xs) (suc place) x within here others zero = others zero
set_cases {X} P (first ∷ xs) (suc place) x within here others (suc other) =
    let Q : ℕ → Option X → Type 0 = λ n found. P (suc n) found in
    set_cases Q xs place x (omega arith) here (λ n. others (suc n)) other

-- the element that is set
pub set_here : {X : Type 0} (xs : List X) (place : ℕ) (x : X) → place < length xs
    → slice_get (slice_set xs place x) place ≡ Some x
set_here [] place x within = absurd (omega arith)
set_here (first ∷ xs) zero x within = refl
set_here (first ∷ xs) (suc place) x within = set_here xs place x (omega arith)

-- at first the first of places without a scope gets one
unreached_each : (lines : List Line) → replicate (length lines) Unreached ≡ map (λ (other : Line). Unreached) lines
unreached_each [] = refl
unreached_each (line ∷ lines) = ap (λ (places : List PlaceState). Unreached ∷ places) (unreached_each lines)

pub first_reached : (scope : Scope) (lines : List Line)
    → slice_set (replicate (length lines) Unreached) 0 (Reached scope) ≡ first_places scope lines
first_reached scope [] = refl
first_reached scope (line ∷ lines) = ap (λ (places : List PlaceState). Reached scope ∷ places) (unreached_each lines)

-- how many places weren't taken
abbrev pub left : List PlaceState → ℕ
left [] = 0
left (Unreached ∷ places) = suc (left places)
left (Reached scope ∷ places) = suc (left places)
left (Taken scope ∷ places) = left places

-- one that is taken is one less
pub left_taken : (places : List PlaceState) (place : ℕ) (scope : Scope) → slice_get places place ≡ Some (Reached scope)
    → suc (left (slice_set places place (Taken scope))) ≡ left places
left_taken [] place scope at = absurd (cc)
left_taken (Unreached ∷ places) zero scope at = absurd (cc)
left_taken (Reached other ∷ places) zero scope at = refl
left_taken (Taken other ∷ places) zero scope at = absurd (cc)
left_taken (Unreached ∷ places) (suc place) scope at = ap suc (left_taken places place scope at)
left_taken (Reached other ∷ places) (suc place) scope at = ap suc (left_taken places place scope at)
left_taken (Taken other ∷ places) (suc place) scope at = left_taken places place scope at

-- one to which a scope comes isn't
pub left_reached : (places : List PlaceState) (place : ℕ) (scope : Scope) → slice_get places place ≡ Some Unreached
    → left (slice_set places place (Reached scope)) ≡ left places
left_reached [] place scope at = absurd (cc)
left_reached (Unreached ∷ places) zero scope at = refl
left_reached (Reached other ∷ places) zero scope at = absurd (cc)
left_reached (Taken other ∷ places) zero scope at = absurd (cc)
left_reached (Unreached ∷ places) (suc place) scope at = ap suc (left_reached places place scope at)
left_reached (Reached other ∷ places) (suc place) scope at = ap suc (left_reached places place scope at)
left_reached (Taken other ∷ places) (suc place) scope at = left_reached places place scope at

-- where none is left none waits
pub none_left : (places : List PlaceState) (place : ℕ) (scope : Scope) → left places ≤ 0
    → slice_get places place ≡ Some (Reached scope) → ⊥
none_left [] place scope none at = absurd (cc)
none_left (Unreached ∷ places) place scope none at = absurd (omega arith)
none_left (Reached other ∷ places) place scope none at = absurd (omega arith)
none_left (Taken other ∷ places) zero scope none at = absurd (cc)
none_left (Taken other ∷ places) (suc place) scope none at = none_left places place scope none at

-- at first none was taken
unreached_left : (lines : List Line) → left (map (λ (other : Line). Unreached) lines) ≡ length lines
unreached_left [] = refl
unreached_left (line ∷ lines) = ap suc (unreached_left lines)

pub first_left : (scope : Scope) (lines : List Line) → left (first_places scope lines) ≡ length lines
first_left scope [] = refl
first_left scope (line ∷ lines) = ap suc (unreached_left lines)

-- the smallest is one that waits
smallest_from : (number : ℕ) (places : List PlaceState) (place : ℕ) (scope : Scope)
    → smallest number places ≡ Some (place, scope)
    → (index : ℕ) × (place ≡ number + index) × (slice_get places index ≡ Some (Reached scope))
smallest_from number [] place scope is = absurd (cc)
smallest_from number (Unreached ∷ places) place scope is =
    let later = smallest_from (suc number) places place scope is in
    let at = later.1 in (suc later.0, omega arith, later.2)
smallest_from number (Reached other ∷ places) place scope is =
    let pair : (number, other) ≡ (place, scope) = cc in
    let at : number ≡ place = ap (λ (p : ℕ × Scope). p.0) pair in
    let same : other ≡ scope = ap (λ (p : ℕ × Scope). p.1) pair in
    (0, omega arith, ap (λ s. Some (Reached s)) same)
smallest_from number (Taken other ∷ places) place scope is =
    let later = smallest_from (suc number) places place scope is in
    let at = later.1 in (suc later.0, omega arith, later.2)

pub smallest_waits : (places : List PlaceState) (place : ℕ) (scope : Scope) → smallest 0 places ≡ Some (place, scope)
    → slice_get places place ≡ Some (Reached scope)
smallest_waits places place scope is =
    let found = smallest_from 0 places place scope is in
    let index : found.0 ≡ place = let at = found.1 in omega arith in
    subst (λ n. slice_get places n ≡ Some (Reached scope)) index found.2

-- where there is none, none waits
pub none_waits : (number : ℕ) (places : List PlaceState) (place : ℕ) (scope : Scope) → smallest number places ≡ None
    → slice_get places place ≡ Some (Reached scope) → ⊥
none_waits number [] place scope none at = absurd (cc)
none_waits number (Unreached ∷ places) zero scope none at = absurd (cc)
none_waits number (Unreached ∷ places) (suc place) scope none at = none_waits (suc number) places place scope none at
none_waits number (Reached other ∷ places) place scope none at = absurd (cc)
none_waits number (Taken other ∷ places) zero scope none at = absurd (cc)
none_waits number (Taken other ∷ places) (suc place) scope none at = none_waits (suc number) places place scope none at

-- a place without a scope
pub unreached_there : (places : List PlaceState) (place : ℕ) → place < length places
    → None ≡ place_scope (slice_get places place) → slice_get places place ≡ Some Unreached
unreached_there [] place within none = absurd (omega arith)
unreached_there (Unreached ∷ places) zero within none = refl
unreached_there (Reached scope ∷ places) zero within none = absurd (cc)
unreached_there (Taken scope ∷ places) zero within none = absurd (cc)
unreached_there (first ∷ places) (suc place) within none = unreached_there places place (omega arith) none

-- a place with a scope that doesn't wait was taken
pub taken_there : (found : Option PlaceState) (scope : Scope) → place_scope found ≡ Some scope
    → (found ≡ Some (Reached scope) → ⊥) → found ≡ Some (Taken scope)
taken_there None scope is not_waiting = absurd (cc)
taken_there (Some Unreached) scope is not_waiting = absurd (cc)
taken_there (Some (Reached other)) scope is not_waiting = absurd
    (not_waiting (let same : other ≡ scope = cc in ap (λ s. Some (Reached s)) same))
taken_there (Some (Taken other)) scope is not_waiting = let same : other ≡ scope = cc in ap (λ s. Some (Taken s)) same

-- the line at a place
pub line_within : (lines : List Line) (place : ℕ) → place < length lines → (line : Line)
    × (slice_get lines place ≡ Some line)
line_within [] place within = absurd (omega arith)
line_within (line ∷ lines) zero within = (line, refl)
line_within (line ∷ lines) (suc place) within = line_within lines place (omega arith)

-- there are as many places as lines
pub first_long : (scope : Scope) (lines : List Line) → length (first_places scope lines) ≡ length lines
first_long scope [] = refl
first_long scope (line ∷ lines) = ap suc (length-map lines (λ (other : Line). Unreached))

-- ---- those that wait

-- this is the first that waits, where the first of all has a number, and these are the others
record IsFirstFrom (number : ℕ) (places : List PlaceState) (place : ℕ) (others : List ℕ) : Type 0 where
  index : ℕ
  at : place ≡ number + index
  scope : Scope
  waits : slice_get places index ≡ Some (Reached scope)
  least : smallest number places ≡ Some (place, scope)
  rest : waiting_places number (slice_set places index (Taken scope)) ≡ others

-- one that doesn't wait comes before
first_later : (number : ℕ) (first : PlaceState) (places : List PlaceState) (place : ℕ) (others : List ℕ)
    → ((some : List PlaceState) → smallest number (first ∷ some) ≡ smallest (suc number) some)
    → ((some : List PlaceState) → waiting_places number (first ∷ some) ≡ waiting_places (suc number) some)
    → IsFirstFrom (suc number) places place others → IsFirstFrom number (first ∷ places) place others
first_later number first places place others passes waits next = record {
  index = suc next.index;
  at = let at = next.at in omega arith;
  scope = next.scope;
  waits = next.waits;
  least = passes places ∙ next.least;
  rest = waits (slice_set places next.index (Taken next.scope)) ∙ next.rest;
}

first_from : (number : ℕ) (places : List PlaceState) (place : ℕ) (others : List ℕ)
    → waiting_places number places ≡ place ∷ others → IsFirstFrom number places place others
first_from number [] place others is = absurd (cc)
first_from number (Unreached ∷ places) place others is =
    first_later number Unreached places place others (λ some. refl) (λ some. refl)
    (first_from (suc number) places place others is)
first_from number (Reached scope ∷ places) place others is =
    let at : number ≡ place = cc in record {
      index = 0;
      at = omega arith;
      scope = scope;
      waits = refl;
      least = ap (λ n. Some (n, scope)) at;
      rest = cc;
    }
first_from number (Taken scope ∷ places) place others is =
    first_later number (Taken scope) places place others (λ some. refl) (λ some. refl)
    (first_from (suc number) places place others is)

-- this is the first that waits, and these are the others
pub record IsFirst (places : List PlaceState) (place : ℕ) (others : List ℕ) : Type 0 where
  pub scope : Scope
  pub waits : slice_get places place ≡ Some (Reached scope)
  pub least : smallest 0 places ≡ Some (place, scope)
  pub rest : waiting_places 0 (slice_set places place (Taken scope)) ≡ others

-- the first of those that wait is the smallest, and once it is taken the others wait
pub waiting_first : (places : List PlaceState) (place : ℕ) (others : List ℕ)
    → waiting_places 0 places ≡ place ∷ others → IsFirst places place others
waiting_first places place others is =
    let first = first_from 0 places place others is in
    let here : first.index ≡ place = let at = first.at in omega arith in record {
      scope = first.scope;
      waits = subst (λ n. slice_get places n ≡ Some (Reached first.scope)) here first.waits;
      least = first.least;
      rest = subst (λ n. waiting_places 0 (slice_set places n (Taken first.scope)) ≡ others) here first.rest;
    }

-- where none waits there is no smallest
pub waiting_none : (number : ℕ) (places : List PlaceState) → waiting_places number places ≡ []
    → smallest number places ≡ None
waiting_none number [] is = refl
waiting_none number (Unreached ∷ places) is = waiting_none (suc number) places is
waiting_none number (Reached scope ∷ places) is = absurd (cc)
waiting_none number (Taken scope ∷ places) is = waiting_none (suc number) places is

-- those that wait are at or behind the first place
waiting_behind : (number low : ℕ) (places : List PlaceState) (place : ℕ) (others : List ℕ) → low ≤ number
    → waiting_places number places ≡ place ∷ others → low ≤ place
waiting_behind number low places place others behind is =
    let first = first_from number places place others is in
    let at = first.at in omega arith

-- a number goes in front of greater ones
insert_first : (number : ℕ) (keys : List ℕ) → ((key : ℕ) (others : List ℕ) → keys ≡ key ∷ others → suc number ≤ key)
    → number ∷ keys ≡ insert_key nat_cmp keys number
insert_first number [] behind = refl
insert_first number (key ∷ keys) behind =
    let below = behind key keys refl in
    let test : nat_lt number key ≡ true = grind (arith, nat_tests) in
    simp test

-- and behind a smaller one
insert_later : (number key : ℕ) (keys : List ℕ) → number < key
    → number ∷ insert_key nat_cmp keys key ≡ insert_key nat_cmp (number ∷ keys) key
insert_later number key keys below =
    let less : nat_lt key number ≡ false = grind (arith, nat_tests) in
    let same : (key == number) ≡ false = grind (arith, nat_tests) in
    simp (less, same)

-- a place to which a scope comes waits from then on
pub waiting_reached : (number : ℕ) (places : List PlaceState) (index : ℕ) (scope : Scope)
    → slice_get places index ≡ Some Unreached
    → waiting_places number (slice_set places index (Reached scope))
    ≡ insert_key nat_cmp (waiting_places number places) (number + index)
waiting_reached number [] index scope at = absurd (cc)
waiting_reached number (Unreached ∷ places) zero scope at =
    let here : number ≡ number + 0 = omega arith in
    insert_first number (waiting_places (suc number) places)
    (λ key others is. waiting_behind (suc number) (suc number) places key others (omega arith) is)
    ∙ ap (insert_key nat_cmp (waiting_places (suc number) places)) here
waiting_reached number (Reached other ∷ places) zero scope at = absurd (cc)
waiting_reached number (Taken other ∷ places) zero scope at = absurd (cc)
waiting_reached number (Unreached ∷ places) (suc index) scope at =
    let there : suc number + index ≡ number + suc index = omega arith in
    waiting_reached (suc number) places index scope at
    ∙ ap (insert_key nat_cmp (waiting_places (suc number) places)) there
waiting_reached number (Reached other ∷ places) (suc index) scope at =
    let there : suc number + index ≡ number + suc index = omega arith in
    ap (λ keys. number ∷ keys) (waiting_reached (suc number) places index scope at
    ∙ ap (insert_key nat_cmp (waiting_places (suc number) places)) there)
    ∙ insert_later number (number + suc index) (waiting_places (suc number) places) (omega arith)
waiting_reached number (Taken other ∷ places) (suc index) scope at =
    let there : suc number + index ≡ number + suc index = omega arith in
    waiting_reached (suc number) places index scope at
    ∙ ap (insert_key nat_cmp (waiting_places (suc number) places)) there

-- of places without a scope none waits
pub waiting_unreached : (number count : ℕ) → waiting_places number (replicate count Unreached) ≡ []
waiting_unreached number zero = refl
waiting_unreached number (suc count) = waiting_unreached (suc number) count
