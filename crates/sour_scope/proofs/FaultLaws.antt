-- The first fault of a list, element by element.
use Rattle.std.proofs.Common.{◌≡◌, ◌+◌, ◌<◌, ℕ, List, [], ◌∷◌, ◌++◌, Option, None, Some, length, map, get_or, take, drop, append_assoc, refl, sym, ap, ◌∙◌, subst, arith}
use Rattle.std.specs.Iterator.{Yields}
use Rattle.std.proofs.lemmas.Iterator.{YieldsList}
use Rattle.std.proofs.lemmas.Iterator.Consumers.{YieldsList-turn, YieldsList-end}
use Rattle.std.proofs.lemmas.List.{length_push, take_all, take-append-drop}
use Rattle.sour_syntax.proofs.Everywhere.{take_next}
use Rattle.sour_checked.specs.Fault.{Fault, or_else, first_fault_of}
use Rattle.sour_scope.specs.declared.fault.ScopeFault.{ScopeFault}
use Rattle.sour_scope.specs.declared.fault.ScopeFault.TheVariants as fault
use Rattle.sour_scope.specs.Told.{Tells}

-- what is told of a fault of which one thing holds is told of one of which another follows
pub Tells-weaker : (P Q : Fault → Type 0) → ((fault : Fault) → P fault → Q fault) → (told : ScopeFault) → Tells P told
    → Tells Q told
Tells-weaker P Q follows (fault.At kind line first second) is = follows _ is
Tells-weaker P Q follows fault.Memory is = tt

-- of three faults the first is that of the first two, or else the third
or_else_later : (one other last : Option Fault) → or_else (or_else one other) last ≡ or_else one (or_else other last)
or_else_later None other last = refl
or_else_later (Some fault) other last = refl

module _ {X : Type 0} (fault : X → Option Fault) where
  -- the first fault of two lists one after the other
  pub first_of_append : (xs ys : List X)
      → first_fault_of fault (xs ++ ys) ≡ or_else (first_fault_of fault xs) (first_fault_of fault ys)
  first_of_append [] ys = refl
  first_of_append (x ∷ xs) ys =
      ap (or_else (fault x)) (first_of_append xs ys)
      ∙ sym (or_else_later (fault x) (first_fault_of fault xs) (first_fault_of fault ys))

  -- behind elements that have none it is that of the others
  pub first_behind : (xs ys : List X) → first_fault_of fault xs ≡ None
      → first_fault_of fault (xs ++ ys) ≡ first_fault_of fault ys
  first_behind xs ys none = first_of_append xs ys ∙ ap (λ it. or_else it (first_fault_of fault ys)) none

  module _ (xs : List X) (place : ℕ) (x : X) (within : place < length xs) (is : x ≡ get_or xs place x)
      (none : first_fault_of fault (take place xs) ≡ None) where
    -- one element more that has no fault
    pub none_more : fault x ≡ None → first_fault_of fault (take (place + 1) xs) ≡ None
    none_more here =
        ap (first_fault_of fault) (take_next xs place x within is)
        ∙ first_behind (take place xs) (x ∷ []) none ∙ ap (λ it. or_else it None) here

    -- the fault of the next one is the first
    pub first_here : (told : ScopeFault) → Tells (λ f. fault x ≡ Some f) told
        → Tells (λ f. first_fault_of fault xs ≡ Some f) told
    first_here told here =
        Tells-weaker (λ found. fault x ≡ Some found) (λ found. first_fault_of fault xs ≡ Some found) whole told here
      where
        whole : (found : Fault) → fault x ≡ Some found → first_fault_of fault xs ≡ Some found
        whole found at =
            let front : take (place + 1) xs ++ drop (place + 1) xs ≡ xs = take-append-drop (place + 1) xs in
            let split : take place xs ++ (x ∷ drop (place + 1) xs) ≡ xs =
            sym (append_assoc (take place xs) (x ∷ []) (drop (place + 1) xs))
            ∙ ap (λ (ys : List X). ys ++ drop (place + 1) xs) (sym (take_next xs place x within is)) ∙ front in
            ap (first_fault_of fault) (sym split) ∙ first_behind (take place xs) (x ∷ drop (place + 1) xs) none
            ∙ ap (λ it. or_else it (first_fault_of fault (drop (place + 1) xs))) at

  -- where the first so many are all
  none_of_all : (xs : List X) (place : ℕ) → place ≡ length xs → first_fault_of fault (take place xs) ≡ None
      → first_fault_of fault xs ≡ None
  none_of_all xs place is none =
      subst (λ (ys : List X). first_fault_of fault ys ≡ None) (take_all place xs (omega arith)) none

-- a loop over what an iterator gives, which gave these items so far
module _ {S A B : Type 0} {steps : S → Option A → S → Type 0} {v : A → B} {s : S} (fault : B → Option Fault)
    (all : List B) (gives : YieldsList steps v s all) (xs : List A) (t : S) (so_far : Yields steps s xs t) where
  module _ (x : A) (next : Option A) (u : S) (is : next ≡ Some x) (turn : steps t next u)
      (none : first_fault_of fault (take (length xs) all) ≡ None) where
    -- where the next item lies
    here : (length xs < length all) × (v x ≡ get_or all (length xs) (v x))
    here = YieldsList-turn gives xs t so_far next u x is turn

    -- it has no fault, either
    pub none_after : fault (v x) ≡ None → first_fault_of fault (take (length (xs ++ x ∷ [])) all) ≡ None
    none_after fine =
        subst (λ n. first_fault_of fault (take n all) ≡ None) (sym (length_push xs x))
        (none_more fault all (length xs) (v x) here.0 here.1 none fine)

    -- its fault is the first
    pub told_at : (told : ScopeFault) → Tells (λ f. fault (v x) ≡ Some f) told
        → Tells (λ f. first_fault_of fault all ≡ Some f) told
    told_at told found = first_here fault all (length xs) (v x) here.0 here.1 none told found

  -- there is no further item
  pub none_at_end : (next : Option A) (u : S) → next ≡ None → steps t next u
      → first_fault_of fault (take (length xs) all) ≡ None → first_fault_of fault all ≡ None
  none_at_end next u is turn none =
      none_of_all fault all (length xs) (YieldsList-end gives xs t so_far next u is turn).1 none

-- the first fault of what some give
pub first_of_map : {X Y : Type 0} (fault : Y → Option Fault) (give : X → Y) (xs : List X)
    → first_fault_of fault (map give xs) ≡ first_fault_of (λ x. fault (give x)) xs
first_of_map fault give [] = refl
first_of_map fault give (x ∷ xs) = ap (or_else (fault (give x))) (first_of_map fault give xs)
