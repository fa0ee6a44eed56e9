-- Reading items one after the other, as a loop does.
use Rattle.std.proofs.Common.{◌≡◌, ℕ, zero, suc, ◌-◌, ◌+◌, ◌≤◌, ◌<◌, true, false, List, [], ◌∷◌, ◌++◌, length, length-append, Option, Some, None, Ok, Err, refl, sym, ap, ◌∙◌, append_assoc, append-nil, arith}
use Rattle.sour_lexer.specs.Placed.{Placed}
use Rattle.sour_raw.specs.declared.kind.Kind.{Kind}
use Rattle.sour_raw.specs.Spelling.{less, after_all}
use Rattle.sour_raw.specs.Combinators.{Out, ◌>>=◌, next, Items, many}
use Rattle.laws_grammar.proofs.Lists.{IsOpen, open_reads}

-- what was read before, and what is still read
abbrev pub with_front : {X : Type 0} → List X → Out (List X) → Out (List X)
with_front front read = read >>= λ x. Ok (front ++ x.0, x.1)

-- the room that is left after so many
abbrev pub room_left : Option ℕ → ℕ → Option ℕ
room_left None n = None
room_left (Some room) n = Some (room - n)

-- what is read from a place in the loop: fuel is the count of tokens without the turns taken
abbrev pub read_from : {St X : Type 0} → Items St X → ℕ → ℕ → Option ℕ → List X → St → List Placed → Out (List X)
read_from w count i room front st ts = with_front front (many w (count - i) (room_left room (length front)) st ts)

-- there is room for one more while there are fewer than the limit
pub open_left : (room n : ℕ) → n < room → IsOpen (room_left (Some room) n)
open_left room n lt = let e : room - n ≡ suc (room - (n + 1)) = omega (arith, lt) in rw e tt

-- at the limit there is no room
pub none_left : (room n : ℕ) → room ≤ n → room_left (Some room) n ≡ Some zero
none_left room n le = let e : room - n ≡ zero = omega (arith, le) in ap Some e

-- after one item there is room for one fewer
one_fewer : {X : Type 0} (room : Option ℕ) (front : List X) (x : X)
    → less (room_left room (length front)) ≡ room_left room (length (front ++ x ∷ []))
one_fewer None front x = refl
one_fewer (Some room) front x = by room (length front) (length (front ++ x ∷ [])) (length-append front (x ∷ [])) where
  by : (room n m : ℕ) → m ≡ n + 1 → less (Some (room - n)) ≡ Some (room - m)
  by room n m e = from (room - n) (omega (arith, e)) where
    from : (d : ℕ) → room - m ≡ d - 1 → less (Some d) ≡ Some (room - m)
    from zero e' = let q : zero ≡ room - m = omega (arith, e') in ap Some q
    from (suc d) e' = let q : d ≡ room - m = omega (arith, e') in ap Some q

-- an item belongs to what was read before
regroup : {X : Type 0} (front : List X) (x : X) (read : Out (List X))
    → with_front front (read >>= λ a. Ok (x ∷ a.0, a.1)) ≡ with_front (front ++ x ∷ []) read
regroup front x (Ok a) = ap (λ xs. Ok (xs, a.1)) (simp append_assoc)
regroup front x (Err e) = refl

-- after an item the loop goes on
pub goes_on : {St X : Type 0} (w : Items St X) (st : St) (front : List X) (count i : ℕ) (room : Option ℕ)
    (ts : List Placed) (x : X) (after : List Placed) (total : Out (List X))
    → i < count → next w.first ts ≡ true → IsOpen (room_left room (length front)) → w.item st ts ≡ Ok (x, after)
    → read_from w count i room front st ts ≡ total
    → read_from w count (i + 1) room (front ++ x ∷ []) (w.step st x) after ≡ total
goes_on w st front count i room ts x after total lt some open' read so_far =
    let turn : count - i ≡ suc (count - (i + 1)) = omega (arith, lt) in
    let one : read_from w count i room front st ts ≡ read_from w count (i + 1) room (front ++ x ∷ [])
    (w.step st x) after =
    rw (
      turn,
      some,
      open_reads (room_left room (length front)) (w.item st) (w.over st) ts open',
      read,
      one_fewer room front x,
    )
    (regroup front x (many w (count - (i + 1)) (room_left room (length (front ++ x ∷ []))) (w.step st x) after)) in
    sym one ∙ so_far

-- where an item fails, all fails
pub fails : {St X : Type 0} (w : Items St X) (st : St) (front : List X) (count i : ℕ) (room : Option ℕ)
    (ts : List Placed) (e : Kind × List Placed) (total : Out (List X))
    → i < count → next w.first ts ≡ true → IsOpen (room_left room (length front)) → w.item st ts ≡ Err e
    → read_from w count i room front st ts ≡ total → total ≡ Err e
fails w st front count i room ts e total lt some open' read so_far =
    let turn : count - i ≡ suc (count - (i + 1)) = omega (arith, lt) in
    let one : read_from w count i room front st ts ≡ Err e =
    rw (turn, some, open_reads (room_left room (length front)) (w.item st) (w.over st) ts open', read) refl in
    sym so_far ∙ one

-- where there is no room, an item is refused
pub refuses : {St X : Type 0} (w : Items St X) (st : St) (front : List X) (count i : ℕ) (room : Option ℕ)
    (ts : List Placed) (e : Kind × List Placed) (total : Out (List X))
    → i < count → next w.first ts ≡ true → room_left room (length front) ≡ Some zero → w.over st ts ≡ Err e
    → read_from w count i room front st ts ≡ total → total ≡ Err e
refuses w st front count i room ts e total lt some full read so_far =
    let turn : count - i ≡ suc (count - (i + 1)) = omega (arith, lt) in
    let one : read_from w count i room front st ts ≡ Err e = rw (turn, full, some, read) refl in
    sym so_far ∙ one

-- where no item begins, all is read
pub is_done : {St X : Type 0} (w : Items St X) (st : St) (front : List X) (count i : ℕ) (room : Option ℕ)
    (ts : List Placed) (total : Out (List X))
    → next w.first ts ≡ false → read_from w count i room front st ts ≡ total → total ≡ Ok (front, ts)
is_done w st front count i room ts total none so_far = sym so_far ∙ by (count - i) where
  by : (fuel : ℕ) → with_front front (many w fuel (room_left room (length front)) st ts) ≡ Ok (front, ts)
  by zero = ap (λ xs. Ok (xs, ts)) (append-nil front)
  by (suc fuel) = rw none (ap (λ xs. Ok (xs, ts)) (append-nil front))

-- where the turns are over, all is read
pub is_over : {St X : Type 0} (w : Items St X) (st : St) (front : List X) (count i : ℕ) (room : Option ℕ)
    (ts : List Placed) (total : Out (List X))
    → count ≤ i → read_from w count i room front st ts ≡ total → total ≡ Ok (front, ts)
is_over w st front count i room ts total le so_far =
    let over : count - i ≡ 0 = omega (arith, le) in
    let one : read_from w count i room front st ts ≡ Ok (front, ts) =
    rw over (ap (λ xs. Ok (xs, ts)) (append-nil front)) in
    sym so_far ∙ one

-- what is known after one more
pub after_one : {St X : Type 0} (step : St → X → St) (st : St) (xs : List X) (x : X)
    → after_all step st (xs ++ x ∷ []) ≡ step (after_all step st xs) x
after_one step st [] x = refl
after_one step st (y ∷ ys) x = after_one step (step st y) ys x

-- nothing was read before
pub whole_front : {X : Type 0} (o : Out (List X)) → with_front [] o ≡ o
whole_front (Ok x) = refl
whole_front (Err e) = refl
