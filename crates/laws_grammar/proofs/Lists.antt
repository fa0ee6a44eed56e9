-- The laws of items one after the other.
use Rattle.std.proofs.Common.{◌≡◌, ℕ, zero, suc, ◌≤◌, ◌<◌, Bool, true, false, List, [], ◌∷◌, ◌++◌, length, length-append, Option, Some, None, Ok, Err, refl, sym, ap, subst, ◌∙◌, append_assoc, append-nil, inl, inr, arith}
use Rattle.sour_lexer.specs.Placed.{Lexeme, Placed}
use Rattle.sour_raw.specs.declared.kind.Kind.{Kind}
use Rattle.sour_raw.specs.declared.kind.Kind.TheVariants.{Form as form, Number as number, Limit as limit}
use Rattle.sour_raw.specs.Lexemes.{is}
use Rattle.sour_raw.specs.Spelling.{Tokens, less, HasRoom, each, after_separator, listed, one_or_more, Language}
use Rattle.sour_raw.specs.Fault.{earlier, Same, separates}
use Rattle.sour_raw.specs.Combinators.{Out, Reading, ◌>>=◌, next, leading, mapped, both, Items, by_room, many, repeated, unseparated, others, listed_at, one_or_more_at}
use Rattle.laws_grammar.proofs.Same.{same_refl, same_head, same_whole, next_same}
use Rattle.laws_grammar.proofs.Lexemes.{is_itself}
use Rattle.laws_grammar.proofs.Kit.{Verdict, took, IsLater, Passes, Looser, Exact, bind_same, verdict_to, same_out, exact_as, image, verdict_image, exact_image, out, exact_any, empty, exact_nothing, leads, verdict_after, stuck_first, passes_bind, either, exact_choose}
use Rattle.laws_grammar.proofs.Leaves.{pairs, exact_both, exact_after, headed}
use Rattle.laws_grammar.proofs.OneTooMany.{Over, Starts, exact_over, over_here, over_after}

-- what is known of how items are read; FI says what may follow one, F what may follow them all
pub record ItemsLaw {St X : Type 0} (S : St → Language X) (FI F : Tokens) (w : Items St X) : Type 0 where
  pub item : (st : St) → Exact (S st) FI (w.item st)
  pub over : (st : St) → Over (S st) FI (w.over st)
  pub starts : (st : St) (k : Kind) (x : X) (u rest : List Placed) → S st k x u → next w.first (u ++ rest) ≡ true
  pub ends : (rest : List Placed) → F rest → next w.first rest ≡ false
  pub follows : (room : Option ℕ) (st : St) (k : Kind) (xs : List X) (u rest : List Placed)
      → each S w.step room st k xs u → F rest → FI (u ++ rest)

-- ---- one step of the repetition

-- what begins an item leaves fewer tokens
fewer : (p : Lexeme → Bool) (u rest : List Placed) → next p (u ++ []) ≡ true → length rest < length (u ++ rest)
fewer p [] rest n = absurd cc
fewer p (t ∷ u) rest n = omega (arith, length-append u rest)

-- an item takes a token
item_fewer : {St X : Type 0} {S : St → Language X} {FI F : Tokens} {w : Items St X} → ItemsLaw S FI F w
    → (room : Option ℕ) (st : St) (ts : List Placed) (x : X × List Placed)
    → by_room room (w.item st) (w.over st) ts ≡ Ok x → length x.1 < length ts
item_fewer {X = X} {S = S} {w = w} law room st ts x e = by room e where
  taken : w.item st ts ≡ Ok x → length x.1 < length ts
  taken e = elim ((law.item st).verdict ts) [
    | inl a ↦
        let there : w.item st ts ≡ Ok (a.x, a.rest) = ap (w.item st) a.whole ∙ a.same a.rest (same_refl zero a.rest) in
        let left : x.1 ≡ a.rest = cc in
        rw (left, a.whole) (fewer w.first a.front a.rest (law.starts st limit a.x a.front [] a.spelled))
    | inr a ↦
        let b = a.reached in
        let there : w.item st ts ≡ Err (a.kind, a.rest) =
        ap (w.item st) b.whole ∙ a.same a.rest (same_refl b.spot.ahead a.rest) in
        absurd cc
  ]

  by : (room : Option ℕ) → by_room room (w.item st) (w.over st) ts ≡ Ok x → length x.1 < length ts
  by None e = taken e
  by (Some (suc n)) e = taken e
  by (Some zero) e =
      let a = (law.over st).stuck ts in
      let there : w.over st ts ≡ Err (a.kind, a.rest) =
      ap (w.over st) a.whole ∙ a.same a.rest (same_refl a.spot.ahead a.rest) in
      absurd cc

-- fuel that is enough is as good as more
enough : {St X : Type 0} {S : St → Language X} {FI F : Tokens} {w : Items St X} → ItemsLaw S FI F w
    → (m n : ℕ) (room : Option ℕ) (st : St) (ts : List Placed)
    → length ts ≤ m → length ts ≤ n → many w m room st ts ≡ many w n room st ts
enough law zero zero room st ts le le' = refl
enough law zero (suc n) room st [] le le' = refl
enough law zero (suc n) room st (t ∷ ts) le le' = absurd (omega (arith, le))
enough law (suc m) zero room st [] le le' = refl
enough law (suc m) zero room st (t ∷ ts) le le' = absurd (omega (arith, le'))
enough {X = X} {w = w} law (suc m) (suc n) room st ts le le' =
    by (next w.first ts) refl (λ x e.
    let lt = item_fewer law room st ts x e in
    ap (λ (o : Out (List X)). o >>= λ b. Ok (x.0 ∷ b.0, b.1))
    (enough law m n (less room) (w.step st x.0) x.1 (omega (arith, le, lt)) (omega (arith, le', lt)))) where
      rest : ℕ → X × List Placed → Out (List X)
      rest fuel a = many w fuel (less room) (w.step st a.0) a.1 >>= λ b. Ok (a.0 ∷ b.0, b.1)

      by : (b : Bool) → next w.first ts ≡ b
          → ((x : X × List Placed) → by_room room (w.item st) (w.over st) ts ≡ Ok x → rest m x ≡ rest n x)
          → many w (suc m) room st ts ≡ many w (suc n) room st ts
      by false e h = rw e refl
      by true e h = rw e (bind_same (by_room room (w.item st) (w.over st) ts) (rest m) (rest n) h)

-- an item, and then the others
abbrev then_others : {St X : Type 0} → Items St X → Option ℕ → St → X → Reading (List X)
then_others w room st x = mapped (λ xs. x ∷ xs) (repeated w (less room) (w.step st x))

-- where an item begins, it is read, and then the others
repeated_next : {St X : Type 0} {S : St → Language X} {FI F : Tokens} {w : Items St X} → ItemsLaw S FI F w
    → (room : Option ℕ) (st : St) (ts : List Placed)
    → next w.first ts ≡ true → repeated w room st ts ≡ leading (by_room room (w.item st) (w.over st))
    (then_others w room st) ts
repeated_next law room st [] n = absurd cc
repeated_next {X = X} {w = w} law room st (t ∷ ts) n =
    rw n (bind_same (by_room room (w.item st) (w.over st) (t ∷ ts)) _ _ (λ x e.
    ap (λ (o : Out (List X)). o >>= λ b. Ok (x.0 ∷ b.0, b.1))
    (enough law (length ts) (length x.1) (less room) (w.step st x.0) x.1
    (omega (arith, item_fewer law room st (t ∷ ts) x e)) (omega arith))))

-- where no item begins, nothing is read
repeated_done : {St X : Type 0} (w : Items St X) (room : Option ℕ) (st : St) (ts : List Placed)
    → next w.first ts ≡ false → repeated w room st ts ≡ Ok ([], ts)
repeated_done w room st [] n = refl
repeated_done w room st (t ∷ ts) n = rw n refl

-- ---- room

-- there is room for one more
abbrev pub IsOpen : Option ℕ → Type 0
IsOpen None = Unit {0}
IsOpen (Some zero) = ⊥
IsOpen (Some (suc n)) = Unit {0}

-- where there is room, an item is read as one
pub open_reads : {X : Type 0} (room : Option ℕ) (r o : Reading X) (ts : List Placed) → IsOpen room
    → by_room room r o ts ≡ r ts
open_reads None r o ts h = refl
open_reads (Some zero) r o ts h = absurd h
open_reads (Some (suc n)) r o ts h = refl

-- where there is room, there is within each kind
open_room : (k : Kind) (room : Option ℕ) → IsOpen room → HasRoom k room
open_room form room h = tt
open_room number room h = tt
open_room limit None h = tt
open_room limit (Some zero) h = absurd h
open_room limit (Some (suc n)) h = tt

-- before the kind of limits there is room
spare_room : (k : Kind) (room : Option ℕ) → HasRoom (earlier k) room
spare_room form room = tt
spare_room number room = tt
spare_room limit room = tt

-- where there is no room, only kinds before that of limits have some
not_open : (k : Kind) → HasRoom k (Some zero) → IsLater k limit
not_open form h = tt
not_open number h = tt
not_open limit h = h

-- ---- the law of repetition

-- what is within a kind is within the one before
each_looser : {St X : Type 0} {S : St → Language X} (step : St → X → St) → ((st : St) → Looser (S st))
    → (room : Option ℕ) (st : St) → Looser (each S step room st)
each_looser step l room st k [] u s = s
each_looser step l room st k (x ∷ xs) u s =
    let p = s.1 in
    (spare_room k room, (p.0, p.1, p.2, l st k x p.0 p.3, each_looser step l (less room) (step st x) k xs p.1 p.4))

-- what is said of an item and then the others, where there is room
abbrev ThenOthers : {St X : Type 0} → (St → Language X) → (St → X → St) → Option ℕ → St → X → Language (List X)
ThenOthers S step room st x = image (λ xs. x ∷ xs) (each S step (less room) (step st x))

-- an item and then the others are items
into : {St X : Type 0} {S : St → Language X} (step : St → X → St) (room : Option ℕ) (st : St) → IsOpen room
    → (k : Kind) (xs : List X) (u : List Placed)
    → leads (S st) (ThenOthers S step room st) k xs u → each S step room st k xs u
into {X = X} {S = S} step room st open' k xs u s =
    let p = s.1 in subst (λ (ys : List X). each S step room st k ys u) p.4.1
    (open_room k room open', (p.0, p.1, p.2, p.3, p.4.2))

-- the verdict where there is room for the item that begins
verdict_open : {St X : Type 0} {S : St → Language X} {FI F : Tokens} {w : Items St X} → ItemsLaw S FI F w
    → (room : Option ℕ) → IsOpen room → (st : St) (ts : List Placed)
    → next w.first ts ≡ true
    → ((x : X) (rest : List Placed) → length rest < length ts
    → Verdict (each S w.step (less room) (w.step st x)) (repeated w (less room) (w.step st x)) rest)
    → Verdict (each S w.step room st) (repeated w room st) ts
verdict_open {X = X} {S = S} {w = w} law room open' st ts n rec =
    verdict_to (λ x. x) (λ xs u rest whole s. into w.step room st open' limit xs u s)
    (λ k xs u s. (xs, into w.step room st open' k xs u s)) reads
    (elim ((law.item st).verdict ts) [
      | inl a ↦ verdict_after (then_others w room st) (law.item st).looser a
          (verdict_image (λ (xs : List X). a.x ∷ xs)
          (rec a.x a.rest
          (rw a.whole (fewer w.first a.front a.rest (law.starts st limit a.x a.front [] a.spelled)))))
      | inr a ↦ inr (stuck_first (then_others w room st) (λ x. (x ∷ [], [], ([], refl, refl)))
          (λ x k xs u s. (
            s.0,
            s.1,
            each_looser w.step (λ st'. (law.item st').looser) (less room)
                (w.step st x) k s.0 u s.2,
          )) a)
    ]) where
      reads : (all : List Placed) → Same zero ts all
          → repeated w room st all ≡ (leading (w.item st) (then_others w room st) all >>= λ a. Ok (a.0, a.1))
      reads all h =
          repeated_next law room st all (next_same w.first ts all h ∙ n)
          ∙ ap (λ (o : Out X). o >>= λ a. then_others w room st a.0 a.1)
          (open_reads room (w.item st) (w.over st) all open')
          ∙ same_out (leading (w.item st) (then_others w room st) all)

-- the verdict, by the number of tokens
verdict_each : {St X : Type 0} {S : St → Language X} {FI F : Tokens} {w : Items St X} → ItemsLaw S FI F w
    → (n : ℕ) (room : Option ℕ) (st : St) (ts : List Placed)
    → length ts ≤ n → (b : Bool) → next w.first ts ≡ b → Verdict (each S w.step room st) (repeated w room st) ts
verdict_each {w = w} law n room st ts le false none =
    took [] ts [] refl refl (λ other h. repeated_done w room st other (next_same w.first ts other h ∙ none))
verdict_each law zero room st [] le true some = absurd cc
verdict_each law zero room st (t ∷ ts) le true some = absurd (omega (arith, le))
verdict_each {w = w} law (suc n) (Some zero) st ts le true some =
    let a = (law.over st).stuck ts in
    let separator = a.spot.separator in inr (record {
      kind = a.kind;
      rest = a.rest;
      reached = record {
        spot = a.spot;
        base = [];
        whole = a.whole;
        before = ([], [], refl);
        goes = let g = a.goes in (
          g.0 ∷ [],
          g.1,
          g.2,
          (
            spare_room a.kind (Some zero),
            (separator ++ g.1, [], sym (append-nil (separator ++ g.1)), g.3, refl),
          ),
        );
      };
      same = λ other h.
          let there = next_same w.first ts (separator ++ other)
          (same_whole ts separator a.rest other a.whole (same_head a.spot.ahead a.rest other h)) ∙ some in
          repeated_next law (Some zero) st (separator ++ other) there ∙ rw (a.same other h) refl;
    })
verdict_each {w = w} law (suc n) None st ts le true some =
    verdict_open law None tt st ts some
    (λ x rest lt. verdict_each law n None (w.step st x) rest (omega (arith, le, lt)) (next w.first rest) refl)
verdict_each {w = w} law (suc n) (Some (suc c)) st ts le true some =
    verdict_open law (Some (suc c)) tt st ts some
    (λ x rest lt. verdict_each law n (Some c) (w.step st x) rest (omega (arith, le, lt)) (next w.first rest) refl)

-- an item and then the others pass, where there is room
passes_open : {St X : Type 0} {S : St → Language X} {FI F : Tokens} {w : Items St X} → ItemsLaw S FI F w
    → (k : Kind) (room : Option ℕ) → IsOpen room → (st : St) (x : X) (xs : List X)
    → (u v rest : List Placed) → S st k x u → FI (v ++ rest)
    → Passes k (repeated w (less room) (w.step st x) (v ++ rest)) xs rest
    → Passes k (repeated w room st (u ++ (v ++ rest))) (x ∷ xs) rest
passes_open {X = X} {w = w} law k room open' st x xs u v rest s f rec =
    rw (
      repeated_next law room st (u ++ (v ++ rest)) (law.starts st k x u (v ++ rest) s),
      open_reads room (w.item st) (w.over st) (u ++ (v ++ rest)) open',
    )
    (passes_bind k (w.item st (u ++ (v ++ rest))) (λ a. then_others w room st a.0 a.1) x (v ++ rest) (x ∷ xs) rest
    ((law.item st).passes k x u (v ++ rest) s f)
    (passes_bind k (repeated w (less room) (w.step st x) (v ++ rest)) (λ b. Ok (x ∷ b.0, b.1)) xs rest (x ∷ xs) rest rec
    (inl refl)))

-- what is spelled passes
passes_each : {St X : Type 0} {S : St → Language X} {FI F : Tokens} {w : Items St X} → ItemsLaw S FI F w
    → (k : Kind) (room : Option ℕ) (st : St) (xs : List X) (u rest : List Placed)
    → each S w.step room st k xs u → F rest → Passes k (repeated w room st (u ++ rest)) xs rest
passes_each {w = w} law k room st [] u rest s f = inl (rw s (repeated_done w room st rest (law.ends rest f)))
passes_each {w = w} law k (Some zero) st (x ∷ xs) u rest s f =
    let p = s.1 in
    let o = (law.over st).passes k x p.0 (p.1 ++ rest) p.3 (law.follows (Some zero) (w.step st x) k xs p.1 rest p.4 f)
    (not_open k s.0) in
    rw (p.2, append_assoc p.0 p.1 rest)
    (inr (
      o.0,
      o.1,
      o.2,
      repeated_next law (Some zero) st (p.0 ++ (p.1 ++ rest))
          (law.starts st k x p.0 (p.1 ++ rest) p.3) ∙ rw o.3 refl,
    ))
passes_each {w = w} law k None st (x ∷ xs) u rest s f =
    let p = s.1 in
    rw (p.2, append_assoc p.0 p.1 rest)
    (passes_open law k None tt st x xs p.0 p.1 rest p.3 (law.follows None (w.step st x) k xs p.1 rest p.4 f)
    (passes_each law k None (w.step st x) xs p.1 rest p.4 f))
passes_each {w = w} law k (Some (suc c)) st (x ∷ xs) u rest s f =
    let p = s.1 in
    rw (p.2, append_assoc p.0 p.1 rest)
    (passes_open law k (Some (suc c)) tt st x xs p.0 p.1 rest p.3
    (law.follows (Some c) (w.step st x) k xs p.1 rest p.4 f)
    (passes_each law k (Some c) (w.step st x) xs p.1 rest p.4 f))

-- the law of items one after the other
pub exact_repeated : {St X : Type 0} {S : St → Language X} {FI F : Tokens} {w : Items St X} → ItemsLaw S FI F w
    → (room : Option ℕ) (st : St)
    → Exact (each S w.step room st) F (repeated w room st)
exact_repeated {w = w} law room st = record {
  verdict = λ ts. verdict_each law (length ts) room st ts (omega arith) (next w.first ts) refl;
  passes = λ k xs u rest s f. passes_each law k room st xs u rest s f;
  looser = each_looser w.step (λ st'. (law.item st').looser) room st;
}

-- ---- lists

-- what is known of items that stand side by side
pub unseparated_law : {St X : Type 0} {S : St → Language X} {FI F : Tokens} {r : St → Reading X} (p : Lexeme → Bool)
    (step : St → X → St) → ((st : St) → Exact (S st) FI (r st))
    → ((st : St) → Starts (S st) p) → ((rest : List Placed) → F rest → (next p rest ≡ false) × FI rest)
    → ((st : St) (k : Kind) (x : X) (u rest : List Placed) → S st k x u → FI (u ++ rest))
    → ItemsLaw S FI F (unseparated p r step)
unseparated_law {St = St} {X = X} {S = S} {FI = FI} {F = F} p step e h ends next' = record {
  item = e;
  over = λ st. over_here (exact_over p (e st) (h st));
  starts = λ st. (h st).starts;
  ends = λ rest f. (ends rest f).0;
  follows = follows;
} where
  follows : (room : Option ℕ) (st : St) (k : Kind) (xs : List X) (u rest : List Placed) → each S step room st k xs u
      → F rest → FI (u ++ rest)
  follows room st k [] u rest s f = rw s (ends rest f).1
  follows room st k (x ∷ xs) u rest s f = let p = s.1 in
      rw (p.2, append_assoc p.0 p.1 rest) (next' st k x p.0 (p.1 ++ rest) p.3)

-- one, and then others as T spells them
abbrev FirstAndOthers : {St X : Type 0} → (St → Language X) → (St → Language X) → (St → X → St) → Option ℕ → St
    → Language (List X)
FirstAndOthers S T step room st =
    image (λ x. x.0 ∷ x.1) (pairs (S st) (λ x. each T step (less room) (step st x)))

-- the law of one and then others
exact_first : {St X : Type 0} {S T : St → Language X} {FI F : Tokens} {r : St → Reading X} {w : Items St X}
    → ((st : St) → Exact (S st) FI (r st)) → ItemsLaw T FI F w → (room : Option ℕ) (st : St)
    → Exact (FirstAndOthers S T w.step room st) F
    (mapped (λ x. x.0 ∷ x.1) (both (r st) (λ x. repeated w (less room) (w.step st x))))
exact_first {w = w} e law room st =
    exact_image (λ x. x.0 ∷ x.1)
    (exact_both (e st) (λ x. exact_repeated law (less room) (w.step st x))
    (λ k x xs v rest s f. law.follows (less room) (w.step st x) k xs v rest s f))

-- the law of one and then others of the same kind
pub exact_one_or_more : {St X : Type 0} {S : St → Language X} {FI F : Tokens} {w : Items St X} → ItemsLaw S FI F w
    → (room : Option ℕ) (st : St) → Exact (one_or_more S w.step room st) F (one_or_more_at w room st)
exact_one_or_more {X = X} {S = S} {w = w} law room st =
    exact_as (exact_first law.item law room st) (λ k xs u s. out (one_or_more S w.step room st) s) back where
      back : (k : Kind) (xs : List X) (u : List Placed) → one_or_more S w.step room st k xs u
          → FirstAndOthers S S w.step room st k xs u
      back k [] u s = absurd s
      back k (x ∷ xs) u s = ((x, xs), refl, s)

-- what may follow a list with this separator, none of whose items begins there
pub record EndsList (p : Lexeme → Bool) (separator : Lexeme) (ts : List Placed) : Type 0 where
  pub none : next p ts ≡ false
  pub no_other : next (is separator) ts ≡ false

-- the law of a list with this separator, where FI says what may follow one of its items
pub exact_listed : {St X : Type 0} {S : St → Language X} {FI F : Tokens} {r : St → Reading X} (p : Lexeme → Bool)
    (separator : Lexeme) (step : St → X → St) → separates separator ≡ true
    → ((st : St) → Exact (S st) FI (r st)) → ((st : St) → Starts (S st) p)
    → ((rest : List Placed) → F rest → EndsList p separator rest × FI rest)
    → ((t : Placed) (rest : List Placed) → t.lexeme ≡ separator → FI (t ∷ rest))
    → (room : Option ℕ) (st : St) → Exact (listed separator S step room st) F (listed_at p separator r step room st)
exact_listed {St = St} {X = X} {S = S} {FI = FI} {F = F} {r = r} p separator step divides e h ends between room st =
    exact_as (exact_choose p (exact_first e law room st) (exact_any (exact_nothing []))
    (λ k xs u rest s f. let m = s.2 in rw (m.2, append_assoc m.0 m.1 rest)
    ((h st).starts k s.0.0 m.0 (m.1 ++ rest) m.3))
    (λ k xs u rest s f. rw s.1 (ends rest f).0.none))
    to back where
      follows : (room : Option ℕ) (st : St) (k : Kind) (xs : List X) (u rest : List Placed)
          → each (after_separator separator S) step room st k xs u → F rest → FI (u ++ rest)
      follows room st k [] u rest s f = rw s (ends rest f).1
      follows room st k (x ∷ xs) u rest s f =
          let a = s.1 in let b = a.3 in let c = b.3 in
          rw (a.2, append_assoc a.0 a.1 rest, b.2, append_assoc b.0 b.1 (a.1 ++ rest), c.2)
          (between c.0 (b.1 ++ (a.1 ++ rest)) c.1)

      law : ItemsLaw (after_separator separator S) FI F (others separator r step)
      law = record {
        item = λ st. exact_after separator (e st);
        over = λ st. over_after separator divides (e st) (exact_over p (e st) (h st));
        starts = λ st k x u rest s. headed separator (is separator) true (is_itself separator) u rest s;
        ends = λ rest f. (ends rest f).0.no_other;
        follows = follows;
      }

      to : (k : Kind) (xs : List X) (u : List Placed)
          → either (FirstAndOthers S (after_separator separator S) step room st) (empty []) k xs u
          → listed separator S step room st k xs u
      to k xs u s = elim s [ inl m ↦ out (listed separator S step room st) m | inr m ↦ rw (m.0, m.1) refl ]

      back : (k : Kind) (xs : List X) (u : List Placed) → listed separator S step room st k xs u
          → either (FirstAndOthers S (after_separator separator S) step room st) (empty []) k xs u
      back k [] u s = inr (refl, s)
      back k (x ∷ xs) u s = inl ((x, xs), refl, s)
