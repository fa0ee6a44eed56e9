-- An item that is one too many is refused.
use Rattle.std.proofs.Common.{◌≡◌, ℕ, zero, suc, ◌<◌, Bool, true, false, List, [], ◌∷◌, ◌++◌, length, length-append, Err, refl, sym, ap, subst, ◌∙◌, append_assoc, inl, inr, arith, nat_eq, eq-eqb, eqb-true}
use Rattle.sour_lexer.specs.Placed.{Lexeme, Placed}
use Rattle.sour_raw.specs.declared.kind.Kind.{Kind}
use Rattle.sour_raw.specs.declared.kind.Kind.TheVariants.{Form as form, Number as number, Limit as limit}
use Rattle.sour_raw.specs.Lexemes.{is}
use Rattle.sour_raw.specs.Spelling.{Tokens, ◌·◌, one, Language}
use Rattle.sour_raw.specs.Fault.{earlier, Same, IsBetween, IsPlaced, separates, may_begin_item, Follows, Spot}
use Rattle.sour_raw.specs.Combinators.{Out, Reading, next, after, refuse, too_many}
use Rattle.laws_grammar.proofs.Same.{same_refl, same_head, same_sym}
use Rattle.laws_grammar.proofs.Lexemes.{is_same, is_itself}
use Rattle.laws_grammar.proofs.Kit.{err_kind, IsLater, Passes, Exact, within_limit, some}
use Rattle.laws_grammar.proofs.Leaves.{alike, at_none, somewhere}

-- it is refused, where nothing but a separator may have been read
pub record Refuses {X : Type 0} (S : Language X) (o : Reading X) (ts : List Placed) : Type 0 where
  pub kind : Kind
  pub rest : List Placed
  pub spot : Spot kind rest
  pub whole : ts ≡ spot.separator ++ rest
  pub goes : (x : X) × (other : List Placed) × Follows kind spot.ahead rest other
      × S (earlier kind) x (spot.separator ++ other)
  pub same : (other : List Placed) → Same spot.ahead rest other → o (spot.separator ++ other) ≡ Err (kind, other)

-- what is spelled before the kind of limits fails by a later kind
abbrev pub FailsLater : {X : Type 0} → Language X → Tokens → Reading X → Type 0
FailsLater {X} S F o = (k : Kind) (x : X) (u rest : List Placed) → S k x u → F rest → IsLater k limit
    → (j : Kind) × (at : List Placed) × IsLater k j × (o (u ++ rest) ≡ Err (j, at))

-- the law of a reading that refuses an item
pub record Over {X : Type 0} (S : Language X) (F : Tokens) (o : Reading X) : Type 0 where
  pub stuck : (ts : List Placed) → Refuses S o ts
  pub passes : FailsLater S F o

-- it is refused at its first token
pub record OverHere {X : Type 0} (S : Language X) (F : Tokens) (o : Reading X) : Type 0 where
  pub stuck : (ts : List Placed) → (kind : Kind) × IsPlaced kind zero ts
      × ((x : X) × (other : List Placed) × Follows kind zero ts other × S (earlier kind) x other)
      × ((other : List Placed) → Same zero ts other → o other ≡ Err (kind, other))
  pub passes : FailsLater S F o

-- with which tokens an item begins
pub record Starts {X : Type 0} (S : Language X) (p : Lexeme → Bool) : Type 0 where
  pub starts : (k : Kind) (x : X) (u rest : List Placed) → S k x u → next p (u ++ rest) ≡ true
  pub items : (t : Lexeme) → p t ≡ true → may_begin_item t ≡ true

-- ---- its own fault, or Limit

-- a separator begins no item
pub no_item : (t : Lexeme) → separates t ≡ true → may_begin_item t ≡ true → ⊥
no_item t a b = by (separates t) a refl where
  by : (c : Bool) → c ≡ true → separates t ≡ c → ⊥
  by true c e = let f : may_begin_item t ≡ false = rw e refl in absurd cc
  by false c e = absurd cc

-- an item may stand here
next_placed : (p : Lexeme → Bool) → ((t : Lexeme) → p t ≡ true → may_begin_item t ≡ true) → (ts : List Placed)
    → next p ts ≡ true → IsPlaced limit zero ts
next_placed p items [] n = absurd cc
next_placed p items (t ∷ ts) n = items t.lexeme n

-- what isn't empty begins the same, whatever follows
same_front : (p : Lexeme → Bool) (u rest : List Placed) → next p (u ++ []) ≡ true → Same zero (u ++ rest) u
same_front p [] rest n = absurd cc
same_front p (t ∷ u) rest n = refl

-- an item that is one too many is refused by its own fault at its first token, or by Limit there
data Refusal {X : Type 0} (S : Language X) (r : Reading X) (ts : List Placed) : Type 0 where
  own : (k : Kind) (l : IsLater k limit) (p : IsPlaced k zero ts)
      (g : (x : X) × (other : List Placed) × Follows k zero ts other × S (earlier k) x other)
      (same : (other : List Placed) → Same zero ts other → too_many r other ≡ Err (k, other)) → Refusal S r ts
  over : (p : IsPlaced limit zero ts) (g : (x : X) × (other : List Placed) × Same zero ts other × S number x other)
      (here : too_many r ts ≡ Err (limit, ts)) → Refusal S r ts

-- a fault at the first token stays
itself : {X : Type 0} (r : Reading X) (k : Kind) (ts : List Placed) → r ts ≡ Err (k, ts) → too_many r ts ≡ Err (k, ts)
itself r k ts e = rw (e, eq-eqb (length ts) (length ts) refl) refl

-- a fault with fewer tokens left gives Limit
refused_later : {X : Type 0} (ts rest : List Placed) (k : Kind) (b : Bool) → nat_eq (length rest) (length ts) ≡ b
    → length rest < length ts
    → refuse {X = X} ts (Err (k, rest)) ≡ Err (limit, ts)
refused_later ts rest k true e lt = absurd (omega (arith, lt, eqb-true _ _ e))
refused_later ts rest k false e lt = rw e refl

-- a fault after the first token gives Limit
later : {X : Type 0} (r : Reading X) (k : Kind) (t : Placed) (base separator rest : List Placed)
    → r (t ∷ base ++ (separator ++ rest)) ≡ Err (k, rest)
    → too_many r (t ∷ base ++ (separator ++ rest)) ≡ Err (limit, t ∷ base ++ (separator ++ rest))
later {X} r k t base separator rest e =
    let ts = t ∷ base ++ (separator ++ rest) in
    rw e (refused_later {X = X} ts rest k (nat_eq (length rest) (length ts)) refl
    (omega (arith, length-append base (separator ++ rest), length-append separator rest)))

-- how an item is refused
refusal : {X : Type 0} {S : Language X} {F : Tokens} {r : Reading X} (p : Lexeme → Bool) → Exact S F r → Starts S p
    → (ts : List Placed) → Refusal S r ts
refusal {X = X} {S = S} {r = r} p e h ts = elim (e.verdict ts) [
  | inl a ↦
      over (subst (λ (w : List Placed). IsPlaced limit zero w) (sym a.whole)
      (next_placed p h.items (a.front ++ a.rest) (h.starts limit a.x a.front a.rest a.spelled))) (
        a.x,
        a.front,
        subst (λ (w : List Placed). Same zero w a.front) (sym a.whole)
            (same_front p a.front a.rest (h.starts limit a.x a.front [] a.spelled)),
        e.looser limit a.x a.front a.spelled,
      )
      (rw (ap r a.whole ∙ a.same a.rest (same_refl zero a.rest)) refl)
  | inr a ↦ let b = a.reached in
      by_base a.kind a.rest b.spot.separator b.spot.ahead b.spot.between b.spot.placed b.base b.whole b.before b.goes
      a.same
] where
  front_placed : (ts : List Placed) (n : ℕ) → IsPlaced limit (suc n) ts → IsPlaced limit zero ts
  front_placed [] zero q = absurd q
  front_placed (t ∷ []) zero q = absurd q
  front_placed (t ∷ u ∷ ts) zero q = q.0
  front_placed ts (suc n) q = absurd q

  here : (kind : Kind) (ahead : ℕ) → IsPlaced kind ahead ts
      → ((x : X) × (other : List Placed) × Follows kind ahead ts other × S (earlier kind) x other)
      → ((other : List Placed) → Same ahead ts other → r other ≡ Err (kind, other)) → Refusal S r ts
  here form zero placed goes same = own form tt placed goes (λ other s. itself r form other (same other s))
  here form (suc n) placed goes same = absurd placed
  here number zero placed goes same = own number tt placed goes (λ other s. itself r number other (same other s))
  here number (suc n) placed goes same = absurd placed
  here limit zero placed goes same = over placed goes (itself r limit ts (same ts (same_refl zero ts)))
  here limit (suc n) placed goes same =
      over (front_placed ts n placed) (goes.0, goes.1, same_head (suc n) ts goes.1 goes.2, goes.3)
      (itself r limit ts (same ts (same_refl (suc n) ts)))

  by_base : (kind : Kind) (rest separator : List Placed) (ahead : ℕ) → IsBetween separator → IsPlaced kind ahead rest
      → (base : List Placed)
      → ts ≡ base ++ (separator ++ rest) → ((x : X) × (more : List Placed) × S limit x (base ++ more))
      → ((x : X) × (other : List Placed) × Follows kind ahead rest other
      × S (earlier kind) x (base ++ (separator ++ other)))
      → ((other : List Placed) → Same ahead rest other → r (base ++ (separator ++ other)) ≡ Err (kind, other))
      → Refusal S r ts
  by_base kind rest separator ahead between placed (t ∷ base) whole before goes same =
      over (subst (λ (w : List Placed). IsPlaced limit zero w) (sym whole)
      (next_placed p h.items (t ∷ base ++ (separator ++ rest))
      (h.starts limit before.0 (t ∷ base ++ before.1) [] before.2))) (
        before.0,
        t ∷ base ++ before.1,
        subst (λ (w : List Placed). Same zero w (t ∷ base ++ before.1)) (sym whole) refl,
        e.looser limit before.0 (t ∷ base ++ before.1) before.2,
      )
      (subst (λ (w : List Placed). too_many r w ≡ Err (limit, w)) (sym whole)
      (later r kind t base separator rest (same rest (same_refl ahead rest))))
  by_base kind rest (s ∷ []) ahead between placed [] whole before goes same =
      absurd (no_item s.lexeme between (h.items s.lexeme (h.starts (earlier kind) goes.0 (s ∷ goes.1) [] goes.3)))
  by_base kind rest (s ∷ s' ∷ separator) ahead between placed [] whole before goes same = absurd between
  by_base kind rest [] ahead between placed [] whole before goes same =
      here kind ahead (subst (λ (w : List Placed). IsPlaced kind ahead w) (sym whole) placed)
      (goes.0, goes.1, subst (λ (w : List Placed). Follows kind ahead w goes.1) (sym whole) goes.2, goes.3)
      (λ other s. same other (subst (λ (w : List Placed). Same ahead w other) whole s))

-- a fault that comes before Limit isn't Limit
not_limit : {X : Type 0} (o : Out X) (k : Kind) (at : List Placed) → IsLater k limit → o ≡ Err (k, at)
    → o ≡ Err (limit, at) → ⊥
not_limit o k at l a b = subst (λ (j : Kind). IsLater j limit) (ap err_kind (sym a ∙ b)) l

-- what passes or fails later fails later where it is refused
refuse_passes : {X : Type 0} (k : Kind) (ts : List Placed) (o : Out X) (x : X) (rest : List Placed) → IsLater k limit
    → Passes k o x rest
    → (j : Kind) × (at : List Placed) × IsLater k j × (refuse ts o ≡ Err (j, at))
refuse_passes k ts o x rest l p = elim p [
  | inl y ↦ (limit, ts, l, rw y refl)
  | inr y ↦ by_length y.0 y.1 y.2 y.3 (nat_eq (length y.1) (length ts)) refl
] where
  by_length : (j : Kind) (at : List Placed) → IsLater k j → o ≡ Err (j, at) → (c : Bool)
      → nat_eq (length at) (length ts) ≡ c
      → (j : Kind) × (at : List Placed) × IsLater k j × (refuse ts o ≡ Err (j, at))
  by_length j at l' e true n = (j, ts, l', rw (e, n) refl)
  by_length j at l' e false n = (limit, ts, l, rw (e, n) refl)

-- ---- the laws

-- an item that is one too many is refused at its first token
pub exact_over : {X : Type 0} {S : Language X} {F : Tokens} {r : Reading X} (p : Lexeme → Bool) → Exact S F r
    → Starts S p → OverHere S F (too_many r)
exact_over {X = X} {S = S} {r = r} p e h = record {
  stuck = λ ts. elim (refusal p e h ts) [
    | own k l placed g same ↦ (k, placed, g, same)
    | over placed g here ↦ (limit, placed, g, λ other s. all other ts s here (refusal p e h other))
  ];
  passes = λ k x u rest s f l. refuse_passes k (u ++ rest) (r (u ++ rest)) x rest l (e.passes k x u rest s f);
} where
  all : (other ts : List Placed) → Same zero ts other → too_many r ts ≡ Err (limit, ts) → Refusal S r other
      → too_many r other ≡ Err (limit, other)
  all other ts s here (own k l placed g same) =
      absurd (not_limit (too_many r ts) k ts l (same ts (same_sym ts other s)) here)
  all other ts s here (over placed g here') = here'

-- so it is refused
pub over_here : {X : Type 0} {S : Language X} {F : Tokens} {o : Reading X} → OverHere S F o → Over S F o
over_here h = record {
  passes = h.passes;
  stuck = λ ts. let a = h.stuck ts in record {
    kind = a.0;
    rest = ts;
    spot = record { separator = []; ahead = zero; between = tt; placed = a.1 };
    whole = refl;
    goes = a.2;
    same = a.3;
  };
}

-- with a separator before it, it is refused after the separator
pub over_after : {X : Type 0} {S : Language X} {F : Tokens} {r o : Reading X} (separator : Lexeme)
    → separates separator ≡ true → Exact S F r
    → OverHere S F o → Over (λ k x. one separator · S k x) F (after separator o)
over_after {X = X} {S = S} {r = r} {o = o} separator divides e h = record {
  stuck = stuck;
  passes = λ k x u rest s f l. let b = h.passes k x s.1 rest s.4 f l in
      (b.0, b.1, b.2, rw (s.2, append_assoc s.0 s.1 rest, s.3.2, s.3.1, is_itself separator) b.3);
} where
  nowhere : (ts : List Placed) → ((other : List Placed) → Same zero ts other
      → after separator o other ≡ Err (form, other))
      → Refuses (λ k x. one separator · S k x) (after separator o) ts
  nowhere ts same = let a = some e in record {
    kind = form;
    rest = ts;
    spot = record { separator = []; ahead = zero; between = tt; placed = tt };
    whole = refl;
    same = same;
    goes = let t = somewhere separator in
        (a.0, t ∷ a.1, tt, (t ∷ [], a.1, refl, (t, refl, refl), within_limit e.looser form a.0 a.1 a.2));
  }

  by : (t : Placed) (ts : List Placed) (b : Bool) → is separator t.lexeme ≡ b
      → Refuses (λ k x. one separator · S k x) (after separator o) (t ∷ ts)
  by t ts true n = let a = h.stuck ts in let there = is_same separator t.lexeme n in record {
    kind = a.0;
    rest = ts;
    whole = refl;
    spot = record {
      separator = t ∷ [];
      ahead = zero;
      between = subst (λ (w : Lexeme). separates w ≡ true) (sym there) divides;
      placed = a.1;
    };
    goes = let g = a.2 in (g.0, g.1, g.2, (t ∷ [], g.1, refl, (t, there, refl), g.3));
    same = λ other s. rw n (a.3 other s);
  }
  by t ts false n = nowhere (t ∷ ts) (alike (after separator o) form t ts (λ us. rw n refl))

  stuck : (ts : List Placed) → Refuses (λ k x. one separator · S k x) (after separator o) ts
  stuck [] = nowhere [] (at_none (after separator o) form refl)
  stuck (t ∷ ts) = by t ts (is separator t.lexeme) refl
