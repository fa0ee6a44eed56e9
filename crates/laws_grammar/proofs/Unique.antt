-- A list of tokens has one fault at most.
use Rattle.std.proofs.Common.{◌≡◌, ℕ, zero, suc, Bool, true, false, ◌||◌, not, List, [], ◌∷◌, ◌++◌, refl, sym, ap, subst, ◌∙◌, append_assoc}
use Rattle.sour_tokens.specs.declared.symbols.Symbol.TheVariants.{Comma, Semicolon}
use Rattle.sour_lexer.specs.Placed.{Lexeme, Placed, Sign, Digits}
use Rattle.sour_raw.specs.declared.kind.Kind.{Kind}
use Rattle.sour_raw.specs.declared.kind.Kind.TheVariants.{Form as form, Number as number, Limit as limit}
use Rattle.sour_raw.specs.Spelling.{Language}
use Rattle.sour_raw.specs.Fault.{earlier, Same, IsBetween, IsPlaced, separates, decides, is_digits, may_begin_item, Follows, FaultAt}
use Rattle.laws_grammar.proofs.Same.{same_head}
use Rattle.laws_grammar.proofs.Kit.{IsLater, Looser, within_limit, within_form}

-- ---- what stands at a place

-- whether the token stands between the parts of an item
abbrev is_between : Lexeme → Bool
is_between t = separates t || decides t

-- digits don't
digits_part : (t : Lexeme) → is_digits t ≡ true → is_between t ≡ false
digits_part (Digits bytes) e = refl
digits_part other e = absurd cc

-- what begins an item doesn't
item_part : (t : Lexeme) → may_begin_item t ≡ true → is_between t ≡ false
item_part t e = by (is_between t) e where
  by : (b : Bool) → not b ≡ true → b ≡ false
  by true e = absurd cc
  by false e = refl

-- nor does the first token at a place of Number or Limit
placed_part : (k : Kind) (ahead : ℕ) (t : Placed) (m : List Placed) → IsLater form k → IsPlaced k ahead (t ∷ m)
    → is_between t.lexeme ≡ false
placed_part form ahead t m l p = absurd l
placed_part number zero t m l p = digits_part t.lexeme p
placed_part number (suc n) t m l p = absurd p
placed_part limit zero t m l p = item_part t.lexeme p
placed_part limit (suc zero) t [] l p = absurd p
placed_part limit (suc zero) t (u ∷ m) l p = item_part t.lexeme p.0
placed_part limit (suc (suc n)) t m l p = absurd p

-- what stands between the parts of an item isn't what doesn't
not_part : (a b : Bool) → (a || b) ≡ false → (a ≡ true → ⊥) × (b ≡ true → ⊥)
not_part true b e = absurd cc
not_part false true e = absurd cc
not_part false false e = (λ h. absurd cc, λ h. absurd cc)

-- no token both separates and decides
not_both : (t : Lexeme) → separates t ≡ true → decides t ≡ true → ⊥
not_both (Sign Comma) a b = absurd cc
not_both (Sign Semicolon) a b = absurd cc
not_both other a b = absurd cc

-- a fault of Form is known by its first token
form_same : (ahead : ℕ) (rest other : List Placed) → IsPlaced form ahead rest → Same zero rest other
    → Same ahead rest other
form_same zero rest other p h = h
form_same (suc n) rest other p h = absurd p

-- ---- two places

-- where two cuts of one list stand
data Cut (a c b d : List Placed) : Type 0 where
  sooner : (t : Placed) (m : List Placed) (e : c ≡ a ++ t ∷ m) (e' : b ≡ t ∷ m ++ d) → Cut a c b d
  later : (t : Placed) (m : List Placed) (e : a ≡ c ++ t ∷ m) (e' : d ≡ t ∷ m ++ b) → Cut a c b d
  equal : (e : a ≡ c) (e' : b ≡ d) → Cut a c b d

-- one stands before the other, or they are the same
cut : (a c b d : List Placed) → a ++ b ≡ c ++ d → Cut a c b d
cut [] [] b d e = equal refl e
cut [] (u ∷ c) b d e = sooner u c refl e
cut (t ∷ a) [] b d e = later t a refl (sym e)
cut (t ∷ a) (u ∷ c) b d e =
    let head : t ≡ u = cc in let tail : a ++ b ≡ c ++ d = cc in
    elim (cut a c b d tail) [
      | sooner v m x y ↦ sooner v m (rw (x, head) refl) y
      | later v m x y ↦ later v m (rw (x, head) refl) y
      | equal x y ↦ equal (rw (x, head) refl) y
    ]

-- a fault by all that stands before it
record Fault {X : Type 0} (S : Language X) (k : Kind) (front rest : List Placed) : Type 0 where
  pub ahead : ℕ
  pub placed : IsPlaced k ahead rest
  pub base : List Placed
  pub separator : List Placed
  pub between : IsBetween separator
  pub parts : front ≡ base ++ separator
  pub before : (x : X) × (more : List Placed) × S limit x (base ++ more)
  pub goes : (x : X) × (other : List Placed) × Follows k ahead rest other × S (earlier k) x (front ++ other)
  pub stops : (x : X) (other : List Placed) → Same ahead rest other → S k x (front ++ other) → ⊥

-- a fault is one
fault : {X : Type 0} {S : Language X} {k : Kind} {ts rest : List Placed} (a : FaultAt S k ts rest)
    → Fault S k (a.reached.base ++ a.reached.spot.separator) rest
fault {X = X} {S = S} {k = k} a = let b = a.reached in record {
  ahead = b.spot.ahead;
  placed = b.spot.placed;
  base = b.base;
  separator = b.spot.separator;
  between = b.spot.between;
  parts = refl;
  before = b.before;
  goes = let g = b.goes in (
    g.0,
    g.1,
    g.2,
    subst (λ (w : List Placed). S (earlier k) g.0 w)
        (sym (append_assoc b.base b.spot.separator g.1)) g.3,
  );
  stops = λ x other h s. a.stops x other h
      (subst (λ (w : List Placed). S k x w) (append_assoc b.base b.spot.separator other) s);
}

-- how a token before a fault stands to what is within the limits before it
data Stands (front base : List Placed) (t : Placed) (m separator : List Placed) : Type 0 where
  within : (n : List Placed) (e : base ≡ front ++ t ∷ n) (e' : m ≡ n ++ separator) → Stands front base t m separator
  at_separator : (s : separates t.lexeme ≡ true) → Stands front base t m separator

-- no more than one separator stands between
too_long : (separator : List Placed) (u : Placed) (n : List Placed) (t : Placed) (m : List Placed)
    → separator ≡ u ∷ n ++ t ∷ m → IsBetween separator → ⊥
too_long separator u [] t m q b = subst IsBetween q b
too_long separator u (v ∷ n) t m q b = subst IsBetween q b

-- a token before a fault is within the limits, or it is the separator
stands : (front base : List Placed) (t : Placed) (m separator : List Placed) → front ++ t ∷ m ≡ base ++ separator
    → IsBetween separator
    → Stands front base t m separator
stands front base t m separator e between = elim (cut base front separator (t ∷ m) (sym e)) [
  | sooner u n e1 e2 ↦ absurd (too_long separator u n t m e2 between)
  | later u n e1 e2 ↦ let head : t ≡ u = cc in let tail : m ≡ n ++ separator = cc in within n (rw head e1) tail
  | equal e1 e2 ↦ one m separator e2 between
] where
  one : (m separator : List Placed) → separator ≡ t ∷ m → IsBetween separator → Stands front base t m separator
  one [] separator q b = at_separator (subst IsBetween q b)
  one (v ∷ m) separator q b = absurd (subst IsBetween q b)

-- ---- no fault stands after another

-- the token after a variable that is one too many has no fault: with it something goes on
no_fault_after : {X : Type 0} (S : Language X) → Looser S → (front : List Placed) (t d : Placed) (rest : List Placed)
    → decides d.lexeme ≡ true
    → ((x : X) × (other : List Placed) × Same 1 (t ∷ d ∷ rest) other × S number x (front ++ other))
    → (j : Kind) → Fault S j (front ++ t ∷ []) (d ∷ rest) → ⊥
no_fault_after {X = X} S l front t d rest decided goes form b = go goes.0 goes.1 goes.2 goes.3 where
  go : (x : X) (other : List Placed) → Same 1 (t ∷ d ∷ rest) other → S number x (front ++ other) → ⊥
  go x [] h s = h
  go x (t' ∷ []) h s = h.1
  go x (t' ∷ d' ∷ other) h s =
      b.stops x (d' ∷ other) (form_same b.ahead (d ∷ rest) (d' ∷ other) b.placed h.1)
      (subst (λ (w : List Placed). S form x w) (sym (append_assoc front (t ∷ []) (d' ∷ other)))
      (subst (λ (w : Placed). S form x (front ++ (w ∷ d' ∷ other))) (sym h.0)
      (l number x (front ++ (t' ∷ d' ∷ other)) s)))
no_fault_after S l front t d rest decided goes number b =
    (not_part (separates d.lexeme) (decides d.lexeme) (placed_part number b.ahead d rest tt b.placed)).1 decided
no_fault_after S l front t d rest decided goes limit b =
    (not_part (separates d.lexeme) (decides d.lexeme) (placed_part limit b.ahead d rest tt b.placed)).1 decided

-- no fault stands after one of Number or Limit, where what is within the limits goes on after the first one's place
late : {X : Type 0} (S : Language X) → Looser S
    → (k : Kind) (front : List Placed) (t : Placed) (n separator rest : List Placed) → IsLater form k
    → (ahead : ℕ) → IsPlaced k ahead (t ∷ (n ++ separator) ++ rest) → IsBetween separator
    → ((x : X) (other : List Placed) → Same ahead (t ∷ (n ++ separator) ++ rest) other → S k x (front ++ other) → ⊥)
    → ((x : X) × (other : List Placed) × Follows k ahead (t ∷ (n ++ separator) ++ rest) other
    × S (earlier k) x (front ++ other))
    → (x : X) (more : List Placed) → S k x (front ++ (t ∷ n ++ more)) → (j : Kind)
    → Fault S j (front ++ (t ∷ n ++ separator)) rest → ⊥
late S l form front t n separator rest after ahead placed between stops goes x more s j b = after
late S l k front t n separator rest after zero placed between stops goes x more s j b = stops x (t ∷ n ++ more) refl s
late S l number front t n separator rest after (suc i) placed between stops goes x more s j b = placed
late S l limit front t n separator rest after (suc (suc i)) placed between stops goes x more s j b = placed
late S l limit front t (d ∷ n) separator rest after (suc zero) placed between stops goes x more s j b =
    stops x (t ∷ d ∷ n ++ more) (refl, refl) s
late S l limit front t [] (d ∷ []) rest after (suc zero) placed between stops goes x more s j b =
    not_both d.lexeme between placed.1
late S l limit front t [] (d ∷ u ∷ separator) rest after (suc zero) placed between stops goes x more s j b = between
late S l limit front t [] [] [] after (suc zero) placed between stops goes x more s j b = placed
late S l limit front t [] [] (d ∷ rest) after (suc zero) placed between stops goes x more s j b =
    no_fault_after S l front t d rest placed.1 goes j b

-- no fault stands after one of Number or Limit
after_late : {X : Type 0} (S : Language X) → Looser S → (front : List Placed) (t : Placed) (m rest : List Placed)
    → (k : Kind) → IsLater form k → Fault S k front (t ∷ m ++ rest) → (j : Kind) → Fault S j (front ++ t ∷ m) rest → ⊥
after_late {X = X} S l front t m rest k lt a j b = elim (stands front b.base t m b.separator b.parts b.between) [
  | at_separator s ↦
      (not_part (separates t.lexeme) (decides t.lexeme) (placed_part k a.ahead t (m ++ rest) lt a.placed)).0 s
  | within n e e' ↦
      let a' = subst (λ (w : List Placed). Fault S k front (t ∷ w ++ rest)) e' a in
      let b' = subst (λ (w : List Placed). Fault S j (front ++ t ∷ w) rest) e' b in
      let q = b.before in
      late S l k front t n b.separator rest lt a'.ahead a'.placed b.between a'.stops a'.goes q.0 q.1
      (subst (λ (w : List Placed). S k q.0 w) (ap (λ (w : List Placed). w ++ q.1) e ∙ append_assoc front (t ∷ n) q.1)
      (within_limit l k q.0 (b.base ++ q.1) q.2)) j b'
]

-- no fault stands after another
not_sooner : {X : Type 0} (S : Language X) → Looser S → (front : List Placed) (t : Placed) (m rest : List Placed)
    → (k : Kind) → Fault S k front (t ∷ m ++ rest) → (j : Kind) → Fault S j (front ++ t ∷ m) rest → ⊥
not_sooner {X = X} S l front t m rest form a j b =
    let g = b.goes in
    a.stops g.0 (t ∷ m ++ g.1) (form_same a.ahead (t ∷ m ++ rest) (t ∷ m ++ g.1) a.placed refl)
    (subst (λ (w : List Placed). S form g.0 w) (append_assoc front (t ∷ m) g.1)
    (within_form l j g.0 ((front ++ t ∷ m) ++ g.1) g.3))
not_sooner S l front t m rest number a j b = after_late S l front t m rest number tt a j b
not_sooner S l front t m rest limit a j b = after_late S l front t m rest limit tt a j b

-- ---- one kind at a place

-- at one place no fault is of a later kind
not_later : {X : Type 0} (S : Language X) → Looser S → (front rest : List Placed) (k j : Kind) → IsLater k j
    → Fault S k front rest → Fault S j front rest → ⊥
not_later S l front rest form number lt a b =
    let g = b.goes in a.stops g.0 g.1 (form_same a.ahead rest g.1 a.placed (same_head b.ahead rest g.1 g.2)) g.3
not_later S l front rest form limit lt a b =
    let g = b.goes in a.stops g.0 g.1 (form_same a.ahead rest g.1 a.placed (same_head b.ahead rest g.1 g.2))
    (l number g.0 (front ++ g.1) g.3)
not_later S l front rest number limit lt a b =
    let g = b.goes in a.stops g.0 g.1 (number_same a.ahead a.placed (same_head b.ahead rest g.1 g.2)) g.3 where
      number_same : (ahead : ℕ) → IsPlaced number ahead rest → Same zero rest b.goes.1 → Same ahead rest b.goes.1
      number_same zero p h = h
      number_same (suc n) p h = absurd p
not_later S l front rest k j lt a b = lt

-- at one place faults are of one kind
same_kind : {X : Type 0} (S : Language X) → Looser S → (front rest : List Placed) (k j : Kind) → Fault S k front rest
    → Fault S j front rest → k ≡ j
same_kind S l front rest form form a b = refl
same_kind S l front rest number number a b = refl
same_kind S l front rest limit limit a b = refl
same_kind S l front rest form number a b = absurd (not_later S l front rest form number tt a b)
same_kind S l front rest form limit a b = absurd (not_later S l front rest form limit tt a b)
same_kind S l front rest number limit a b = absurd (not_later S l front rest number limit tt a b)
same_kind S l front rest number form a b = absurd (not_later S l front rest form number tt b a)
same_kind S l front rest limit form a b = absurd (not_later S l front rest form limit tt b a)
same_kind S l front rest limit number a b = absurd (not_later S l front rest number limit tt b a)

-- ---- one fault

-- in a language whose kinds are one within the other, a list of tokens has one fault at most
pub fault_is_one : {X : Type 0} (S : Language X) → Looser S → (ts : List Placed) (k j : Kind) (rest other : List Placed)
    → FaultAt S k ts rest → FaultAt S j ts other → (k ≡ j) × (rest ≡ other)
fault_is_one S l ts k j rest other a b =
    let p = a.reached in let q = b.reached in
    let front = p.base ++ p.spot.separator in let front' = q.base ++ q.spot.separator in
    elim (cut front front' rest other
    (append_assoc p.base p.spot.separator rest ∙ sym p.whole ∙ q.whole
    ∙ sym (append_assoc q.base q.spot.separator other))) [
      | sooner t m e e' ↦
          absurd (not_sooner S l front t m other k (subst (Fault S k front) e' (fault a)) j
          (subst (λ (w : List Placed). Fault S j w other) e (fault b)))
      | later t m e e' ↦
          absurd (not_sooner S l front' t m rest j (subst (Fault S j front') e' (fault b)) k
          (subst (λ (w : List Placed). Fault S k w rest) e (fault a)))
      | equal e e' ↦ (
        same_kind S l front' other k j
            (subst (λ (w : List Placed). Fault S k w other) e (subst (Fault S k front) e' (fault a))) (fault b),
        e',
      )
    ]
