-- The law of a reading, and what keeps it.
use Rattle.std.proofs.Common.{◌≡◌, ℕ, zero, Bool, true, false, List, [], ◌++◌, Ok, Err, refl, sym, ap, subst, ◌∙◌, append_assoc, append-nil, inl, inr, ◌⊎◌}
use Rattle.sour_lexer.specs.Placed.{Lexeme, Placed}
use Rattle.sour_raw.specs.declared.kind.Kind.{Kind}
use Rattle.sour_raw.specs.declared.kind.Kind.TheVariants.{Form as form, Number as number, Limit as limit}
use Rattle.sour_raw.specs.Spelling.{Tokens, ◌·◌, Language}
use Rattle.sour_raw.specs.Fault.{earlier, Same, IsPlaced, Follows, Reaches, FaultAt}
use Rattle.sour_raw.specs.Combinators.{Out, Reading, ◌>>=◌, next, leading, mapped, choose, nothing}
use Rattle.laws_grammar.proofs.Same.{same_whole, same_reached, follows_more, next_same}

-- ---- the law

-- it took these tokens, and would take them before any others that begin so
pub record Took {X : Type 0} (S : Language X) (r : Reading X) (ts : List Placed) : Type 0 where
  pub front : List Placed
  pub rest : List Placed
  pub x : X
  pub whole : ts ≡ front ++ rest
  pub spelled : S limit x front
  pub same : (other : List Placed) → Same zero rest other → r (front ++ other) ≡ Ok (x, other)

-- it went so far, and would stop there before any others that begin so
pub record Stuck {X : Type 0} (S : Language X) (r : Reading X) (ts : List Placed) : Type 0 where
  pub kind : Kind
  pub rest : List Placed
  pub reached : Reaches S kind ts rest
  pub same : (other : List Placed) → Same reached.spot.ahead rest other
      → r (reached.base ++ (reached.spot.separator ++ other)) ≡ Err (kind, other)

-- it took a front, or is stuck
abbrev pub Verdict : {X : Type 0} → Language X → Reading X → List Placed → Type 0
Verdict S r ts = Took S r ts ⊎ Stuck S r ts

-- this front was taken
pub took : {X : Type 0} {S : Language X} {r : Reading X} {ts : List Placed} (front rest : List Placed) (x : X)
    → ts ≡ front ++ rest → S limit x front
    → ((other : List Placed) → Same zero rest other → r (front ++ other) ≡ Ok (x, other)) → Verdict S r ts
took front rest x whole spelled same =
    inl (record { front = front; rest = rest; x = x; whole = whole; spelled = spelled; same = same })

-- stuck at the first token, which takes so many more to be known
pub stuck_here : {X : Type 0} {S : Language X} {r : Reading X} {ts : List Placed} (kind : Kind) (ahead : ℕ)
    → IsPlaced kind ahead ts → ((x : X) × (more : List Placed) × S limit x more)
    → ((x : X) × (other : List Placed) × Follows kind ahead ts other × S (earlier kind) x other)
    → ((other : List Placed) → Same ahead ts other → r other ≡ Err (kind, other)) → Verdict S r ts
stuck_here {ts = ts} kind ahead placed before goes same = inr (record {
  kind = kind;
  rest = ts;
  same = same;
  reached = record {
    spot = record { separator = []; ahead = ahead; between = tt; placed = placed };
    base = [];
    whole = refl;
    before = before;
    goes = goes;
  };
})

-- the second kind comes later than the first
abbrev pub IsLater : Kind → Kind → Type 0
IsLater form form = ⊥
IsLater form number = Unit {0}
IsLater form limit = Unit {0}
IsLater number form = ⊥
IsLater number number = ⊥
IsLater number limit = Unit {0}
IsLater limit k = ⊥

-- it is read, or there is a fault of a later kind
abbrev pub Passes : {X : Type 0} → Kind → Out X → X → List Placed → Type 0
Passes k o x rest = (o ≡ Ok (x, rest)) ⊎ ((j : Kind) × (at : List Placed) × IsLater k j × (o ≡ Err (j, at)))

-- what is within a kind is within the one before
abbrev pub Looser : {X : Type 0} → Language X → Type 0
Looser {X} S = (k : Kind) (x : X) (u : List Placed) → S k x u → S (earlier k) x u

-- what is spelled within a kind is read, or fails by a later kind, before a rest that F allows
abbrev pub PassesAll : {X : Type 0} → Language X → Tokens → Reading X → Type 0
PassesAll {X} S F r = (k : Kind) (x : X) (u rest : List Placed) → S k x u → F rest → Passes k (r (u ++ rest)) x rest

-- the reading reads exactly what is spelled, and stops exactly where nothing goes on; F says what may follow
pub record Exact {X : Type 0} (S : Language X) (F : Tokens) (r : Reading X) : Type 0 where
  pub verdict : (ts : List Placed) → Verdict S r ts
  pub passes : PassesAll S F r
  pub looser : Looser S

-- anything may follow
abbrev pub Any : Tokens
Any ts = Unit {0}

-- what is within the limits is read
pub again : {X : Type 0} {S : Language X} {F : Tokens} {r : Reading X} → Exact S F r → (x : X) (u rest : List Placed)
    → S limit x u → F rest → r (u ++ rest) ≡ Ok (x, rest)
again e x u rest s f = elim (e.passes limit x u rest s f) [ inl y ↦ y | inr y ↦ absurd y.2 ]

-- something is spelled within the limits
abbrev pub IsSpelled : {X : Type 0} → Language X → Type 0
IsSpelled {X} S = (x : X) × (u : List Placed) × S limit x u

-- where a reading is exact, something is spelled within the limits
pub some : {X : Type 0} {S : Language X} {F : Tokens} {r : Reading X} → Exact S F r → IsSpelled S
some e = elim (e.verdict []) [
  | inl a ↦ (a.x, a.front, a.spelled)
  | inr a ↦ let b = a.reached in (b.before.0, b.base ++ b.before.1, b.before.2)
]

-- what is within the limits is within each kind
pub within_limit : {X : Type 0} {S : Language X} → Looser S → (k : Kind) (x : X) (u : List Placed) → S limit x u
    → S k x u
within_limit l form x u s = l number x u (l limit x u s)
within_limit l number x u s = l limit x u s
within_limit l limit x u s = s

-- what is within a kind before another is of the form
pub within_form : {X : Type 0} {S : Language X} → Looser S → (k : Kind) (x : X) (u : List Placed) → S (earlier k) x u
    → S form x u
within_form l form x u s = s
within_form l number x u s = s
within_form l limit x u s = l number x u s

-- what follows passes, so the whole does
pub passes_bind : {A X : Type 0} (k : Kind) (o : Out A) (f : A × List Placed → Out X) (a : A) (mid : List Placed)
    (x : X) (rest : List Placed)
    → Passes k o a mid → Passes k (f (a, mid)) x rest → Passes k (o >>= f) x rest
passes_bind k o f a mid x rest p q = elim p [
  | inl e ↦ rw e q
  | inr e ↦ inr (e.0, e.1, e.2, rw e.3 refl)
]

-- what goes on in the same way from each value goes on in the same way
pub bind_same : {A X : Type 0} (o : Out A) (f g : A × List Placed → Out X)
    → ((a : A × List Placed) → o ≡ Ok a → f a ≡ g a) → (o >>= f) ≡ (o >>= g)
bind_same (Ok a) f g h = h a refl
bind_same (Err e) f g h = refl

-- ---- another view of the same

-- a place that is reached, seen in a language that says as much
abbrev pub reaches_to : {X Y : Type 0} {S : Language X} {S' : Language Y} {kind : Kind} {ts rest : List Placed}
    → ((k : Kind) (x : X) (u : List Placed) → S k x u → (y : Y) × S' k y u) → Reaches S kind ts rest
    → Reaches S' kind ts rest
reaches_to {kind = kind} to a = record {
  spot = a.spot;
  base = a.base;
  whole = a.whole;
  before = let b = to limit a.before.0 (a.base ++ a.before.1) a.before.2 in (b.0, a.before.1, b.1);
  goes = let g = a.goes in
      let b = to (earlier kind) g.0 (a.base ++ (a.spot.separator ++ g.1)) g.3 in (b.0, g.1, g.2, b.1);
}

-- a verdict, carried to another language and reading, where g makes values of values
pub verdict_to : {X Y : Type 0} {S : Language X} {S' : Language Y} {r : Reading X} {r' : Reading Y} {ts : List Placed}
    (g : X → Y)
    → ((x : X) (u rest : List Placed) → ts ≡ u ++ rest → S limit x u → S' limit (g x) u)
    → ((k : Kind) (x : X) (u : List Placed) → S k x u → (y : Y) × S' k y u)
    → ((all : List Placed) → Same zero ts all → r' all ≡ (r all >>= λ a. Ok (g a.0, a.1)))
    → Verdict S r ts → Verdict S' r' ts
verdict_to {ts = ts} g took' to reads v = elim v [
  | inl a ↦ took a.front a.rest (g a.x) a.whole (took' a.x a.front a.rest a.whole a.spelled)
      (λ other h. rw (reads (a.front ++ other) (same_whole ts a.front a.rest other a.whole h), a.same other h) refl)
  | inr a ↦ inr (record {
    kind = a.kind;
    rest = a.rest;
    reached = reaches_to to a.reached;
    same = λ other h. let b = a.reached in
        rw (reads (b.base ++ (b.spot.separator ++ other)) (same_reached b other h), a.same other h) refl;
  })
]

-- nothing is changed by a value that is taken apart and put together
pub same_out : {X : Type 0} (o : Out X) → o ≡ (o >>= λ a. Ok (a.0, a.1))
same_out (Ok x) = refl
same_out (Err e) = refl

-- both say the same of each value
abbrev pub Says : {X : Type 0} → Language X → Language X → Type 0
Says {X} S S' = (k : Kind) (x : X) (u : List Placed) → S k x u → S' k x u

-- the law goes over to a language that says the same
pub exact_as : {X : Type 0} {S S' : Language X} {F : Tokens} {r : Reading X} → Exact S F r → Says S S' → Says S' S
    → Exact S' F r
exact_as {r = r} e to back = record {
  verdict = λ ts. verdict_to (λ x. x) (λ x u rest whole s. to limit x u s) (λ k x u s. (x, to k x u s))
      (λ all h. same_out (r all)) (e.verdict ts);
  passes = λ k x u rest s f. e.passes k x u rest (back k x u s) f;
  looser = λ k x u s. to (earlier k) x u (e.looser k x u (back k x u s));
}

-- what g makes of what is spelled so
abbrev pub image : {A X : Type 0} → (A → X) → Language A → Language X
image {A} g S k x u = (a : A) × (g a ≡ x) × S k a u

-- the verdict of what g makes of another
pub verdict_image : {A X : Type 0} {S : Language A} {r : Reading A} {ts : List Placed} (g : A → X) → Verdict S r ts
    → Verdict (image g S) (mapped g r) ts
verdict_image g v = verdict_to g (λ a u rest whole s. (a, refl, s)) (λ k a u s. (g a, (a, refl, s))) (λ all h. refl) v

-- the law of what g makes of another
pub exact_image : {A X : Type 0} {S : Language A} {F : Tokens} {r : Reading A} (g : A → X) → Exact S F r
    → Exact (image g S) F (mapped g r)
exact_image g e = record {
  verdict = λ ts. verdict_image g (e.verdict ts);
  passes = λ k x u rest s f. elim (e.passes k s.0 u rest s.2 f) [
    | inl y ↦ inl (rw y (ap (λ z. Ok (z, rest)) s.1))
    | inr y ↦ inr (y.0, y.1, y.2, rw y.3 refl)
  ];
  looser = λ k x u s. (s.0, s.1, e.looser k s.0 u s.2);
}

-- out of an image, into what says the same of what was made
pub out : {A X : Type 0} {g : A → X} {x : X} {k : Kind} {u : List Placed} (S' : Language X)
    → (m : (a : A) × (g a ≡ x) × S' k (g a) u) → S' k x u
out {X = X} {k = k} {u = u} S' m = subst (λ (y : X). S' k y u) m.1 m.2

-- the law with fewer tokens that may follow
pub exact_weaker : {X : Type 0} {S : Language X} {F F' : Tokens} {r : Reading X} → Exact S F r
    → ((ts : List Placed) → F' ts → F ts) → Exact S F' r
exact_weaker e f = record {
  verdict = e.verdict;
  passes = λ k x u rest s f'. e.passes k x u rest s (f rest f');
  looser = e.looser;
}

-- what may be followed by anything may be followed by F
pub exact_any : {X : Type 0} {S : Language X} {F : Tokens} {r : Reading X} → Exact S Any r → Exact S F r
exact_any e = exact_weaker e (λ ts f. tt)

-- x, with no token
abbrev pub empty : {X : Type 0} → X → Language X
empty x k y ts = (y ≡ x) × (ts ≡ [])

-- the law of nothing
pub exact_nothing : {X : Type 0} (x : X) → Exact (empty x) Any (nothing x)
exact_nothing x = record {
  verdict = λ ts. took [] ts x refl (refl, refl) (λ other h. refl);
  passes = λ k y u rest s f. inl (rw (s.0, s.1) refl);
  looser = λ k y u s. s;
}

-- ---- one, and then what it leads to

-- one, and then what it leads to
abbrev pub leads : {A X : Type 0} → Language A → (A → Language X) → Language X
leads {A} SA SK k x u = (a : A) × (SA k a · SK a k x) u

-- the first is read and the place is reached in what it leads to
abbrev pub reaches_after : {A X : Type 0} {SA : Language A} {SK : A → Language X} {kind : Kind}
    {ts mid rest : List Placed} → Looser SA
    → (a : A) (front : List Placed) → ts ≡ front ++ mid → SA limit a front → Reaches (SK a) kind mid rest
    → Reaches (leads SA SK) kind ts rest
reaches_after {kind = kind} {rest = rest} l a front whole s b = record {
  spot = b.spot;
  base = front ++ b.base;
  whole = whole ∙ ap (λ (t : List Placed). front ++ t) b.whole
      ∙ sym (append_assoc front b.base (b.spot.separator ++ rest));
  before = (
    b.before.0,
    b.before.1,
    (a, (front, b.base ++ b.before.1, append_assoc front b.base b.before.1, s, b.before.2)),
  );
  goes = let g = b.goes in let more = b.base ++ (b.spot.separator ++ g.1) in (
    g.0,
    g.1,
    g.2,
    (
      a,
      (
        front,
        more,
        append_assoc front b.base (b.spot.separator ++ g.1),
        within_limit l (earlier kind) a front s,
        g.3,
      ),
    ),
  );
}

-- more after the last of three
pub longer : (base separator other more : List Placed)
    → base ++ (separator ++ (other ++ more)) ≡ (base ++ (separator ++ other)) ++ more
longer base separator other more = simp append_assoc

-- the place is reached in the first, and something goes on with what each first one leads to
abbrev pub reaches_first : {A X : Type 0} {SA : Language A} {SK : A → Language X} {kind : Kind} {ts rest : List Placed}
    → ((a : A) → IsSpelled (SK a)) → ((a : A) → Looser (SK a)) → Reaches SA kind ts rest
    → Reaches (leads SA SK) kind ts rest
reaches_first {kind = kind} {rest = rest} spelled l a = record {
  spot = a.spot;
  base = a.base;
  whole = a.whole;
  before = let b = spelled a.before.0 in (
    b.0,
    a.before.1 ++ b.1,
    (
      a.before.0,
      (a.base ++ a.before.1, b.1, sym (append_assoc a.base a.before.1 b.1), a.before.2, b.2),
    ),
  );
  goes = let g = a.goes in let b = spelled g.0 in let there = a.base ++ (a.spot.separator ++ g.1) in (
    b.0,
    g.1 ++ b.1,
    follows_more kind a.spot.ahead rest g.1 b.1 a.spot.placed g.2,
    (g.0, (there, b.1, longer a.base a.spot.separator g.1 b.1, g.3, within_limit (l g.0) (earlier kind) b.0 b.1 b.2)),
  );
}

-- the verdict of both, where the first is read
pub verdict_after : {A X : Type 0} {SA : Language A} {SK : A → Language X} {ra : Reading A} {ts : List Placed}
    (k : A → Reading X) → Looser SA
    → (a : Took SA ra ts) → Verdict (SK a.x) (k a.x) a.rest → Verdict (leads SA SK) (leading ra k) ts
verdict_after {ra = ra} k l a v = elim v [
  | inl b ↦ took (a.front ++ b.front) b.rest b.x
      (a.whole ∙ ap (λ (t : List Placed). a.front ++ t) b.whole ∙ sym (append_assoc a.front b.front b.rest))
      (a.x, (a.front, b.front, refl, a.spelled, b.spelled))
      (λ other h. let first = a.same (b.front ++ other) (same_whole a.rest b.front b.rest other b.whole h) in
      rw (append_assoc a.front b.front other, first) (b.same other h))
  | inr b ↦ inr (record {
    kind = b.kind;
    rest = b.rest;
    reached = reaches_after l a.x a.front a.whole a.spelled b.reached;
    same = λ other h. let more = b.reached.base ++ (b.reached.spot.separator ++ other) in
        let first = a.same more (same_reached b.reached other h) in
        rw (append_assoc a.front b.reached.base (b.reached.spot.separator ++ other), first) (b.same other h);
  })
]

-- the verdict of both, where the first is stuck
pub stuck_first : {A X : Type 0} {SA : Language A} {SK : A → Language X} {ra : Reading A} {ts : List Placed}
    (k : A → Reading X)
    → ((a : A) → IsSpelled (SK a)) → ((a : A) → Looser (SK a)) → Stuck SA ra ts → Stuck (leads SA SK) (leading ra k) ts
stuck_first k spelled l a = record {
  kind = a.kind;
  rest = a.rest;
  reached = reaches_first spelled l a.reached;
  same = λ other h. rw (a.same other h) refl;
}

-- both pass
pub passes_after : {A X : Type 0} {SA : Language A} {SK : A → Language X} {FA F : Tokens} (ra : Reading A)
    (k : A → Reading X)
    → PassesAll SA FA ra → ((a : A) → PassesAll (SK a) F (k a))
    → ((j : Kind) (a : A) (x : X) (v rest : List Placed) → SK a j x v → F rest → FA (v ++ rest))
    → PassesAll (leads SA SK) F (leading ra k)
passes_after ra k pa pk follows j x w rest s f =
    let p = s.1 in
    rw (p.2, append_assoc p.0 p.1 rest)
    (passes_bind j (ra (p.0 ++ (p.1 ++ rest))) _ s.0 (p.1 ++ rest) x rest
    (pa j s.0 p.0 (p.1 ++ rest) p.3 (follows j s.0 x p.1 rest p.4 f)) (pk s.0 j x p.1 rest p.4 f))

-- the law of one, and then what it leads to
pub exact_then : {A X : Type 0} {SA : Language A} {SK : A → Language X} {FA F : Tokens} {ra : Reading A}
    {k : A → Reading X}
    → Exact SA FA ra → ((a : A) → Exact (SK a) F (k a))
    → ((j : Kind) (a : A) (x : X) (v rest : List Placed) → SK a j x v → F rest → FA (v ++ rest))
    → Exact (leads SA SK) F (leading ra k)
exact_then {ra = ra} {k = k} ea ek follows = record {
  verdict = λ ts. elim (ea.verdict ts) [
    | inl a ↦ verdict_after k ea.looser a ((ek a.x).verdict a.rest)
    | inr a ↦ inr (stuck_first k (λ a. some (ek a)) (λ a. (ek a).looser) a)
  ];
  passes = passes_after ra k ea.passes (λ a. (ek a).passes) follows;
  looser = λ j x w s. let p = s.1 in (s.0, (p.0, p.1, p.2, ea.looser j s.0 p.0 p.3, (ek s.0).looser j x p.1 p.4));
}

-- ---- by the next token

-- what is spelled by one of two
abbrev pub either : {X : Type 0} → Language X → Language X → Language X
either S S' k x ts = S k x ts ⊎ S' k x ts

-- before what may follow, the first token of each value is one of which p says this
abbrev pub Heads : {X : Type 0} → (Lexeme → Bool) → Bool → Language X → Tokens → Type 0
Heads {X} p b S F = (k : Kind) (x : X) (u rest : List Placed) → S k x u → F rest → next p (u ++ rest) ≡ b

-- the law of one or the other by the next token
pub exact_choose : {X : Type 0} {S S' : Language X} {F : Tokens} {r s : Reading X} (p : Lexeme → Bool) → Exact S F r
    → Exact S' F s
    → Heads p true S F → Heads p false S' F → Exact (either S S') F (choose p r s)
exact_choose {S = S} {S' = S'} {r = r} {s = s} p er es here there = record {
  verdict = λ ts. chosen ts (next p ts) refl;
  passes = λ k x u rest h f. elim h [
    | inl a ↦ rw (here k x u rest a f) (er.passes k x u rest a f)
    | inr a ↦ rw (there k x u rest a f) (es.passes k x u rest a f)
  ];
  looser = λ k x u h. elim h [ inl a ↦ inl (er.looser k x u a) | inr a ↦ inr (es.looser k x u a) ];
} where
  chosen : (ts : List Placed) (b : Bool) → next p ts ≡ b → Verdict (either S S') (choose p r s) ts
  chosen ts true n = verdict_to (λ x. x) (λ x u rest whole a. inl a) (λ k x u a. (x, inl a))
      (λ all h. rw (next_same p ts all h ∙ n) (same_out (r all))) (er.verdict ts)
  chosen ts false n = verdict_to (λ x. x) (λ x u rest whole a. inr a) (λ k x u a. (x, inr a))
      (λ all h. rw (next_same p ts all h ∙ n) (same_out (s all))) (es.verdict ts)

-- each of these lists begins with a token of which p says this
abbrev pub Begins : (Lexeme → Bool) → Bool → Tokens → Type 0
Begins p b A = (u rest : List Placed) → A u → next p (u ++ rest) ≡ b

-- the first of two begins them
pub begins_first : (p : Lexeme → Bool) (b : Bool) (A B : Tokens) → Begins p b A → Begins p b (A · B)
begins_first p b A B h w rest s = rw (s.2, append_assoc s.0 s.1 rest) (h s.0 (s.1 ++ rest) s.3)

-- what begins with a token isn't empty
pub begins_full : (p : Lexeme → Bool) {A : Tokens} → Begins p true A → A [] → ⊥
begins_full p h s = let e = h [] [] s in absurd cc

-- ---- the fault

-- nothing is a fault and a value
clash : {X : Type 0} (o : Out X) (k : Kind) (at : List Placed) (x : X) (rest : List Placed) → o ≡ Err (k, at)
    → o ≡ Ok (x, rest) → ⊥
clash o k at x rest e e' = absurd cc

-- the kind of a fault
abbrev pub err_kind : {X : Type 0} → Out X → Kind
err_kind (Ok x) = number
err_kind (Err e) = e.0

-- no kind comes later than itself
not_later : (k : Kind) → IsLater k k → ⊥
not_later form l = l
not_later number l = l
not_later limit l = l

-- a fault isn't one of a later kind
late_clash : {X : Type 0} (o : Out X) (k j : Kind) (at at' : List Placed) → IsLater k j → o ≡ Err (k, at)
    → o ≡ Err (j, at') → ⊥
late_clash o k j at at' l e e' = not_later k (subst (IsLater k) (ap err_kind (sym e' ∙ e)) l)

-- where a reading of a whole text is stuck, the text has its fault
pub fault_at : {X : Type 0} {S : Language X} {F : Tokens} {r : Reading X} → Exact S F r → F []
    → (ts : List Placed) (a : Stuck S r ts)
    → FaultAt S a.kind ts a.rest
fault_at {X = X} {S = S} {r = r} e free ts a = record {
  reached = a.reached;
  stops = λ x other h s.
      let u = a.reached.base ++ (a.reached.spot.separator ++ other) in
      elim (subst (λ (w : List Placed). Passes a.kind (r w) x []) (append-nil u) (e.passes a.kind x u [] s free)) [
        | inl y ↦ clash (r u) a.kind other x [] (a.same other h) y
        | inr y ↦ late_clash (r u) a.kind y.0 other y.1 y.2 (a.same other h) y.3
      ];
}
