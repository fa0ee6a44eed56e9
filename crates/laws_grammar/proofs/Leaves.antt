-- The laws of single tokens, and of what stands beside them.
use Rattle.std.proofs.Common.{◌≡◌, ℕ, zero, Bool, true, false, List, [], ◌∷◌, ◌++◌, Option, Some, None, Ok, Err, refl, sym, ap, subst, ◌∙◌, append-nil, inl, inr}
use Rattle.sour_lexer.specs.Placed.{Lexeme, Placed}
use Rattle.sour_raw.specs.declared.kind.Kind.{Kind}
use Rattle.sour_raw.specs.declared.kind.Kind.TheVariants.{Form as form, Number as number, Limit as limit}
use Rattle.sour_raw.specs.Lexemes.{is}
use Rattle.sour_raw.specs.Spelling.{Tokens, ◌·◌, one, from_line, line_of, Language}
use Rattle.sour_raw.specs.Fault.{earlier, Same, IsPlaced, Follows}
use Rattle.sour_raw.specs.Combinators.{Reading, ◌>>=◌, next, this, after, ended, both, lined, at_end, complete}
use Rattle.sour_raw.specs.Words.{Within, word, saying, said, word_at, saying_at}
use Rattle.laws_grammar.proofs.Lexemes.{is_same, is_itself}
use Rattle.laws_grammar.proofs.Kit.{Verdict, took, stuck_here, IsLater, Passes, Exact, Any, verdict_to, exact_as, empty, exact_then, exact_image, Begins, begins_first}

-- ---- where a token doesn't fit

-- stuck with Form at the first token, where something is spelled
pub stuck_form : {X : Type 0} {S : Language X} {r : Reading X} (x : X) (u v : List Placed) → S limit x u → S form x v
    → (ts : List Placed) → ((other : List Placed) → Same zero ts other → r other ≡ Err (form, other)) → Verdict S r ts
stuck_form x u v s s' ts same = stuck_here form zero tt (x, u, s) (x, v, tt, s') same

-- what fails at a token fails at it before any others
pub alike : {X : Type 0} (r : Reading X) (k : Kind) (t : Placed) (ts : List Placed)
    → ((us : List Placed) → r (t ∷ us) ≡ Err (k, t ∷ us))
    → (other : List Placed) → Same zero (t ∷ ts) other → r other ≡ Err (k, other)
alike r k t ts e [] h = absurd h
alike r k t ts e (u ∷ us) h = subst (λ (w : Placed). r (w ∷ us) ≡ Err (k, w ∷ us)) h (e us)

-- what fails at the end fails there
pub at_none : {X : Type 0} (r : Reading X) (k : Kind) → r [] ≡ Err (k, []) → (other : List Placed) → Same zero [] other
    → r other ≡ Err (k, other)
at_none r k e [] h = e
at_none r k e (u ∷ us) h = absurd h

-- the token, at some place
abbrev pub somewhere : Lexeme → Placed
somewhere lexeme = record { lexeme = lexeme; line = 0; column = 0 }

-- ---- a token that says something

-- before its own kind a test asks for nothing
pub free_before : (kind : Kind) → IsLater form kind → (b : Bool) → Within kind (earlier kind) b
free_before form l b = absurd l
free_before number l b = tt
free_before limit l b = tt

-- what passes the test is within each kind
pub within_all : (kind k : Kind) (b : Bool) → b ≡ true → Within kind k b
within_all number form b e = tt
within_all limit form b e = tt
within_all limit number b e = tt
within_all kind k b e = e

-- what is within a kind is within the one before
pub within_looser : (kind k : Kind) (b : Bool) → Within kind k b → Within kind (earlier k) b
within_looser number number b e = tt
within_looser limit limit b e = tt
within_looser kind k b e = e

-- what is within a kind without passing the test fails by a later one
pub within_false : (kind k : Kind) → IsLater form kind → Within kind k false → IsLater k kind
within_false form k l w = absurd l
within_false number form l w = tt
within_false limit form l w = tt
within_false limit number l w = tt
within_false kind k l w = absurd cc

-- a list goes on with its own first token
pub follows_head : (kind : Kind) (t : Placed) (ts us : List Placed) → Follows kind zero (t ∷ ts) (t ∷ us)
follows_head form t ts us = tt
follows_head number t ts us = refl
follows_head limit t ts us = refl

-- the law of a token that says something, where some token says what passes the test
pub exact_word : {X : Type 0} (says : Lexeme → Option X) (kind : Kind) (allowed : X → Bool) → IsLater form kind
    → ((t : Placed) (x : X) (ts : List Placed) → says t.lexeme ≡ Some x → allowed x ≡ false
    → IsPlaced kind zero (t ∷ ts))
    → (lexeme : Lexeme) (x : X) → says lexeme ≡ Some x → allowed x ≡ true
    → Exact (word says kind allowed) Any (word_at says kind allowed)
exact_word {X = X} says kind allowed late placed lexeme x0 e0 a0 = record {
  verdict = verdict;
  passes = λ k x u rest s f. rw (s.2, s.1) (passed k x s.0 rest (allowed x) refl s.3);
  looser = λ k x u s. (s.0, s.1, s.2, within_looser kind k (allowed x) s.3);
} where
  spelled : (k : Kind) → word says kind allowed k x0 (somewhere lexeme ∷ [])
  spelled k = (somewhere lexeme, e0, refl, within_all kind k (allowed x0) a0)

  nowhere : (ts : List Placed) → ((other : List Placed) → Same zero ts other
      → word_at says kind allowed other ≡ Err (form, other))
      → Verdict (word says kind allowed) (word_at says kind allowed) ts
  nowhere = stuck_form x0 (somewhere lexeme ∷ []) (somewhere lexeme ∷ []) (spelled limit) (spelled form)

  by : (t : Placed) (ts : List Placed) (x : X) → says t.lexeme ≡ Some x → (b : Bool) → allowed x ≡ b
      → Verdict (word says kind allowed) (word_at says kind allowed) (t ∷ ts)
  by t ts x e true a =
      took (t ∷ []) ts x refl (t, e, refl, within_all kind limit (allowed x) a) (λ other h. rw (e, a) refl)
  by t ts x e false a =
      stuck_here kind zero (placed t x ts e a) (x0, somewhere lexeme ∷ [], spelled limit)
      (x, t ∷ [], follows_head kind t ts [], (t, e, refl, free_before kind late (allowed x)))
      (alike (word_at says kind allowed) kind t ts (λ us. rw (e, a) refl))

  here : (t : Placed) (ts : List Placed) (o : Option X) → says t.lexeme ≡ o
      → Verdict (word says kind allowed) (word_at says kind allowed) (t ∷ ts)
  here t ts None e = nowhere (t ∷ ts) (alike (word_at says kind allowed) form t ts (λ us. rw e refl))
  here t ts (Some x) e = by t ts x e (allowed x) refl

  verdict : (ts : List Placed) → Verdict (word says kind allowed) (word_at says kind allowed) ts
  verdict [] = nowhere [] (at_none (word_at says kind allowed) form refl)
  verdict (t ∷ ts) = here t ts (says t.lexeme) refl

  passed : (k : Kind) (x : X) (t : Placed) (rest : List Placed) (b : Bool) → allowed x ≡ b → Within kind k (allowed x)
      → Passes k (said kind allowed t rest (Some x)) x rest
  passed k x t rest true a w = inl (rw a refl)
  passed k x t rest false a w = inr (kind, t ∷ rest, within_false kind k late (subst (Within kind k) a w), rw a refl)

-- with which token a token that says something begins
pub begins_word : {X : Type 0} (says : Lexeme → Option X) (kind : Kind) (allowed : X → Bool) (p : Lexeme → Bool)
    (b : Bool)
    → ((t : Lexeme) (x : X) → says t ≡ Some x → p t ≡ b) → (k : Kind) (x : X) → Begins p b (word says kind allowed k x)
begins_word says kind allowed p b h k x u rest s = rw s.2 (h s.0.lexeme x s.1)

-- the law of a token that says something, of which nothing is tested
pub exact_saying : {X : Type 0} (says : Lexeme → Option X) → (lexeme : Lexeme) (x : X) → says lexeme ≡ Some x
    → Exact (saying says) Any (saying_at says)
exact_saying says lexeme x e =
    exact_as (exact_word says limit (λ y. true) tt (λ t y ts e' no'. absurd cc) lexeme x e refl)
    (λ k y u s. (s.0, s.1, s.2)) (λ k y u s. (s.0, s.1, s.2, within_all limit k true refl))

-- ---- this very token

-- the law of this very token
pub exact_this : (lexeme : Lexeme) → Exact (λ k (x : Unit {0}). one lexeme) Any (this lexeme)
exact_this lexeme = record {
  verdict = verdict;
  passes = λ k x u rest s f. inl (rw (s.2, s.1, is_itself lexeme) refl);
  looser = λ k x u s. s;
} where
  spelled : one lexeme (somewhere lexeme ∷ [])
  spelled = (somewhere lexeme, refl, refl)

  nowhere : (ts : List Placed) → ((other : List Placed) → Same zero ts other → this lexeme other ≡ Err (form, other))
      → Verdict (λ k (x : Unit {0}). one lexeme) (this lexeme) ts
  nowhere = stuck_form tt (somewhere lexeme ∷ []) (somewhere lexeme ∷ []) spelled spelled

  by : (t : Placed) (ts : List Placed) (b : Bool) → is lexeme t.lexeme ≡ b
      → Verdict (λ k (x : Unit {0}). one lexeme) (this lexeme) (t ∷ ts)
  by t ts true e = took (t ∷ []) ts tt refl (t, is_same lexeme t.lexeme e, refl) (λ other h. rw e refl)
  by t ts false e = nowhere (t ∷ ts) (alike (this lexeme) form t ts (λ us. rw e refl))

  verdict : (ts : List Placed) → Verdict (λ k (x : Unit {0}). one lexeme) (this lexeme) ts
  verdict [] = nowhere [] (at_none (this lexeme) form refl)
  verdict (t ∷ ts) = by t ts (is lexeme t.lexeme) refl

-- this token comes next
abbrev pub Next : Lexeme → Tokens
Next lexeme ts = next (is lexeme) ts ≡ true

-- what a test says of the token that comes next
pub next_is : (lexeme : Lexeme) (p : Lexeme → Bool) (b : Bool) → p lexeme ≡ b → (ts : List Placed) → Next lexeme ts
    → next p ts ≡ b
next_is lexeme p b e [] n = absurd cc
next_is lexeme p b e (t ∷ ts) n = rw (is_same lexeme t.lexeme n) e

-- this token begins itself
pub begins_one : (p : Lexeme → Bool) (b : Bool) (lexeme : Lexeme) → p lexeme ≡ b → Begins p b (one lexeme)
begins_one p b lexeme e u rest s = rw (s.2, s.1) e

-- this token begins what stands after it
pub headed : (lexeme : Lexeme) (p : Lexeme → Bool) (b : Bool) {A : Tokens} → p lexeme ≡ b → Begins p b (one lexeme · A)
headed lexeme p b {A = A} e = begins_first p b (one lexeme) A (begins_one p b lexeme e)

-- ---- two, one after the other

-- the first, and then the second, as the first says
abbrev pub pairs : {A B : Type 0} → Language A → (A → Language B) → Language (A × B)
pairs SA SB k p = SA k p.0 · SB p.0 k p.1

-- the law of two, where FA says what may follow the first
pub exact_both : {A B : Type 0} {SA : Language A} {SB : A → Language B} {FA F : Tokens} {ra : Reading A}
    {rb : A → Reading B}
    → Exact SA FA ra → ((a : A) → Exact (SB a) F (rb a))
    → ((k : Kind) (a : A) (b : B) (v rest : List Placed) → SB a k b v → F rest → FA (v ++ rest))
    → Exact (pairs SA SB) F (both ra rb)
exact_both {A = A} {B = B} {SA = SA} {SB = SB} ea eb follows =
    exact_as (exact_then ea (λ a. exact_image (λ (b : B). (a, b)) (eb a))
    (λ k a p v rest s f. follows k a s.0 v rest s.2 f))
    (λ k p u s. subst (λ (q : A × B). (SA k q.0 · SB q.0 k q.1) u) s.1.4.1 (s.1.0, s.1.1, s.1.2, s.1.3, s.1.4.2))
    (λ k p u s. (p.0, (s.0, s.1, s.2, s.3, (p.1, refl, s.4))))

-- the law of two, where anything may follow the first
pub exact_free : {A B : Type 0} {SA : Language A} {SB : A → Language B} {F : Tokens} {ra : Reading A}
    {rb : A → Reading B}
    → Exact SA Any ra → ((a : A) → Exact (SB a) F (rb a)) → Exact (pairs SA SB) F (both ra rb)
exact_free ea eb = exact_both ea eb (λ k a b v rest s f. tt)

-- the law of what stands after this token
pub exact_after : {X : Type 0} {S : Language X} {F : Tokens} {r : Reading X} (lexeme : Lexeme) → Exact S F r
    → Exact (λ k x. one lexeme · S k x) F (after lexeme r)
exact_after lexeme e =
    exact_as (exact_then (exact_this lexeme) (λ z. e) (λ k z x v rest s f. tt)) (λ k x u s. s.1) (λ k x u s. (tt, s))

-- the law of what stands before this token, which may follow it
pub exact_ended : {X : Type 0} {S : Language X} {F : Tokens} {r : Reading X} (lexeme : Lexeme) → Exact S F r
    → ((t : Placed) (rest : List Placed) → t.lexeme ≡ lexeme → F (t ∷ rest))
    → Exact (λ k x. S k x · one lexeme) Any (ended r lexeme)
exact_ended {X = X} {S = S} lexeme e ends =
    exact_as (exact_then e (λ a. exact_image (λ (z : Unit {0}). a) (exact_this lexeme))
    (λ k a x v rest s f. rw s.2.2 (ends s.2.0 rest s.2.1)))
    (λ k x u s. subst (λ (y : X). (S k y · one lexeme) u) s.1.4.1 (s.1.0, s.1.1, s.1.2, s.1.3, s.1.4.2))
    (λ k x u s. (x, (s.0, s.1, s.2, s.3, (tt, refl, s.4))))

-- ---- the line of the first token

-- the law of one with the line of its first token
pub exact_lined : {X : Type 0} {S : Language X} {F : Tokens} {r : Reading X} → Exact S F r
    → ((k : Kind) (x : X) → S k x [] → ⊥)
    → Exact (λ k (x : ℕ × X). from_line x.0 (S k x.1)) F (lined r)
exact_lined {X = X} {S = S} {r = r} e full = record {
  verdict = λ ts. verdict_to (λ x. (line_of ts, x))
      (λ x u rest whole s. (s, sym (first limit x u rest s) ∙ ap line_of (sym whole)))
      (λ k x u s. ((line_of u, x), (s, refl)))
      (λ all h. ap (λ line. r all >>= λ a. Ok ((line, a.0), a.1)) (same_line ts all h)) (e.verdict ts);
  passes = λ k x u rest s f. elim (e.passes k x.1 u rest s.0 f) [
    | inl y ↦ inl (rw y (ap (λ line. Ok ((line, x.1), rest)) (first k x.1 u rest s.0 ∙ s.1)))
    | inr y ↦ inr (y.0, y.1, y.2, rw y.3 refl)
  ];
  looser = λ k x u s. (e.looser k x.1 u s.0, s.1);
} where
  first : (k : Kind) (x : X) (u rest : List Placed) → S k x u → line_of (u ++ rest) ≡ line_of u
  first k x [] rest s = absurd (full k x s)
  first k x (t ∷ u) rest s = refl

  same_line : (ts all : List Placed) → Same zero ts all → line_of all ≡ line_of ts
  same_line [] [] h = refl
  same_line [] (u ∷ us) h = absurd h
  same_line (t ∷ ts) [] h = absurd h
  same_line (t ∷ ts) (u ∷ us) h = ap (λ (w : Placed). w.line) (sym h)

-- ---- all of the tokens

-- no token
abbrev pub IsNone : Tokens
IsNone ts = ts ≡ []

-- the law of the end
exact_end : {X : Type 0} (x : X) → Exact (empty x) IsNone (at_end x)
exact_end {X = X} x = record {
  verdict = verdict;
  passes = λ k y u rest s f. inl (rw (s.0, s.1, f) refl);
  looser = λ k y u s. s;
} where
  ended_same : (other : List Placed) → Same zero [] other → at_end x other ≡ Ok (x, other)
  ended_same [] h = refl
  ended_same (t ∷ ts) h = absurd h

  verdict : (ts : List Placed) → Verdict (empty x) (at_end x) ts
  verdict [] = took [] [] x refl (refl, refl) ended_same
  verdict (t ∷ ts) =
      stuck_form x [] [] (refl, refl) (refl, refl) (t ∷ ts) (alike (at_end x) form t ts (λ us. refl))

-- the law of one from all of the tokens
pub exact_complete : {X : Type 0} {S : Language X} {F : Tokens} {r : Reading X} → Exact S F r → F []
    → Exact S IsNone (complete r)
exact_complete {X = X} {S = S} {F = F} e none =
    exact_as (exact_then e (λ a. exact_end a) (λ k a x v rest s f. rw (s.1, f) none))
    (λ k x u s. let p = s.1 in
    subst (λ (w : List Placed). S k x w) (sym (p.2 ∙ ap (λ (w : List Placed). p.0 ++ w) p.4.1 ∙ append-nil p.0))
    (subst (λ (y : X). S k y p.0) (sym p.4.0) p.3))
    (λ k x u s. (x, (u, [], sym (append-nil u), s, (refl, refl))))
