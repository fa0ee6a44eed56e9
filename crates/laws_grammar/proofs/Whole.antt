-- The laws of a reading of all of the tokens.
use Rattle.std.proofs.Common.{◌≡◌, zero, List, [], ◌∷◌, ◌++◌, Ok, Err, refl, sym, ap, subst, ◌∙◌, append-nil, inl, inr}
use Rattle.sour_lexer.specs.Placed.{Placed}
use Rattle.sour_raw.specs.declared.kind.Kind.{Kind}
use Rattle.sour_raw.specs.declared.kind.Kind.TheVariants.{Limit as limit}
use Rattle.sour_raw.specs.Spelling.{Language}
use Rattle.sour_raw.specs.Fault.{FaultAt}
use Rattle.sour_raw.specs.Combinators.{Out, Reading, ◌>>=◌, at_end, complete}
use Rattle.laws_grammar.proofs.Same.{same_refl}
use Rattle.laws_grammar.proofs.Kit.{Exact, again, fault_at}
use Rattle.laws_grammar.proofs.Leaves.{IsNone}

-- the tokens that are left
abbrev left : {X : Type 0} → Out X → List Placed
left (Ok a) = a.1
left (Err e) = e.1

-- nothing is left of what is read from all of the tokens
none_left : {X : Type 0} (o : Out X) (x : X) (rest : List Placed) → (o >>= λ a. at_end a.0 a.1) ≡ Ok (x, rest)
    → rest ≡ []
none_left (Err e) x rest h = absurd cc
none_left (Ok (y, [])) x rest h = sym (ap left h)
none_left (Ok (y, t ∷ ts)) x rest h = absurd cc

-- a list of tokens is read as a value that it spells, or it has a fault where the reading stops
pub data Outcome {X : Type 0} (S : Language X) (r : Reading X) (ts : List Placed) : Type 0 where
  Whole : (x : X) (e : r ts ≡ Ok (x, [])) (s : S limit x ts) → Outcome S r ts
  Fault : (kind : Kind) (rest : List Placed) (e : r ts ≡ Err (kind, rest)) (s : FaultAt S kind ts rest) → Outcome S r ts

-- the outcome of each list of tokens
pub outcome : {X : Type 0} {S : Language X} (r : Reading X) → Exact S IsNone (complete r) → (ts : List Placed)
    → Outcome S (complete r) ts
outcome {S = S} r e ts = elim (e.verdict ts) [
  | inl a ↦
      let read : complete r ts ≡ Ok (a.x, a.rest) = ap (complete r) a.whole ∙ a.same a.rest (same_refl zero a.rest) in
      let none : a.rest ≡ [] = none_left (r ts) a.x a.rest read in
      Whole a.x (read ∙ ap (λ (rest : List Placed). Ok (a.x, rest)) none)
      (subst (λ (w : List Placed). S limit a.x w)
      (sym (a.whole ∙ ap (λ (rest : List Placed). a.front ++ rest) none ∙ append-nil a.front)) a.spelled)
  | inr a ↦
      let b = a.reached in
      Fault a.kind a.rest (ap (complete r) b.whole ∙ a.same a.rest (same_refl b.spot.ahead a.rest))
      (fault_at e refl ts a)
]

-- what the tokens spell is read from all of them
pub whole_again : {X : Type 0} {S : Language X} {r : Reading X} → Exact S IsNone r → (x : X) (ts : List Placed)
    → S limit x ts → r ts ≡ Ok (x, [])
whole_again {r = r} e x ts s = subst (λ (w : List Placed). r w ≡ Ok (x, [])) (append-nil ts) (again e x ts [] s refl)
