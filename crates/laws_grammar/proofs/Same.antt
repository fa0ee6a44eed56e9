-- Lists that begin with the same tokens.
use Rattle.std.proofs.Common.{◌≡◌, ℕ, zero, suc, Bool, List, [], ◌∷◌, ◌++◌, refl, sym, ap, subst}
use Rattle.sour_lexer.specs.Placed.{Lexeme, Placed}
use Rattle.sour_raw.specs.declared.kind.Kind.{Kind}
use Rattle.sour_raw.specs.declared.kind.Kind.TheVariants.{Form as form, Number as number, Limit as limit}
use Rattle.sour_raw.specs.Spelling.{Language}
use Rattle.sour_raw.specs.Fault.{Same, IsPlaced, Follows, Reaches}
use Rattle.sour_raw.specs.Combinators.{next}

-- a list begins as itself
pub same_refl : (n : ℕ) (ts : List Placed) → Same n ts ts
same_refl n [] = tt
same_refl zero (t ∷ ts) = refl
same_refl (suc n) (t ∷ ts) = (refl, same_refl n ts)

-- lists with the same first tokens have the same first token
pub same_head : (n : ℕ) (ts us : List Placed) → Same n ts us → Same zero ts us
same_head n [] [] h = tt
same_head n [] (u ∷ us) h = absurd h
same_head n (t ∷ ts) [] h = absurd h
same_head zero (t ∷ ts) (u ∷ us) h = h
same_head (suc n) (t ∷ ts) (u ∷ us) h = h.0

-- the same first token, seen from the other list
pub same_sym : (ts us : List Placed) → Same zero ts us → Same zero us ts
same_sym [] [] h = tt
same_sym [] (u ∷ us) h = absurd h
same_sym (t ∷ ts) [] h = absurd h
same_sym (t ∷ ts) (u ∷ us) h = sym h

-- the same tokens may stand before both
pub same_after : (front ts us : List Placed) → Same zero ts us → Same zero (front ++ ts) (front ++ us)
same_after [] ts us h = h
same_after (t ∷ front) ts us h = refl

-- a list and another that goes on with the same token after the same front
pub same_whole : (ts front rest other : List Placed) → ts ≡ front ++ rest → Same zero rest other
    → Same zero ts (front ++ other)
same_whole ts front rest other whole h =
    subst (λ (t : List Placed). Same zero t (front ++ other)) (sym whole) (same_after front rest other h)

-- a list and another that goes on from the place of a fault with the tokens that make it known
pub same_reached : {X : Type 0} {S : Language X} {kind : Kind} {ts rest : List Placed} (a : Reaches S kind ts rest)
    (other : List Placed)
    → Same a.spot.ahead rest other → Same zero ts (a.base ++ (a.spot.separator ++ other))
same_reached {ts = ts} {rest = rest} a other h =
    let separator = a.spot.separator in
    same_whole ts a.base (separator ++ rest) (separator ++ other) a.whole
    (same_after separator rest other (same_head a.spot.ahead rest other h))

-- what makes a fault known may go on in any way
pub follows_more : (k : Kind) (n : ℕ) (rest other more : List Placed) → IsPlaced k n rest → Follows k n rest other
    → Follows k n rest (other ++ more)
follows_more form n rest other more p f = tt
follows_more number zero [] other more p f = absurd p
follows_more number zero (t ∷ ts) [] more p f = absurd f
follows_more number zero (t ∷ ts) (u ∷ us) more p f = f
follows_more number (suc n) rest other more p f = absurd p
follows_more limit zero [] other more p f = absurd p
follows_more limit zero (t ∷ ts) [] more p f = absurd f
follows_more limit zero (t ∷ ts) (u ∷ us) more p f = f
follows_more limit (suc zero) [] other more p f = absurd p
follows_more limit (suc zero) (t ∷ []) other more p f = absurd p
follows_more limit (suc zero) (t ∷ t' ∷ ts) [] more p f = absurd f
follows_more limit (suc zero) (t ∷ t' ∷ ts) (u ∷ []) more p f = absurd f.1
follows_more limit (suc zero) (t ∷ t' ∷ ts) (u ∷ u' ∷ us) more p f = f
follows_more limit (suc (suc n)) rest other more p f = absurd p

-- a test of the next token says the same of both
pub next_same : (p : Lexeme → Bool) (ts us : List Placed) → Same zero ts us → next p us ≡ next p ts
next_same p [] [] h = refl
next_same p [] (u ∷ us) h = absurd h
next_same p (t ∷ ts) [] h = absurd h
next_same p (t ∷ ts) (u ∷ us) h = ap (λ (w : Placed). p w.lexeme) (sym h)
