-- Tokens of pieces, cut apart as the grammar says.
use Rattle.std.proofs.Common.{◌≡◌, ℕ, zero, suc, ◌≤◌, Bool, true, List, [], ◌∷◌, ◌++◌, length, Option, Some, None, refl, sym, ap, subst, ◌∙◌, append_assoc, append-nil, arith}
use Rattle.std.specs.Prelude.{⊤}
use Rattle.std.specs.List.{AllByRecursion}
use Rattle.sour_lexer.specs.Placed.{Lexeme, Placed}
use Rattle.sour_raw.specs.declared.kind.Kind.{Kind}
use Rattle.sour_raw.specs.declared.kind.Kind.TheVariants.{Limit as limit}
use Rattle.sour_raw.specs.Lexemes.{comma}
use Rattle.sour_raw.specs.Spelling.{Tokens, ◌·◌, one, Language, less, HasRoom, each, after_separator, listed, after_all}
use Rattle.sour_raw.specs.Words.{word}
use Rattle.laws_grammar.proofs.Leaves.{within_all}
use Rattle.laws_printing.specs.Pieces.{Piece, Token, Blank, others_pieces, listed_pieces}

-- no token
abbrev pub Empty : Tokens
Empty ts = ts ≡ []

-- the tokens of the pieces, wherever they stand, and then these
abbrev pub Says : List Piece → Tokens → Tokens
Says [] B = B
Says (Token lexeme ∷ pieces) B = one lexeme · Says pieces B
Says (Blank ∷ pieces) B = Says pieces B

-- what is in the first is in the second
abbrev pub Within : Tokens → Tokens → Type 0
Within A B = (ts : List Placed) → A ts → B ts

-- it is in itself
pub itself : (A : Tokens) → Within A A
itself A ts s = s

-- two side by side
pub beside : {A A' B B' : Tokens} → Within A A' → Within B B' → Within (A · B) (A' · B')
beside a b ts s = (s.0, s.1, s.2, a s.0 s.3, b s.1 s.4)

-- a token before the second
pub after_token : (lexeme : Lexeme) {B B' : Tokens} → Within B B' → Within (one lexeme · B) (one lexeme · B')
after_token lexeme b ts s = (s.0, s.1, s.2, s.3, b s.1 s.4)

-- nothing after
pub ended : {A A' : Tokens} → Within A A' → Within (A · Empty) A'
ended {A} a ts s =
    a ts (subst A (sym (s.2 ∙ ap (λ (v : List Placed). s.0 ++ v) s.4 ∙ append-nil s.0)) s.3)

-- the first two of three taken together
pub regroup : {A B C : Tokens} → Within (A · (B · C)) ((A · B) · C)
regroup ts s =
    let t = s.4 in (
      s.0 ++ t.0,
      t.1,
      s.2 ∙ ap (λ (v : List Placed). s.0 ++ v) t.2 ∙ sym (append_assoc s.0 t.0 t.1),
      (s.0, t.0, refl, s.3, t.3),
      t.4,
    )

-- what comes after pieces may be cut apart
pub carried : (pieces : List Piece) {B C D : Tokens} → Within B (C · D) → Within (Says pieces B) (Says pieces C · D)
carried [] b ts s = b ts s
carried (Blank ∷ pieces) b ts s = carried pieces b ts s
carried (Token lexeme ∷ pieces) b ts s = regroup ts (after_token lexeme (carried pieces b) ts s)

-- the tokens of pieces and others are those of both
pub append_says : (first second : List Piece) (B : Tokens)
    → Within (Says (first ++ second) B) (Says first (Says second B))
append_says [] second B ts s = s
append_says (Blank ∷ first) second B ts s = append_says first second B ts s
append_says (Token lexeme ∷ first) second B ts s = after_token lexeme (append_says first second B) ts s

-- what pieces spell, and then others
pub spelled_then : (pieces : List Piece) {A B B' : Tokens} → Within (Says pieces Empty) A → Within B B'
    → Within (Says pieces B) (A · B')
spelled_then pieces a b ts s = beside a b ts (carried pieces (λ v t. ([], v, refl, refl, t)) ts s)

-- what two lists of pieces spell
pub joined : (first second : List Piece) {A B' : Tokens} → Within (Says first Empty) A → Within (Says second Empty) B'
    → Within (Says (first ++ second) Empty) (A · B')
joined first second a b ts s = spelled_then first a b ts (append_says first second Empty ts s)

-- a token that says x, which passes the test
pub word_says : {X : Type 0} (says : Lexeme → Option X) (kind : Kind) (allowed : X → Bool) (x : X) (lexeme : Lexeme)
    → says lexeme ≡ Some x → allowed x ≡ true → Within (one lexeme) (word says kind allowed limit x)
word_says says kind allowed x lexeme e ok ts s =
    (s.0, ap says s.1 ∙ e, s.2, within_all kind limit (allowed x) ok)

-- ---- lists

-- so many are no more than there is room for
abbrev pub Room : Option ℕ → ℕ → Type 0
Room None n = ⊤
Room (Some most) n = n ≤ most

-- room for one more is room for one, and then for the others
pub room_one : (room : Option ℕ) (n : ℕ) → Room room (suc n) → HasRoom limit room × Room (less room) n
room_one None n r = (tt, tt)
room_one (Some zero) n r = absurd (omega (arith, r))
room_one (Some (suc most)) n r = (tt, omega (arith, r))

-- pieces of an item spell it, where what is known after it fits
pub record Spells {St X : Type 0} (S : St → Language X) (step : St → X → St) (P : X → List Piece) (Q : X → Type 0)
    (Fits : St → Type 0) : Type 0 where
  pub item : (st : St) (x : X) → Q x → Fits (step st x) → Within (Says (P x) Empty) (S st limit x)
  pub back : (st : St) (x : X) → Fits (step st x) → Fits st

module _ {St X : Type 0} {S : St → Language X} {step : St → X → St} {P : X → List Piece} {Q : X → Type 0}
    {Fits : St → Type 0} (e : Spells S step P Q Fits) where
  -- what is known before items fits, where what is known after them does
  pub back_all : (st : St) (xs : List X) → Fits (after_all step st xs) → Fits st
  back_all st [] fits = fits
  back_all st (x ∷ xs) fits = e.back st x (back_all (step st x) xs fits)

  -- each after a comma
  pub others_says : (room : Option ℕ) (st : St) (xs : List X) → AllByRecursion Q xs → Room room (length xs)
      → Fits (after_all step st xs)
      → Within (Says (others_pieces P xs) Empty) (each (after_separator comma S) step room st limit xs)
  others_says room st [] all r fits ts s = s
  others_says room st (x ∷ xs) all r fits ts s =
      let o = room_one room (length xs) r in (
        o.0,
        regroup ts (after_token comma (joined (P x) (others_pieces P xs)
            (e.item st x all.0 (back_all (step st x) xs fits))
            (others_says (less room) (step st x) xs all.1 o.1 fits)) ts s),
      )

  -- with commas between them
  pub listed_says : (room : Option ℕ) (st : St) (xs : List X) → AllByRecursion Q xs → Room room (length xs)
      → Fits (after_all step st xs) → Within (Says (listed_pieces P xs) Empty) (listed comma S step room st limit xs)
  listed_says room st [] all r fits ts s = s
  listed_says room st (x ∷ xs) all r fits ts s =
      joined (P x) (others_pieces P xs) (e.item st x all.0 (back_all (step st x) xs fits))
      (others_says (less room) (step st x) xs all.1 (room_one room (length xs) r).1 fits) ts s
