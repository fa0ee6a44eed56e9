-- How pieces that stand apart are put together.
use Rattle.std.proofs.Common.{◌≡◌, ℕ, Bool, true, not, ◌&&◌, ◌||◌, ◌==◌, List, [], ◌∷◌, ◌++◌, get_or, refl, sym, subst, append_assoc, append-nil, arith}
use Rattle.std.specs.Prelude.{⊤}
use Rattle.std.specs.List.{AllByRecursion}
use Rattle.std.proofs.lemmas.Bool.Decides.{nat_tests}
use Rattle.sour_tokens.specs.declared.symbols.Symbol.{Symbol}
use Rattle.sour_tokens.specs.Byte.{continues_word}
use Rattle.sour_tokens.specs.Symbol.{symbol_spelling}
use Rattle.sour_lexer.specs.Placed.{Lexeme, Word, Digits, Sign, LineEnd, Bad}
use Rattle.sour_lexer.specs.Front.{IsSpelled}
use Rattle.laws_printing.specs.Pieces.{Piece, Token, Blank, others_pieces, listed_pieces}
use Rattle.laws_printing.specs.Text.{bytes_of, is_double, may_precede, MayPrecede, AreApart}

-- whether each token is as long as it can be before this byte
abbrev pub closes : ℕ → Bool
closes b = not (continues_word b) && not (b == 45 || b == 61 || b == 38 || b == 124)

-- so it is before these bytes
abbrev pub Closes : List ℕ → Type 0
Closes [] = ⊤
Closes (b ∷ bytes) = closes b ≡ true

-- such a byte goes on with no word
closes_word : (b : ℕ) → closes b ≡ true → not (continues_word b) ≡ true
closes_word b c = grind (arith, nat_tests)

-- nor with a symbol
closes_double : (a b : ℕ) → closes b ≡ true → not (is_double a b) ≡ true
closes_double a b c = grind (arith, nat_tests)

-- so each token may precede it
pub closed : (lexeme : Lexeme) (bytes : List ℕ) → Closes bytes → MayPrecede lexeme bytes
closed lexeme [] c = tt
closed (Word word) (b ∷ bytes) c = closes_word b c
closed (Digits digits) (b ∷ bytes) c = closes_word b c
closed (Sign symbol) (b ∷ bytes) c = closes_double (get_or (symbol_spelling symbol) 0 0) b c
closed LineEnd (b ∷ bytes) c = refl
closed (Bad why) (b ∷ bytes) c = refl

-- before what closes a token these pieces stand apart
pub record Item (pieces : List Piece) : Type 0 where
  pub apart : (rest : List Piece) → Closes (bytes_of rest) → AreApart rest → AreApart (pieces ++ rest)

-- before what closes a token these pieces close one
abbrev pub Closing : List Piece → Type 0
Closing pieces = (rest : List Piece) → Closes (bytes_of rest) → Closes (bytes_of (pieces ++ rest))

-- no pieces
pub no_item : Item []
no_item = record { apart = λ rest c apart. apart }

-- pieces that stand apart alone
pub alone_apart : (pieces : List Piece) → Item pieces → AreApart pieces
alone_apart pieces item = subst AreApart (append-nil pieces) (item.apart [] tt tt)

-- a token, and pieces that close it
pub closed_item : (lexeme : Lexeme) (pieces : List Piece) → IsSpelled lexeme → Closing pieces → Item pieces
    → Item (Token lexeme ∷ pieces)
closed_item lexeme pieces is closing item = record {
  apart = λ rest c apart.
      (is, closed lexeme (bytes_of (pieces ++ rest)) (closing rest c), item.apart rest c apart);
}

-- a blank, and any pieces
pub blank_item : {pieces : List Piece} → Item pieces → Item (Blank ∷ pieces)
blank_item item = record { apart = item.apart }

-- a symbol that may precede each byte, and any pieces
pub sign_item : (symbol : Symbol) (pieces : List Piece) → ((b : ℕ) → may_precede (Sign symbol) b ≡ true) → Item pieces
    → Item (Token (Sign symbol) ∷ pieces)
sign_item symbol pieces free item =
    record { apart = λ rest c apart. (tt, by (bytes_of (pieces ++ rest)), item.apart rest c apart) }
  where
    by : (bytes : List ℕ) → MayPrecede (Sign symbol) bytes
    by [] = tt
    by (b ∷ bytes) = free b

-- pieces, and others that close a token
pub joined_item : (first second : List Piece) → Item first → Closing second → Item second → Item (first ++ second)
joined_item first second a closing b = record {
  apart = λ rest c apart.
      subst AreApart (sym (append_assoc first second rest))
      (a.apart (second ++ rest) (closing rest c) (b.apart rest c apart));
}

-- ---- lists

-- what stands after a comma closes a token
pub others_close : {X : Type 0} (P : X → List Piece) (xs : List X) → Closing (others_pieces P xs)
others_close P [] rest c = c
others_close P (x ∷ xs) rest c = refl

-- each after a comma
pub others_item : {X : Type 0} (P : X → List Piece) (Q : X → Type 0) → ((x : X) → Q x → Item (P x)) → (xs : List X)
    → AllByRecursion Q xs → Item (others_pieces P xs)
others_item P Q each [] all = no_item
others_item P Q each (x ∷ xs) all =
    sign_item _ (Blank ∷ (P x ++ others_pieces P xs)) (λ b. refl)
    (blank_item (joined_item (P x) (others_pieces P xs) (each x all.0) (others_close P xs)
    (others_item P Q each xs all.1)))

-- with commas between them
pub listed_item : {X : Type 0} (P : X → List Piece) (Q : X → Type 0) → ((x : X) → Q x → Item (P x)) → (xs : List X)
    → AllByRecursion Q xs → Item (listed_pieces P xs)
listed_item P Q each [] all = no_item
listed_item P Q each (x ∷ xs) all =
    joined_item (P x) (others_pieces P xs) (each x all.0) (others_close P xs) (others_item P Q each xs all.1)
