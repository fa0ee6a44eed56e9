-- What the bytes of a token are like, and that they tell it.
use Rattle.std.proofs.Common.{◌≡◌, ℕ, ◌<◌, true, false, List, [], ◌∷◌, ◌++◌, length, eqb, cond, get_or, Option, Some, None, refl, ap, ◌∙◌, inl, inr, arith}
use Rattle.std.specs.List.{AllPass}
use Rattle.std.specs.Char.{is_ascii_digit}
use Rattle.std.proofs.lemmas.List.Elements.{All-nil, All-cons, All-weaker}
use Rattle.sour_tokens.specs.declared.symbols.Symbol.{Symbol}
use Rattle.sour_tokens.specs.Byte.{is_line_feed, begins_word, continues_word}
use Rattle.sour_tokens.specs.Symbol.{symbol_spelling}
use Rattle.sour_tokens.specs.Token.{IsSymbol, IsToken}
use Rattle.sour_lexer.specs.Placed.{Lexeme, Word, Digits, Sign, LineEnd, Bad}
use Rattle.sour_lexer.specs.Front.{spelling, IsSpelled, IsComment}
use Rattle.sour_lexer.proofs.ByteLaws.{is_mark, continues-from_begins, continues-from_digit, begins-from_digit, begins-from_continues, digit-from_continues, line_feed-from_continues, comment-from_continues, continues-from_mark, line_feed-from_mark, comment-from_mark}
use Rattle.sour_lexer.proofs.Runs.{clash}
use Rattle.sour_lexer.proofs.SymbolLaws.{symbol_of, told_symbol, HasSymbolShape, IsSymbol-shape, begins_mark}
use Rattle.sour_lexer.proofs.LineLaws.{HasNoLineFeed}

-- a byte of a word begins no symbol
pub no_symbol : (b : ℕ) (bytes : List ℕ) → continues_word b ≡ true → IsSymbol (b ∷ bytes) → ⊥
no_symbol b bytes continues symbol = clash (continues-from_mark b (begins_mark b bytes symbol)) continues

-- a token that begins as a word is one
pub only_word : (b : ℕ) (bytes : List ℕ) → begins_word b ≡ true → IsToken (b ∷ bytes) → AllPass continues_word bytes
only_word b bytes begins (inl word) = word.1
only_word b bytes begins (inr (inl digits)) = absurd (clash (begins-from_digit b digits.0) begins)
only_word b bytes begins (inr (inr symbol)) = absurd (no_symbol b bytes (continues-from_begins b begins) symbol)

-- a token that begins with a digit has nothing else
pub only_digits : (b : ℕ) (bytes : List ℕ) → is_ascii_digit b ≡ true → IsToken (b ∷ bytes)
    → AllPass is_ascii_digit bytes
only_digits b bytes digit (inl word) = absurd (clash (begins-from_digit b digit) word.0)
only_digits b bytes digit (inr (inl digits)) = digits.1
only_digits b bytes digit (inr (inr symbol)) = absurd (no_symbol b bytes (continues-from_digit b digit) symbol)

-- a token that begins with a mark is a symbol
pub only_symbol : (b : ℕ) (bytes : List ℕ) → is_mark b ≡ true → IsToken (b ∷ bytes) → IsSymbol (b ∷ bytes)
only_symbol b bytes mark (inl word) = absurd (clash (continues-from_mark b mark) (continues-from_begins b word.0))
only_symbol b bytes mark (inr (inl digits)) =
    absurd (clash (continues-from_mark b mark) (continues-from_digit b digits.0))
only_symbol b bytes mark (inr (inr symbol)) = symbol

-- a symbol as a token, if there is one
abbrev pub sign_of : Option Symbol → Lexeme
sign_of (Some symbol) = Sign symbol
sign_of None = LineEnd

-- the token of some bytes that are no word
abbrev pub no_word_told : List ℕ → Lexeme
no_word_told bytes = cond (is_ascii_digit (get_or bytes 0 0)) (Digits bytes) (sign_of (symbol_of bytes))

-- the token of some bytes
abbrev pub lexeme_told : List ℕ → Lexeme
lexeme_told bytes = cond (begins_word (get_or bytes 0 0)) (Word bytes) (no_word_told bytes)

-- the bytes of a symbol tell it
pub told_sign : (bytes : List ℕ) (symbol : Symbol) → bytes ≡ symbol_spelling symbol → lexeme_told bytes ≡ Sign symbol
told_sign [] symbol is = absurd (IsSymbol-shape [] (symbol, is))
told_sign (b ∷ bytes) symbol is =
    let fails = continues-from_mark b (begins_mark b bytes (symbol, is)) in
    ap (λ t. cond t (Word (b ∷ bytes)) (no_word_told (b ∷ bytes))) (begins-from_continues b fails)
    ∙ ap (λ t. cond t (Digits (b ∷ bytes)) (sign_of (symbol_of (b ∷ bytes)))) (digit-from_continues b fails)
    ∙ ap (λ x. sign_of (symbol_of x)) is ∙ ap sign_of (told_symbol symbol)

-- the bytes of a token tell it
pub told_lexeme : (lexeme : Lexeme) → IsSpelled lexeme → lexeme_told (spelling lexeme) ≡ lexeme
told_lexeme (Word []) is = absurd is
told_lexeme (Word (b ∷ bytes)) is = ap (λ t. cond t (Word (b ∷ bytes)) (no_word_told (b ∷ bytes))) is.0
told_lexeme (Digits []) is = absurd is
told_lexeme (Digits (b ∷ bytes)) is =
    ap (λ t. cond t (Word (b ∷ bytes)) (no_word_told (b ∷ bytes))) (begins-from_digit b is.0)
    ∙ ap (λ t. cond t (Digits (b ∷ bytes)) (sign_of (symbol_of (b ∷ bytes)))) is.0
told_lexeme (Sign symbol) is = told_sign (symbol_spelling symbol) symbol refl
told_lexeme LineEnd is = absurd is
told_lexeme (Bad why) is = absurd is

-- they are those of a token
pub spelled_token : (lexeme : Lexeme) → IsSpelled lexeme → IsToken (spelling lexeme)
spelled_token (Word bytes) is = inl is
spelled_token (Digits bytes) is = inr (inl is)
spelled_token (Sign symbol) is = inr (inr (symbol, refl))
spelled_token LineEnd is = absurd is
spelled_token (Bad why) is = absurd is

-- a token begins no comment
pub token_no_comment : (token after : List ℕ) → IsToken token → IsComment (token ++ after) → ⊥
token_no_comment [] after (inl none) comment = none
token_no_comment [] after (inr (inl none)) comment = none
token_no_comment [] after (inr (inr symbol)) comment = IsSymbol-shape [] symbol
token_no_comment (b ∷ token) after (inl word) comment =
    clash (comment-from_continues b (continues-from_begins b word.0)) (ap (λ x. eqb x 35) comment)
token_no_comment (b ∷ token) after (inr (inl digits)) comment =
    clash (comment-from_continues b (continues-from_digit b digits.0)) (ap (λ x. eqb x 35) comment)
token_no_comment (b ∷ token) after (inr (inr symbol)) comment =
    clash (comment-from_mark b (begins_mark b token symbol)) (ap (λ x. eqb x 35) comment)

-- the bytes of a token have no line feed, and there are some
pub record IsInLine (bytes : List ℕ) : Type 0 where
  pub none : HasNoLineFeed bytes
  pub some : 0 < length bytes

-- those of a symbol
pub symbol_in_line : (bytes : List ℕ) → HasSymbolShape bytes → IsInLine bytes
symbol_in_line [] shape = absurd shape
symbol_in_line (a ∷ []) shape = record {
  none =
      All-cons (λ b. is_line_feed b ≡ false) a [] (line_feed-from_mark a shape)
      (All-nil (λ b. is_line_feed b ≡ false));
  some = omega arith;
}
symbol_in_line (a ∷ b ∷ []) shape = record {
  none =
      All-cons (λ b. is_line_feed b ≡ false) a (b ∷ []) (line_feed-from_mark a shape.0)
      (
      All-cons (λ b. is_line_feed b ≡ false) b [] (line_feed-from_mark b shape.1)
      (All-nil (λ b. is_line_feed b ≡ false))
      );
  some = omega arith;
}
symbol_in_line (a ∷ b ∷ c ∷ bytes) shape = absurd shape

-- those of each token
pub in_line : (lexeme : Lexeme) → IsSpelled lexeme → IsInLine (spelling lexeme)
in_line (Word []) is = absurd is
in_line (Word (b ∷ bytes)) is = record {
  none =
      All-cons (λ x. is_line_feed x ≡ false) b bytes (line_feed-from_continues b (continues-from_begins b is.0))
      (All-weaker (λ x. continues_word x ≡ true) (λ x. is_line_feed x ≡ false) line_feed-from_continues bytes is.1);
  some = omega arith;
}
in_line (Digits []) is = absurd is
in_line (Digits (b ∷ bytes)) is = record {
  none =
      All-weaker (λ x. is_ascii_digit x ≡ true) (λ x. is_line_feed x ≡ false)
      (λ x digit. line_feed-from_continues x (continues-from_digit x digit)) (b ∷ bytes)
      (All-cons (λ x. is_ascii_digit x ≡ true) b bytes is.0 is.1);
  some = omega arith;
}
in_line (Sign symbol) is =
    symbol_in_line (symbol_spelling symbol) (IsSymbol-shape (symbol_spelling symbol) (symbol, refl))
in_line LineEnd is = absurd is
in_line (Bad why) is = absurd is
