-- A token that may precede what is written after it is as long as it can be.
use Rattle.std.proofs.Common.{◌≡◌, ℕ, Bool, true, false, not, List, [], ◌∷◌, ◌++◌, get_or, refl, subst, arith}
use Rattle.std.specs.Char.{is_ascii_digit}
use Rattle.std.proofs.lemmas.Bool.Decides.{nat_tests}
use Rattle.sour_tokens.specs.declared.symbols.Symbol.{Symbol}
use Rattle.sour_tokens.specs.declared.symbols.Symbol.TheVariants.{Arrow, EqualEqual, NotEqual, LessEqual, GreaterEqual, AndAnd, OrOr, Less, Greater, Plus, Minus, Star, Slash, Percent, Bang, Equal, OpenParen, CloseParen, OpenBracket, CloseBracket, Comma, Colon, Semicolon, Dot, Ampersand, At}
use Rattle.sour_tokens.specs.Byte.{is_blank, begins_word, continues_word}
use Rattle.sour_tokens.specs.Symbol.{symbol_spelling}
use Rattle.sour_lexer.specs.Placed.{Lexeme, Word, Digits, Sign, LineEnd, Bad}
use Rattle.sour_lexer.specs.Front.{spelling, IsSpelled, IsLongest}
use Rattle.sour_lexer.proofs.ByteLaws.{digit-from_continues}
use Rattle.sour_lexer.proofs.Runs.{clash, Stops, no_more}
use Rattle.sour_lexer.proofs.SymbolLaws.{HasSymbolShape, IsSymbol-shape}
use Rattle.sour_lexer.proofs.SpelledLaws.{only_word, only_digits, only_symbol}
use Rattle.laws_printing.specs.Text.{is_double, MayPrecede}

-- what isn't true is false
not_true : (b : Bool) → not b ≡ true → b ≡ false
not_true true e = absurd cc
not_true false e = refl

-- a symbol of two bytes or more is a double
two_bytes : (symbol : Symbol) (a b : ℕ) (more : List ℕ) → a ∷ b ∷ more ≡ symbol_spelling symbol → is_double a b ≡ true
two_bytes Arrow a b more is = let x : a ≡ 60 = cc in let y : b ≡ 45 = cc in rw (x, y) refl
two_bytes EqualEqual a b more is = let x : a ≡ 61 = cc in let y : b ≡ 61 = cc in rw (x, y) refl
two_bytes NotEqual a b more is = let x : a ≡ 33 = cc in let y : b ≡ 61 = cc in rw (x, y) refl
two_bytes LessEqual a b more is = let x : a ≡ 60 = cc in let y : b ≡ 61 = cc in rw (x, y) refl
two_bytes GreaterEqual a b more is = let x : a ≡ 62 = cc in let y : b ≡ 61 = cc in rw (x, y) refl
two_bytes AndAnd a b more is = let x : a ≡ 38 = cc in let y : b ≡ 38 = cc in rw (x, y) refl
two_bytes OrOr a b more is = let x : a ≡ 124 = cc in let y : b ≡ 124 = cc in rw (x, y) refl
two_bytes other a b more is = absurd cc

-- a symbol is as long as it can be where its first byte and the next one are no double
symbol_longest : (token : List ℕ) → HasSymbolShape token → (after : List ℕ) → Stops (is_double (get_or token 0 0)) after
    → IsLongest token after
symbol_longest [] shape after stops more rest is spelled = absurd shape
symbol_longest (a ∷ []) shape after stops [] rest is spelled = refl
symbol_longest (a ∷ []) shape after stops (y ∷ more) rest is spelled =
    let known = only_symbol a (y ∷ more) shape spelled in
    let fails : is_double a y ≡ false = subst (Stops (is_double a)) is stops in
    absurd (clash fails (two_bytes known.0 a y more known.1))
symbol_longest (a ∷ b ∷ []) shape after stops [] rest is spelled = refl
symbol_longest (a ∷ b ∷ []) shape after stops (y ∷ more) rest is spelled =
    absurd (IsSymbol-shape (a ∷ b ∷ y ∷ more) (only_symbol a (b ∷ y ∷ more) shape.0 spelled))
symbol_longest (a ∷ b ∷ c ∷ token) shape after stops more rest is spelled = absurd shape

-- what may follow a word stops it
word_stops : (word after : List ℕ) → MayPrecede (Word word) after → Stops continues_word after
word_stops word [] may = tt
word_stops word (b ∷ after) may = not_true (continues_word b) may

-- what may follow digits stops them
digits_stop : (digits after : List ℕ) → MayPrecede (Digits digits) after → Stops is_ascii_digit after
digits_stop digits [] may = tt
digits_stop digits (b ∷ after) may = digit-from_continues b (not_true (continues_word b) may)

-- what may follow a symbol makes no double with it
symbol_stops : (symbol : Symbol) (after : List ℕ) → MayPrecede (Sign symbol) after
    → Stops (is_double (get_or (symbol_spelling symbol) 0 0)) after
symbol_stops symbol [] may = tt
symbol_stops symbol (b ∷ after) may = not_true (is_double (get_or (symbol_spelling symbol) 0 0) b) may

-- a token is as long as it can be before what it may precede
pub longest : (lexeme : Lexeme) → IsSpelled lexeme → (after : List ℕ) → MayPrecede lexeme after
    → IsLongest (spelling lexeme) after
longest (Word []) is after may more rest of token = absurd is
longest (Word (b ∷ word)) is after may more rest of token =
    no_more continues_word word more after rest (only_word b (word ++ more) is.0 token) of
    (word_stops (b ∷ word) after may)
longest (Digits []) is after may more rest of token = absurd is
longest (Digits (b ∷ digits)) is after may more rest of token =
    no_more is_ascii_digit digits more after rest (only_digits b (digits ++ more) is.0 token) of
    (digits_stop (b ∷ digits) after may)
longest (Sign symbol) is after may more rest of token =
    symbol_longest (symbol_spelling symbol) (IsSymbol-shape (symbol_spelling symbol) (symbol, refl)) after
    (symbol_stops symbol after may) more rest of token
longest LineEnd is after may more rest of token = absurd is
longest (Bad why) is after may more rest of token = absurd is

-- a byte that begins a word is no blank
word_no_blank : (b : ℕ) → begins_word b ≡ true → is_blank b ≡ false
word_no_blank b begins = grind (arith, nat_tests)

-- nor is a digit
digit_no_blank : (b : ℕ) → is_ascii_digit b ≡ true → is_blank b ≡ false
digit_no_blank b digit = grind (arith, nat_tests)

-- no blank stands at the front of the bytes of a token
pub no_blank_first : (lexeme : Lexeme) (after : List ℕ) → IsSpelled lexeme → Stops is_blank (spelling lexeme ++ after)
no_blank_first (Word []) after is = absurd is
no_blank_first (Word (b ∷ word)) after is = word_no_blank b is.0
no_blank_first (Digits []) after is = absurd is
no_blank_first (Digits (b ∷ digits)) after is = digit_no_blank b is.0
no_blank_first (Sign symbol) after is = by symbol where
  by : (symbol : Symbol) → Stops is_blank (symbol_spelling symbol ++ after)
  by Arrow = refl
  by EqualEqual = refl
  by NotEqual = refl
  by LessEqual = refl
  by GreaterEqual = refl
  by AndAnd = refl
  by OrOr = refl
  by Less = refl
  by Greater = refl
  by Plus = refl
  by Minus = refl
  by Star = refl
  by Slash = refl
  by Percent = refl
  by Bang = refl
  by Equal = refl
  by OpenParen = refl
  by CloseParen = refl
  by OpenBracket = refl
  by CloseBracket = refl
  by Comma = refl
  by Colon = refl
  by Semicolon = refl
  by Dot = refl
  by Ampersand = refl
  by At = refl
no_blank_first LineEnd after is = absurd is
no_blank_first (Bad why) after is = absurd is
