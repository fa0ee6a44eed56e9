-- Which tokens are names and labels, as tests.
use Rattle.std.specs.Prelude.{ℕ, Bool, false, List, [], ◌∷◌, Option, Some, None, length, nat_eq, nat_le, not, ◌&&◌, ◌||◌, if◌then◌else◌}
use Rattle.std.specs.List.{list_all}
use Rattle.std.specs.Char.{is_ascii_alphabetic, is_ascii_digit}
use Rattle.sour_syntax.specs.Name.{is_reserved}
use Rattle.sour_lexer.specs.Placed.{Lexeme, Word, Digits}

-- whether its first byte is a letter
abbrev pub begins_with_letter : List ℕ → Bool
begins_with_letter [] = false
begins_with_letter (b ∷ bytes) = is_ascii_alphabetic b

-- whether a word is a name, however long it is
abbrev pub is_name : List ℕ → Bool
is_name word = begins_with_letter word && not (is_reserved word)

-- whether it is as short as a name must be
abbrev pub is_short : List ℕ → Bool
is_short word = nat_le (length word) 64

-- whether digits are a decimal number without leading zeros
abbrev pub is_decimal : List ℕ → Bool
is_decimal [] = false
is_decimal (digit ∷ []) = is_ascii_digit digit
is_decimal (digit ∷ other ∷ digits) = not (nat_eq digit 48) && list_all is_ascii_digit (digit ∷ other ∷ digits)

-- whether a word is `_` and a decimal number
abbrev pub is_automatic : List ℕ → Bool
is_automatic [] = false
is_automatic (b ∷ bytes) = nat_eq b 95 && is_decimal bytes

-- whether a word is a label: a name, or an automatic label
abbrev pub is_label : List ℕ → Bool
is_label word = is_name word || is_automatic word

-- whether it is short, if it is a name: other labels and digits have no limit
abbrev pub is_short_if_name : List ℕ → Bool
is_short_if_name word = is_short word || not (is_name word)

-- the bytes of a word, where it passes the test
abbrev pub word_that : (List ℕ → Bool) → Lexeme → Option (List ℕ)
word_that test (Word bytes) = if test bytes then Some bytes else None
word_that test other = None

-- the name that a token is
abbrev pub name_of : Lexeme → Option (List ℕ)
name_of = word_that is_name

-- the label that a token is
abbrev pub label_of : Lexeme → Option (List ℕ)
label_of = word_that is_label

-- the part of a path that a token is: a label or digits
abbrev pub part_of : Lexeme → Option (List ℕ)
part_of (Digits bytes) = Some bytes
part_of other = label_of other
