-- What one test of a byte says of another.
use Rattle.std.proofs.Common.{◌≡◌, ℕ, Bool, true, false, not, ◌&&◌, eqb, arith}
use Rattle.std.specs.Char.{is_ascii_digit}
use Rattle.std.proofs.lemmas.Bool.Decides.{nat_tests}
use Rattle.sour_tokens.specs.Byte.{is_line_feed, is_blank, begins_word, continues_word}

-- what begins a word can also go on with one
pub continues-from_begins : (b : ℕ) → begins_word b ≡ true → continues_word b ≡ true
continues-from_begins b begins = grind (arith, nat_tests)

-- a digit can go on with a word
pub continues-from_digit : (b : ℕ) → is_ascii_digit b ≡ true → continues_word b ≡ true
continues-from_digit b digit = grind (arith, nat_tests)

-- a digit begins no word
pub begins-from_digit : (b : ℕ) → is_ascii_digit b ≡ true → begins_word b ≡ false
begins-from_digit b digit = grind (arith, nat_tests)

-- a byte of no word begins none
pub begins-from_continues : (b : ℕ) → continues_word b ≡ false → begins_word b ≡ false
begins-from_continues b fails = grind (arith, nat_tests)

-- and is no digit
pub digit-from_continues : (b : ℕ) → continues_word b ≡ false → is_ascii_digit b ≡ false
digit-from_continues b fails = grind (arith, nat_tests)

-- a byte of a word is no line feed
pub line_feed-from_continues : (b : ℕ) → continues_word b ≡ true → is_line_feed b ≡ false
line_feed-from_continues b continues = grind (arith, nat_tests)

-- a byte of a word is no `#`
pub comment-from_continues : (b : ℕ) → continues_word b ≡ true → eqb b 35 ≡ false
comment-from_continues b continues = grind (arith, nat_tests)

-- a blank is no line feed
pub line_feed-from_blank : (b : ℕ) → is_blank b ≡ true → is_line_feed b ≡ false
line_feed-from_blank b blank = grind (arith, nat_tests)

-- neither a byte of a word nor a line feed nor `#`
abbrev pub is_mark : ℕ → Bool
is_mark b = not (continues_word b) && not (is_line_feed b) && not (eqb b 35)

-- a mark is no byte of a word
pub continues-from_mark : (b : ℕ) → is_mark b ≡ true → continues_word b ≡ false
continues-from_mark b mark = grind (arith, nat_tests)

-- nor a line feed
pub line_feed-from_mark : (b : ℕ) → is_mark b ≡ true → is_line_feed b ≡ false
line_feed-from_mark b mark = grind (arith, nat_tests)

-- nor `#`
pub comment-from_mark : (b : ℕ) → is_mark b ≡ true → eqb b 35 ≡ false
comment-from_mark b mark = grind (arith, nat_tests)
