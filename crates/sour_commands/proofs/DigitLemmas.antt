-- The number that digits write, as std reads it.
use Rattle.std.proofs.Common.{◌≡◌, ℕ, ◌<◌, ◌^◌, true, List, [], ◌∷◌, length, arith, Result, Ok, Err}
use Rattle.std.specs.Char.{is_ascii_digit, digit_value}
use Rattle.std.specs.List.{AllPass}
use Rattle.std.specs.Result.{OkIff, result_ok}
use Rattle.std.specs.Option.{SomeIff}
use Rattle.std.specs.Str.Parse.{AllDigits, digits_value, ParsesUnsigned}
use Rattle.std.proofs.lemmas.Bool.Decides.{nat_tests}
use Rattle.std.proofs.lemmas.List.Elements.{All-head, All-tail}
use Rattle.std.proofs.lemmas.Str.Parse.{parse_digits, numerals_by_value, tells_digits}
use Rattle.sour_tokens.specs.Token.{IsDigits}

-- the value of an ASCII digit is below ten
digit_below : (b : ℕ) → is_ascii_digit b ≡ true → digit_value b < 10
digit_below b digit = grind (arith, nat_tests)

-- bytes that are all ASCII digits are decimal digits
all_digits : (bytes : List ℕ) → AllPass is_ascii_digit bytes → AllDigits 10 bytes
all_digits [] pass = tt
all_digits (b ∷ bytes) pass =
    let P = λ (c : ℕ). is_ascii_digit c ≡ true in
    (digit_below b (All-head P b bytes pass), all_digits bytes (All-tail P b bytes pass))

-- the bytes of a token of digits are decimal digits
pub AllDigits-from_token : (bytes : List ℕ) → IsDigits bytes → AllDigits 10 bytes
AllDigits-from_token [] digits = absurd digits
AllDigits-from_token (b ∷ bytes) digits = (digit_below b digits.0, all_digits bytes digits.1)

-- and there is one
length-from_token : (bytes : List ℕ) → IsDigits bytes → 0 < length bytes
length-from_token [] digits = absurd digits
length-from_token (b ∷ bytes) digits = omega arith

-- a part of the condition that holds may be left out
OkIff-second : {E : Type 0} (r : Result ℕ E) (P Q : Type 0) (v : ℕ) → P → OkIff r (P × Q) v → OkIff r Q v
OkIff-second (Ok n) P Q v p is = (is.0.1, is.1)
OkIff-second (Err e) P Q v p is = λ q. is (p, q)

-- the same of an `Option`
SomeIff-result_ok : {E : Type 0} (r : Result ℕ E) (P : Type 0) (v : ℕ) → OkIff r P v → SomeIff (result_ok r) P v
SomeIff-result_ok (Ok n) P v is = is
SomeIff-result_ok (Err e) P v is = is

-- what `parse` reads of them
pub parse_from_token : {E : Type 0} (bytes : List ℕ) (r : Result ℕ E) → IsDigits bytes → ParsesUnsigned 64 10 bytes r
    → SomeIff (result_ok r) (digits_value 10 bytes < 2 ^ 64) (digits_value 10 bytes)
parse_from_token bytes r digits parses =
    let value = digits_value 10 bytes in
    let read = parse_digits (numerals_by_value (AllDigits 10) tells_digits) 64 bytes r parses
    (AllDigits-from_token bytes digits) in
    SomeIff-result_ok r (value < 2 ^ 64) value
    (OkIff-second r (0 < length bytes) (value < 2 ^ 64) value (length-from_token bytes digits) read)
