-- The words and digits of a raw job that is written are spelled as their kinds.
use Rattle.std.proofs.Common.{◌≡◌, ℕ, zero, suc, ◌<◌, ◌^◌, Bool, true, false, ◌&&◌, List, [], ◌∷◌, length, get_or, decimal, refl, sym, ap, subst, inl, inr, arith}
use Rattle.std.specs.List.{AllPass, list_all}
use Rattle.std.specs.Char.{is_ascii_digit}
use Rattle.std.specs.Str.Parse.{AllDigits}
use Rattle.std.proofs.lemmas.Bool.{and_parts}
use Rattle.std.proofs.lemmas.Bool.Decides.{nat_tests}
use Rattle.std.proofs.lemmas.Fmt.{decimal_is_IsNumeral, decimal_digit, first_decimal}
use Rattle.std.proofs.lemmas.List.Elements.{All-nil, All-cons, All-weaker}
use Rattle.std.proofs.lemmas.List.Sums.{AllPass-from_list_all}
use Rattle.std.proofs.lemmas.Str.Parse.{digit_at}
use Rattle.sour_tokens.specs.Byte.{begins_word, continues_word}
use Rattle.sour_tokens.specs.Token.{IsWord, IsDigits}
use Rattle.sour_lexer.proofs.ByteLaws.{continues-from_digit}
use Rattle.sour_raw.specs.Written.{IsDecimal, IsLabel}

-- whether bytes are a word
abbrev pub is_word : List ℕ → Bool
is_word [] = false
is_word (b ∷ bytes) = begins_word b && list_all continues_word bytes

-- bytes that pass the test are a word
pub tested_word : (bytes : List ℕ) → is_word bytes ≡ true → IsWord bytes
tested_word [] e = absurd cc
tested_word (b ∷ bytes) e =
    let p = and_parts _ _ e in (p.0, AllPass-from_list_all continues_word bytes p.1)

-- digits go on with a word
digits_continue : (digits : List ℕ) → IsDigits digits → AllPass continues_word digits
digits_continue [] is = absurd is
digits_continue (d ∷ digits) is =
    All-weaker (λ x. is_ascii_digit x ≡ true) (λ x. continues_word x ≡ true) continues-from_digit (d ∷ digits)
    (All-cons (λ x. is_ascii_digit x ≡ true) d digits is.0 is.1)

-- a decimal number is digits
decimal_digits : (digits : List ℕ) → IsDecimal digits → IsDigits digits
decimal_digits [] is = absurd is
decimal_digits (d ∷ []) is = is
decimal_digits (d ∷ e ∷ digits) is = is.1

-- a label is a word
pub label_word : (label : List ℕ) → IsLabel label → IsWord label
label_word label (inl is) = is.word
label_word label (inr (digits, whole, is)) =
    subst IsWord (sym whole) (refl, digits_continue digits (decimal_digits digits is))

-- each digit of a numeral is one
all_digits : (digits : List ℕ) → AllDigits 10 digits → AllPass is_ascii_digit digits
all_digits [] all = All-nil (λ x. is_ascii_digit x ≡ true)
all_digits (d ∷ digits) all =
    let first = digit_at (d ∷ digits) 0 all (omega arith) in
    let is : is_ascii_digit d ≡ true = grind (arith, nat_tests, first) in
    All-cons (λ x. is_ascii_digit x ≡ true) d digits is (all_digits digits all.1)

-- some digits of a numeral are digits
some_digits : (digits : List ℕ) → 0 < length digits → AllDigits 10 digits → IsDigits digits
some_digits [] some all = absurd (omega arith)
some_digits (d ∷ digits) some all =
    let first = digit_at (d ∷ digits) 0 all (omega arith) in
    let is : is_ascii_digit d ≡ true = grind (arith, nat_tests, first) in (is, all_digits digits all.1)

-- a number below 2 ^ 64 in decimal is digits
pub decimal_spelled : (n : ℕ) → n < 2 ^ 64 → IsDigits (decimal n)
decimal_spelled n small = let a = (decimal_is_IsNumeral n small).0 in some_digits (decimal n) a.0 a.1

-- digits of which the first isn't 0, or there is one alone, are a decimal number
decimal_number : (digits : List ℕ) → IsDigits digits → (1 < length digits → 48 < get_or digits 0 0) → IsDecimal digits
decimal_number [] is first = absurd is
decimal_number (d ∷ []) is first = is
decimal_number (d ∷ e ∷ digits) is first =
    let more : 48 < d = first (omega arith) in ((λ zero. omega arith), is)

-- what a number is written as in decimal is a decimal number
pub decimal_is : (n : ℕ) → n < 2 ^ 64 → IsDecimal (decimal n)
decimal_is zero small =
    decimal_number (decimal 0) (decimal_spelled 0 small)
    (λ more. absurd (omega (arith, more, ap length (decimal_digit 0 (omega arith)))))
decimal_is (suc n) small =
    decimal_number (decimal (suc n)) (decimal_spelled (suc n) small) (λ more. first_decimal (suc n) (omega arith) small)
