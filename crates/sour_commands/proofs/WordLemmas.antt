-- Numbers among the words.
use Rattle.std.proofs.Common.{◌≡◌, ◌↔◌, ◌≤◌, ◌<◌, ◌^◌, ℕ, true, List, [], ◌∷◌, Option, Some, None, length, ap, sym, ◌∙◌, arith}
use Rattle.std.specs.Char.{is_ascii_digit}
use Rattle.std.specs.List.{AllPass}
use Rattle.std.proofs.lemmas.List.Elements.{All-head, All-tail, All-cons}
use Rattle.std.specs.Option.{SomeIff}
use Rattle.std.specs.Str.Parse.{AllDigits, digits_value}
use Rattle.std.proofs.lemmas.Str.Parse.{digits_value_short, numerals_by_value, tells_digits}
use Rattle.sour_tokens.specs.Token.{IsDigits}
use Rattle.sour_commands.proofs.DigitLemmas.{AllDigits-from_token}
use Rattle.sour_commands.specs.Words.{WritesNumber, IsBudget}

-- eight digits write a number of less than 64 bits
short-fits : (word : List ℕ) → IsDigits word → length word ≤ 8 → digits_value 10 word < 2 ^ 64
short-fits word digits short =
    let numerals = numerals_by_value (AllDigits 10) tells_digits in
    let below : digits_value 10 word < 10 ^ 8 =
    digits_value_short numerals word 8 (AllDigits-from_token word digits) short in
    omega (arith, below)

-- what is read of one to eight digits is the number that they write
pub WritesNumber-read : (word : List ℕ) (read : Option ℕ) → IsDigits word → length word ≤ 8
    → SomeIff read (digits_value 10 word < 2 ^ 64) (digits_value 10 word)
    → (number : ℕ) → WritesNumber number word ↔ (read ≡ Some number)
WritesNumber-read word None digits short told number = absurd (told (short-fits word digits short))
WritesNumber-read word (Some found) digits short told number = (
  λ writes. ap Some (told.1 ∙ sym writes.value),
  λ same. let is : found ≡ number = cc in record { digits = digits; short = short; value = sym is ∙ told.1 },
)

-- digits, at least one of them
pub IsDigits-pass : (word : List ℕ) → 1 ≤ length word → AllPass is_ascii_digit word → IsDigits word
IsDigits-pass [] some pass = absurd (omega arith)
IsDigits-pass (b ∷ bytes) some pass =
    (All-head (λ c. is_ascii_digit c ≡ true) b bytes pass, All-tail (λ c. is_ascii_digit c ≡ true) b bytes pass)

-- where a word is digits, each of its bytes is one
pub pass-IsDigits : (word : List ℕ) → IsDigits word → AllPass is_ascii_digit word
pass-IsDigits [] digits = absurd digits
pass-IsDigits (b ∷ bytes) digits = All-cons (λ c. is_ascii_digit c ≡ true) b bytes digits.0 digits.1

-- the number that a word writes is a budget where it is within the limits
pub budget-some : (word : List ℕ) (found : ℕ) (kept : Option ℕ)
    → ((number : ℕ) → WritesNumber number word ↔ (Some found ≡ Some number))
    → ((other : ℕ) → ((other ≡ found) × IsBudget other) ↔ (kept ≡ Some other))
    → (budget : ℕ) → (WritesNumber budget word × IsBudget budget) ↔ (kept ≡ Some budget)
budget-some word found kept told limits budget = (
  λ both. let same : Some found ≡ Some budget = (told budget).0 both.0 in
      let is : budget ≡ found = cc in (limits budget).0 (is, both.1),
  λ is. let both = (limits budget).1 is in ((told budget).1 (ap Some (sym both.0)), both.1),
)

-- a word that writes no number gives no budget
pub budget-none : (word : List ℕ) → ((number : ℕ) → WritesNumber number word ↔ (◌≡◌ {A = Option ℕ} None (Some number)))
    → (budget : ℕ) → (WritesNumber budget word × IsBudget budget) ↔ (◌≡◌ {A = Option ℕ} None (Some budget))
budget-none word told budget = (λ both. (told budget).0 both.0, λ is. cc)
