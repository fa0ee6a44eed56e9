-- Numbers in i64, and what a division leaves.
use Rattle.std.proofs.Common.{◌≡◌, ◌≢◌, ◌^◌, ◌<◌, ◌≤◌, Bool, true, false, cond, Ok, Err, Option, None, Some, Result, sym, ap, ◌∙◌, refl, arith}
use Rattle.std.specs.Prelude.{ℤ, pos, negsuc, ◌+ℤ◌, ◌-ℤ◌, ◌*ℤ◌, int_div, int_rem, FitsSigned, SomeIff, unsigned_abs}
use Rattle.std.specs.Int.{w64, CanDivide}
use mir.Val.{to_z, of_z}
use Rattle.std.specs.Ordering.{int_eq}
use Rattle.std.proofs.lemmas.Int.{quot-rem, ints, rem_below, fits_signed_from_abs, to_z-of_z}
use Rattle.std.proofs.lemmas.Bool.Decides.{Decides-int_eq, nat_tests}
use lib.IntN.{*ℤ_comm}
use Rattle.sour_syntax.specs.declared.literal.Literal.TheVariants.{Number}
use Rattle.sour_syntax.specs.declared.literal.Value.{Value}
use Rattle.sour_syntax.specs.declared.literal.Value.TheVariants.{Plain}
use Rattle.sour_syntax.specs.declared.trap.Trap.{Trap}
use Rattle.sour_syntax.specs.declared.trap.Trap.TheVariants.{ZeroDivisor}
use Rattle.sour_semantics.specs.Evaluation.{number, divided}

-- the test whether a number is 0 says no where it is another
tested : (b : ℤ) (test : Bool) → int_eq b (pos 0) ≡ test → b ≢ pos 0 → test ≡ false
tested b true is other = absurd (other ((Decides-int_eq b (pos 0)).0 is))
tested b false is other = refl

-- by a divisor that isn't 0
pub divided-nonzero : (b z : ℤ) → b ≢ pos 0 → divided b z ≡ number z
divided-nonzero b z other = ap (λ test. cond test (Err ZeroDivisor) (number z)) (tested b (int_eq b (pos 0)) refl other)

-- what a division leaves
pub remainder-int_rem : (a b : ℤ) → a -ℤ (b *ℤ int_div a b) ≡ int_rem a b
remainder-int_rem a b =
    let product : int_div a b *ℤ b +ℤ int_rem a b ≡ a = quot-rem a b in
    let swapped : int_div a b *ℤ b ≡ b *ℤ int_div a b = *ℤ_comm (int_div a b) b in
    omega (arith, ints, product, swapped)

-- numbers other than 0 have absolute values above it
nonzero-abs : (b : ℤ) → b ≢ pos 0 → 0 < unsigned_abs b
nonzero-abs (pos n) other = let positive : n ≢ 0 = λ zero. other (ap pos zero) in omega (arith, positive)
nonzero-abs (negsuc n) other = omega arith

-- and those of numbers in i64 are no greater than 2 to the power of 63
abs-fits : (b : ℤ) → FitsSigned w64 b → unsigned_abs b ≤ 2 ^ 63
abs-fits (pos n) fits = omega (arith, fits)
abs-fits (negsuc n) fits = omega (arith, fits)

-- what a division leaves lies in i64, if the divisor does and is not 0
pub fits-int_rem : (a b : ℤ) → b ≢ pos 0 → FitsSigned w64 b → FitsSigned w64 (int_rem a b)
fits-int_rem a b other fits =
    let below : unsigned_abs (int_rem a b) < 2 ^ 63 = omega (arith, rem_below a b (nonzero-abs b other), abs-fits b fits) in
    fits_signed_from_abs w64 (int_rem a b) below

-- a number that lies in i64 comes to itself, and to no trap
pub number-fits : (z : ℤ) → FitsSigned w64 z → number z ≡ Ok (Plain (Number z))
number-fits (pos n) fits = grind (arith, nat_tests, fits)
number-fits (negsuc n) fits = grind (arith, nat_tests, fits)

-- a number that is there exactly where one thing holds is there exactly where an equivalent one holds
changed : {P Q : Type 0} (whole : Option ℤ) (z : ℤ) → (P → Q) → (Q → P) → SomeIff whole P z → SomeIff whole Q z
changed None z there back told = λ q. told (back q)
changed (Some number) z there back told = (there told.0, told.1)

-- what a checked division gives
pub divided-checked : (a b : ℤ) (whole : Option ℤ) (result : Result Value Trap) → FitsSigned w64 a → FitsSigned w64 b → (of_z w64 b ≡ 0 → ⊥)
    → SomeIff whole (CanDivide w64 (to_z w64 (of_z w64 a)) (to_z w64 (of_z w64 b))) (int_div (to_z w64 (of_z w64 a)) (to_z w64 (of_z w64 b)))
    → ((z : ℤ) → SomeIff whole (FitsSigned w64 z) z → number z ≡ result) → divided b (int_div a b) ≡ result
divided-checked a b whole result fits_a fits_b other told given =
    let bits : 0 < of_z w64 b = omega (arith, other) in
    let exact : SomeIff whole (CanDivide w64 a b) (int_div a b) = simp to_z-of_z at told in
    divided-nonzero b (int_div a b) (λ zero. other (ap (of_z w64) zero))
    ∙ given (int_div a b) (changed whole (int_div a b) (λ can. can.1) (λ fits. (bits, fits)) exact)

-- what a wrapping remainder gives
pub divided-left_over : (a b left : ℤ) → FitsSigned w64 a → FitsSigned w64 b → (of_z w64 b ≡ 0 → ⊥)
    → left ≡ int_rem (to_z w64 (of_z w64 a)) (to_z w64 (of_z w64 b))
    → divided b (a -ℤ (b *ℤ int_div a b)) ≡ Ok (Plain (Number (to_z w64 (of_z w64 left))))
divided-left_over a b left fits_a fits_b other told =
    let apart : b ≢ pos 0 = λ zero. other (ap (of_z w64) zero) in
    let fits : FitsSigned w64 (int_rem a b) = fits-int_rem a b apart fits_b in
    let exact : left ≡ int_rem a b = simp to_z-of_z at told in
    divided-nonzero b (a -ℤ (b *ℤ int_div a b)) apart
    ∙ ap number (remainder-int_rem a b)
    ∙ number-fits (int_rem a b) fits
    ∙ ap (λ z. Ok (Plain (Number z))) (sym (to_z-of_z w64 (int_rem a b) fits) ∙ ap (λ z. to_z w64 (of_z w64 z)) (sym exact))
