-- The labels of lines that the text gives none have no `/`.
use Rattle.std.proofs.Common.{◌≢◌, ◌^◌, ◌<◌, ℕ, List, [], ◌∷◌, refl, subst, arith}
use Rattle.std.specs.List.{AllByRecursion}
use Rattle.std.specs.Char.{digit_value}
use Rattle.std.specs.Str.Parse.{AllDigits}
use Rattle.std.proofs.lemmas.Fmt.{decimal_is_IsNumeral}
use Rattle.sour_syntax.specs.Labels.{automatic_label}
use Rattle.sour_syntax.specs.Program.{IsUnqualifiedName}

-- a digit of a number is none
digits_no_slash : (digits : List ℕ) → AllDigits 10 digits → AllByRecursion (λ byte. byte ≢ 47) digits
digits_no_slash [] all = tt
digits_no_slash (digit ∷ digits) all =
    ((λ same. let small : digit_value 47 < 10 = subst (λ byte. digit_value byte < 10) same all.0 in absurd (omega (arith, small))), digits_no_slash digits all.1)

-- so an automatic label is unqualified
pub unqualified_automatic : (place : ℕ) → place < 2 ^ 64 → IsUnqualifiedName (automatic_label place)
unqualified_automatic place small = record { begins = refl; whole = ((λ same. cc), digits_no_slash _ (decimal_is_IsNumeral place small).0.1) }
