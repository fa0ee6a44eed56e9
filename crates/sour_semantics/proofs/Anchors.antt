-- Labels that are those of no anchor.
use Rattle.std.proofs.Common.{◌≡◌, ◌||◌, ℕ, Bool, true, false, IsTrue, List, [], ◌∷◌, nat_eq, refl, subst}
use Rattle.std.specs.Char.{is_ascii_alphabetic}
use Rattle.std.proofs.lemmas.Bool.{eqb-true}
use Rattle.sour_syntax.specs.Program.{BeginsAsWord}
use Rattle.sour_semantics.specs.Step.{is_anchor}

-- a letter or `_` is no `@`, by what the test says
no_at-by : (byte : ℕ) (test : Bool) → nat_eq byte 64 ≡ test → IsTrue (is_ascii_alphabetic byte || nat_eq byte 95) → nat_eq byte 64 ≡ false
no_at-by byte false is begins = is
no_at-by byte true is begins =
    let Begins : ℕ → Type 0 = λ n. IsTrue (is_ascii_alphabetic n || nat_eq n 95) in
    let at : Begins 64 = subst Begins (eqb-true byte 64 is) begins in
    absurd (cc)

-- a letter or `_` is no `@`
pub no_at : (byte : ℕ) → IsTrue (is_ascii_alphabetic byte || nat_eq byte 95) → nat_eq byte 64 ≡ false
no_at byte begins = no_at-by byte (nat_eq byte 64) refl begins

-- a label that begins as a word does is that of no anchor
pub word-no_anchor : (label : List ℕ) → BeginsAsWord label → is_anchor label ≡ false
word-no_anchor [] begins = absurd begins
word-no_anchor (byte ∷ bytes) begins = no_at byte begins
