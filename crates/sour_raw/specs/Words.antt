-- A token that says something, and what is tested of it.
use Rattle.std.specs.Prelude.{◌≡◌, Bool, true, List, [], ◌∷◌, Option, Some, None, Ok, Err, if◌then◌else◌}
use Rattle.sour_lexer.specs.Placed.{Lexeme, Placed}
use Rattle.sour_raw.specs.Spelling.{Kind, form, number, limit, Language}
use Rattle.sour_raw.specs.Combinators.{Out, Reading}

-- from the first kind on the test is passed
abbrev pub Within : Kind → Kind → Bool → Type 0
Within form k passed = passed ≡ true
Within number form passed = Unit {0}
Within number number passed = passed ≡ true
Within number limit passed = passed ≡ true
Within limit form passed = Unit {0}
Within limit number passed = Unit {0}
Within limit limit passed = passed ≡ true

-- a token that says x, which passes the test from this kind on
abbrev pub word : {X : Type 0} → (Lexeme → Option X) → Kind → (X → Bool) → Language X
word says kind allowed k x ts =
    (t : Placed) × (says t.lexeme ≡ Some x) × (ts ≡ t ∷ []) × Within kind k (allowed x)

-- a token that says x, of which nothing is tested
abbrev pub saying : {X : Type 0} → (Lexeme → Option X) → Language X
saying says k x ts = (t : Placed) × (says t.lexeme ≡ Some x) × (ts ≡ t ∷ [])

-- what is given for a token that says this, or nothing
abbrev pub said : {X : Type 0} → Kind → (X → Bool) → Placed → List Placed → Option X → Out X
said kind allowed t ts None = Err (form, t ∷ ts)
said kind allowed t ts (Some x) = if allowed x then Ok (x, ts) else Err (kind, t ∷ ts)

-- reads a token that says something which passes the test; a fault of this kind where it doesn't pass
abbrev pub word_at : {X : Type 0} → (Lexeme → Option X) → Kind → (X → Bool) → Reading X
word_at says kind allowed [] = Err (form, [])
word_at says kind allowed (t ∷ ts) = said kind allowed t ts (says t.lexeme)

-- reads a token that says something
abbrev pub saying_at : {X : Type 0} → (Lexeme → Option X) → Reading X
saying_at says = word_at says limit (λ x. true)
