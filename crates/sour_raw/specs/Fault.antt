-- Where a fault stands, as a statement about a language.
use Rattle.std.specs.Prelude.{◌≡◌, ℕ, zero, suc, Bool, true, false, List, [], ◌∷◌, ◌++◌, ◌||◌, not}
use Rattle.sour_tokens.specs.declared.symbols.Symbol.TheVariants.{Arrow, OpenBracket, Comma, Semicolon}
use Rattle.sour_lexer.specs.Placed.{Lexeme, Placed, Sign, Digits}
use Rattle.sour_raw.specs.Spelling.{Kind, form, number, limit, Language}

-- the kind that comes before this one; none comes before Form, which stands for itself there
abbrev pub earlier : Kind → Kind
earlier form = form
earlier number = form
earlier limit = number

-- whether the token stands between the items of a list
abbrev pub separates : Lexeme → Bool
separates (Sign Comma) = true
separates (Sign Semicolon) = true
separates other = false

-- whether the token makes the word before it a variable, at the head of a line
abbrev pub decides : Lexeme → Bool
decides (Sign Arrow) = true
decides (Sign OpenBracket) = true
decides other = false

-- whether an item may begin with the token: it neither separates items nor makes the word before it a variable
abbrev pub may_begin_item : Lexeme → Bool
may_begin_item lexeme = not (separates lexeme || decides lexeme)

-- whether the token is digits
abbrev pub is_digits : Lexeme → Bool
is_digits (Digits bytes) = true
is_digits other = false

-- the first token is the same in both lists, and so are the n tokens after it; where one list ends, the other does too
abbrev pub Same : ℕ → List Placed → List Placed → Type 0
Same n [] [] = Unit {0}
Same n [] (u ∷ us) = ⊥
Same n (t ∷ ts) [] = ⊥
Same zero (t ∷ ts) (u ∷ us) = t ≡ u
Same (suc n) (t ∷ ts) (u ∷ us) = (t ≡ u) × Same n ts us

-- nothing, or one separator
abbrev pub IsBetween : List Placed → Type 0
IsBetween [] = Unit {0}
IsBetween (t ∷ []) = separates t.lexeme ≡ true
IsBetween (t ∷ u ∷ ts) = ⊥

-- What stands at a fault that takes so many tokens after its first one to be known. Form may stand anywhere, Number at
-- digits. Limit stands at the first token of the item that is one too many, or of the name that is too long: not at the
-- separator before the item, though nothing within the limits goes on with that one either; and not at the `<-` or `[`
-- that makes a name at the head of a line one variable too many, where a label may still be, but at the name, which
-- then takes one more token to be known.
abbrev pub IsPlaced : Kind → ℕ → List Placed → Type 0
IsPlaced form zero ts = Unit {0}
IsPlaced form (suc n) ts = ⊥
IsPlaced number zero [] = ⊥
IsPlaced number zero (t ∷ ts) = is_digits t.lexeme ≡ true
IsPlaced number (suc n) ts = ⊥
IsPlaced limit zero [] = ⊥
IsPlaced limit zero (t ∷ ts) = may_begin_item t.lexeme ≡ true
IsPlaced limit (suc zero) [] = ⊥
IsPlaced limit (suc zero) (t ∷ []) = ⊥
IsPlaced limit (suc zero) (t ∷ u ∷ ts) = (may_begin_item t.lexeme ≡ true) × (decides u.lexeme ≡ true)
IsPlaced limit (suc (suc n)) ts = ⊥

-- the second goes on with the tokens of the first that make a fault of this kind known; a fault of Form asks for none
abbrev pub Follows : Kind → ℕ → List Placed → List Placed → Type 0
Follows form n rest other = Unit {0}
Follows number n rest other = Same n rest other
Follows limit n rest other = Same n rest other

-- how a fault of this kind, where this is left, is known
pub record Spot (kind : Kind) (rest : List Placed) : Type 0 where
  -- the separator that may stand between what is within the limits and the fault
  pub separator : List Placed
  -- how many tokens after the first one it takes
  pub ahead : ℕ
  pub between : IsBetween separator
  pub placed : IsPlaced kind ahead rest

-- The tokens before the place where rest is left go on within the limits, but for a separator. With the next ones
-- something goes on within the kind before this one.
pub record Reaches {X : Type 0} (S : Language X) (kind : Kind) (ts rest : List Placed) : Type 0 where
  pub spot : Spot kind rest
  pub base : List Placed
  pub whole : ts ≡ base ++ (spot.separator ++ rest)
  pub before : (x : X) × (more : List Placed) × S limit x (base ++ more)
  pub goes : (x : X) × (other : List Placed) × Follows kind spot.ahead rest other
      × S (earlier kind) x (base ++ (spot.separator ++ other))

-- the fault of this kind stands where rest is left: with the next tokens nothing goes on within this kind
pub record FaultAt {X : Type 0} (S : Language X) (kind : Kind) (ts rest : List Placed) : Type 0 where
  pub reached : Reaches S kind ts rest
  pub stops : (x : X) (other : List Placed) → Same reached.spot.ahead rest other
      → S kind x (reached.base ++ (reached.spot.separator ++ other)) → ⊥
