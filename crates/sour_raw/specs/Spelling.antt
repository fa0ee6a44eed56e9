-- How sets of lists of tokens are put together, and what a language is.
use Rattle.std.specs.Prelude.{◌≡◌, ℕ, zero, suc, List, [], ◌∷◌, ◌++◌, Option, Some, None}
use Rattle.sour_lexer.specs.Placed.{Lexeme, Placed}
-- form: the grammar; number: within the ranges of numbers too; limit: within all limits too
pub use Rattle.sour_raw.specs.declared.kind.Kind.{Kind}
pub use Rattle.sour_raw.specs.declared.kind.Kind.TheVariants.{Form as form, Number as number, Limit as limit}

-- a set of lists of tokens
abbrev pub Tokens : Type 1
Tokens = List Placed → Type 0

-- the first, and then the second
infixr 6 ◌·◌
abbrev pub ◌·◌ : Tokens → Tokens → Tokens
(A · B) ts = (u v : List Placed) × (ts ≡ u ++ v) × A u × B v

-- this very token alone, wherever it stands
abbrev pub one : Lexeme → Tokens
one lexeme ts = (t : Placed) × (t.lexeme ≡ lexeme) × (ts ≡ t ∷ [])

-- the line of the first token; 0 where there is none
abbrev pub line_of : List Placed → ℕ
line_of [] = 0
line_of (t ∷ ts) = t.line

-- the same lists, where they begin on this line
abbrev pub from_line : ℕ → Tokens → Tokens
from_line line A ts = A ts × (line_of ts ≡ line)

-- what spells each value within each kind
abbrev pub Language : Type 0 → Type 1
Language X = Kind → X → Tokens

-- room for one fewer
abbrev pub less : Option ℕ → Option ℕ
less None = None
less (Some zero) = Some zero
less (Some (suc n)) = Some n

-- within the limits there is room for one more; None is no limit
abbrev pub HasRoom : Kind → Option ℕ → Type 0
HasRoom form room = Unit {0}
HasRoom number room = Unit {0}
HasRoom limit None = Unit {0}
HasRoom limit (Some zero) = ⊥
HasRoom limit (Some (suc n)) = Unit {0}

-- each in turn, at most as many as there is room for; step says what is known after an item
abbrev pub each : {St X : Type 0} → (St → Language X) → (St → X → St) → Option ℕ → St → Language (List X)
each S step room st k [] ts = ts ≡ []
each S step room st k (x ∷ xs) ts = HasRoom k room × (S st k x · each S step (less room) (step st x) k xs) ts

-- each item with this token before it
abbrev pub after_separator : {St X : Type 0} → Lexeme → (St → Language X) → St → Language X
after_separator separator S st k x = one separator · S st k x

-- none, or one and then others after this token
abbrev pub listed : {St X : Type 0} → Lexeme → (St → Language X) → (St → X → St) → Option ℕ → St → Language (List X)
listed separator S step room st k [] ts = ts ≡ []
listed separator S step room st k (x ∷ xs) ts =
    (S st k x · each (after_separator separator S) step (less room) (step st x) k xs) ts

-- one and then others
abbrev pub one_or_more : {St X : Type 0} → (St → Language X) → (St → X → St) → Option ℕ → St → Language (List X)
one_or_more S step room st k [] ts = ⊥
one_or_more S step room st k (x ∷ xs) ts = (S st k x · each S step (less room) (step st x) k xs) ts

-- what is known after each of these
abbrev pub after_all : {St X : Type 0} → (St → X → St) → St → List X → St
after_all step st [] = st
after_all step st (x ∷ xs) = after_all step (step st x) xs

-- nothing is learned from an item
abbrev pub alone : {St X : Type 0} → St → X → St
alone st x = st
