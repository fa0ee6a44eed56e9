-- Tokens of a text, which are in a set, cut apart as the grammar says.
use Rattle.std.proofs.Common.{ℕ, zero, suc, ◌≤◌, List, [], ◌∷◌, length, Option, Some, None, subst, arith}
use Rattle.std.specs.Prelude.{⊤}
use Rattle.std.specs.List.{AllByRecursion}
use Rattle.sour_syntax.proofs.Everywhere.{AllByRecursion-parts}
use Rattle.sour_lexer.specs.Placed.{Lexeme, Placed}
use Rattle.sour_lexer.specs.TokenList.{IsWellFormed}
use Rattle.sour_raw.specs.declared.kind.Kind.TheVariants.{Limit as limit}
use Rattle.sour_raw.specs.Spelling.{Tokens, ◌·◌, one, from_line, Language, less, HasRoom, each, after_separator, after_all}

-- each token is well formed
abbrev pub EachIsWellFormed : List Placed → Type 0
EachIsWellFormed ts = AllByRecursion (λ (t : Placed). IsWellFormed t.lexeme) ts

-- some such tokens, which are in the set
abbrev pub Held : Tokens → Type 0
Held A = (u : List Placed) × A u × EachIsWellFormed u

-- the tokens of the first, and those of the second
pub cut : {A B : Tokens} → Held (A · B) → Held A × Held B
cut (u, s, known) =
    let k = AllByRecursion-parts (λ (t : Placed). IsWellFormed t.lexeme) s.0 s.1 (subst EachIsWellFormed s.2 known) in
    ((s.0, s.3, k.0), (s.1, s.4, k.1))

-- what stands after a token
pub skip : {lexeme : Lexeme} {A : Tokens} → Held (one lexeme · A) → Held A
skip h = (cut h).1

-- what begins on a line
pub on_line : {line : ℕ} {A : Tokens} → Held (from_line line A) → Held A
on_line h = (h.0, h.1.0, h.2)

-- ---- lists

-- at most as many as there is room for
abbrev pub IsWithin : {X : Type 0} → Option ℕ → List X → Type 0
IsWithin None xs = ⊤
IsWithin (Some most) xs = length xs ≤ most

-- what is spelled is as P says, and what I says of the state stays so
pub record Keeps {St X : Type 0} (S : St → Language X) (step : St → X → St) (I : St → Type 0)
    (P : X → Type 0) : Type 0 where
  pub item : (st : St) → I st → (x : X) → Held (S st limit x) → P x × I (step st x)

-- what is known of some items: P of each, I of the state after them, and their number
abbrev pub AreKept : {St X : Type 0} → (St → X → St) → (St → Type 0) → (X → Type 0) → Option ℕ → St → List X → Type 0
AreKept step I P room st xs = AllByRecursion P xs × I (after_all step st xs) × IsWithin room xs

-- one more is within the limit, where there is room for it
one_more : {X : Type 0} (room : Option ℕ) (x : X) (xs : List X) → HasRoom limit room → IsWithin (less room) xs
    → IsWithin room (x ∷ xs)
one_more None x xs has within = tt
one_more (Some zero) x xs has within = absurd has
one_more (Some (suc most)) x xs has within = omega (arith, within)

-- each item of a list is so
pub each_kept : {St X : Type 0} {S : St → Language X} {step : St → X → St} {I : St → Type 0} {P : X → Type 0}
    → Keeps S step I P → (room : Option ℕ) (st : St) → I st → (xs : List X) → Held (each S step room st limit xs)
    → AreKept step I P room st xs
each_kept {X = X} keeps room st holds [] h = (tt, holds, none_within room) where
  none_within : (room : Option ℕ) → IsWithin {X = X} room []
  none_within None = tt
  none_within (Some most) = omega arith
each_kept {S = S} {step = step} keeps room st holds (x ∷ xs) (u, s, known) =
    let c : Held (S st limit x) × Held (each S step (less room) (step st x) limit xs) = cut (u, s.1, known) in
    let first = keeps.item st holds x c.0 in
    let others = each_kept keeps (less room) (step st x) first.1 xs c.1 in
    ((first.0, others.0), others.1, one_more room x xs s.0 others.2)

-- a separator before it changes nothing
pub separated : {St X : Type 0} {S : St → Language X} {step : St → X → St} {I : St → Type 0} {P : X → Type 0}
    (separator : Lexeme) → Keeps S step I P → Keeps (after_separator separator S) step I P
separated separator keeps = record { item = λ st holds x h. keeps.item st holds x (skip h) }

-- the first item and others are so
pub first_kept : {St X : Type 0} {S T : St → Language X} {step : St → X → St} {I : St → Type 0} {P : X → Type 0}
    → Keeps S step I P → Keeps T step I P → (room : Option ℕ) → HasRoom limit room → (st : St) → I st
    → (x : X) (xs : List X)
    → Held (S st limit x · each T step (less room) (step st x) limit xs) → AreKept step I P room st (x ∷ xs)
first_kept {step = step} keeps others room has st holds x xs h =
    let c = cut h in
    let first = keeps.item st holds x c.0 in
    let more = each_kept others (less room) (step st x) first.1 xs c.1 in
    ((first.0, more.0), more.1, one_more room x xs has more.2)
