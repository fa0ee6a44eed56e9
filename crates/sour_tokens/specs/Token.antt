-- What a word, digits and a symbol are.
use Rattle.std.specs.Prelude.{◌≡◌, ℕ, List, [], ◌∷◌, ◌⊎◌, IsTrue}
use Rattle.std.specs.List.{AllPass}
use Rattle.std.specs.Char.{is_ascii_digit}
use Rattle.sour_tokens.specs.declared.symbols.Symbol.{Symbol}
use Rattle.sour_tokens.specs.Byte.{begins_word, continues_word}
use Rattle.sour_tokens.specs.Symbol.{symbol_spelling}

-- a letter or `_`, and then letters, digits and `_`
abbrev pub IsWord : List ℕ → Type 0
IsWord [] = ⊥
IsWord (b ∷ bytes) = IsTrue (begins_word b) × AllPass continues_word bytes

-- one digit or more
abbrev pub IsDigits : List ℕ → Type 0
IsDigits [] = ⊥
IsDigits (b ∷ bytes) = IsTrue (is_ascii_digit b) × AllPass is_ascii_digit bytes

-- the spelling of a symbol
abbrev pub IsSymbol : List ℕ → Type 0
IsSymbol bytes = (symbol : Symbol) × (bytes ≡ symbol_spelling symbol)

-- a token is a word, digits or a symbol
abbrev pub IsToken : List ℕ → Type 0
IsToken bytes = IsWord bytes ⊎ (IsDigits bytes ⊎ IsSymbol bytes)
