-- What each list of tokens of a text is like.
use Rattle.std.specs.Prelude.{List, [], ◌∷◌, ⊤}
use Rattle.std.specs.List.{All}
use Rattle.sour_tokens.specs.Token.{IsWord, IsDigits}
use Rattle.sour_lexer.specs.Placed.{Lexeme, Word, Digits, Sign, LineEnd, Bad, Placed}

-- the bytes of a word are a word's, and those of digits are digits
abbrev pub IsWellFormed : Lexeme → Type 0
IsWellFormed (Word bytes) = IsWord bytes
IsWellFormed (Digits bytes) = IsDigits bytes
IsWellFormed (Sign symbol) = ⊤
IsWellFormed LineEnd = ⊤
IsWellFormed (Bad why) = ⊤

-- so is each token
abbrev pub AreWellFormed : List Placed → Type 0
AreWellFormed tokens = All (λ token. IsWellFormed token.lexeme) tokens

-- it isn't a byte that is in no token
abbrev pub IsNotBad : Lexeme → Type 0
IsNotBad (Word bytes) = ⊤
IsNotBad (Digits bytes) = ⊤
IsNotBad (Sign symbol) = ⊤
IsNotBad LineEnd = ⊤
IsNotBad (Bad why) = ⊥

-- it is the end of a line, or a byte that is in no token
abbrev pub IsLast : Lexeme → Type 0
IsLast (Word bytes) = ⊥
IsLast (Digits bytes) = ⊥
IsLast (Sign symbol) = ⊥
IsLast LineEnd = ⊤
IsLast (Bad why) = ⊤

-- there are none, or the last of them is the end of a line or a byte that is in no token; none before it is such a byte
abbrev pub AreEnded : List Placed → Type 0
AreEnded [] = ⊤
AreEnded (token ∷ []) = IsLast token.lexeme
AreEnded (token ∷ next ∷ tokens) = IsNotBad token.lexeme × AreEnded (next ∷ tokens)
