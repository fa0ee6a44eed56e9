-- What stands next in a line, after its blanks: a token at its longest, a comment or the end, or a byte in no token.
use Rattle.std.specs.Prelude.{◌≡◌, ◌≢◌, ℕ, ◌&&◌, cond, List, [], ◌∷◌, ◌++◌, drop, nat_le, ⊤}
use Rattle.std.specs.List.{prefix_len}
use Rattle.sour_tokens.specs.Byte.{is_blank}
use Rattle.sour_tokens.specs.Symbol.{symbol_spelling}
use Rattle.sour_tokens.specs.Token.{IsWord, IsDigits, IsToken}
use Rattle.sour_lexer.specs.declared.tokens.BadByte.{BadByte}
use Rattle.sour_lexer.specs.declared.tokens.BadByte.TheVariants.{NotAscii, NoToken}
use Rattle.sour_lexer.specs.Placed.{Lexeme, Word, Digits, Sign, LineEnd, Bad}

-- the bytes of a token; the end of a line and a byte that is in no token have none
abbrev pub spelling : Lexeme → List ℕ
spelling (Word bytes) = bytes
spelling (Digits bytes) = bytes
spelling (Sign symbol) = symbol_spelling symbol
spelling LineEnd = []
spelling (Bad why) = []

-- the bytes are those of its kind
abbrev pub IsSpelled : Lexeme → Type 0
IsSpelled (Word bytes) = IsWord bytes
IsSpelled (Digits bytes) = IsDigits bytes
IsSpelled (Sign symbol) = ⊤
IsSpelled LineEnd = ⊥
IsSpelled (Bad why) = ⊥

-- how many blanks stand at the front
abbrev pub blanks : List ℕ → ℕ
blanks bytes = prefix_len is_blank bytes

-- what comes after them
abbrev pub after_blanks : List ℕ → List ℕ
after_blanks bytes = drop (blanks bytes) bytes

-- with none of the bytes after it, the token would be a longer one
abbrev pub IsLongest : List ℕ → List ℕ → Type 0
IsLongest token after = (more rest : List ℕ) → after ≡ more ++ rest → IsToken (token ++ more) → more ≡ []

-- after the blanks comes this token at its longest, and then the bytes after it
pub record IsTokenThen (bytes : List ℕ) (lexeme : Lexeme) (after : List ℕ) : Type 0 where
  pub whole : after_blanks bytes ≡ spelling lexeme ++ after
  pub spelled : IsSpelled lexeme
  pub longest : IsLongest (spelling lexeme) after

-- nothing, or `#` and then any bytes
abbrev pub IsComment : List ℕ → Type 0
IsComment [] = ⊤
IsComment (b ∷ bytes) = b ≡ 35

-- after the blanks comes nothing or a comment
abbrev pub HasNoToken : List ℕ → Type 0
HasNoToken bytes = IsComment (after_blanks bytes)

-- why a byte that isn't a blank is in no token
abbrev pub why_bad : ℕ → BadByte
why_bad b = cond (nat_le 33 b && nat_le b 126) NoToken NotAscii

-- these bytes begin with a byte that begins no token and no comment
abbrev pub BeginsNone : BadByte → List ℕ → Type 0
BeginsNone why [] = ⊥
BeginsNone why (b ∷ bytes) =
    (why ≡ why_bad b) × (b ≢ 35) × ((token after : List ℕ) → b ∷ bytes ≡ token ++ after → IsToken token → ⊥)

-- after the blanks comes a byte that is in no token
abbrev pub HasBadByte : BadByte → List ℕ → Type 0
HasBadByte why bytes = BeginsNone why (after_blanks bytes)
