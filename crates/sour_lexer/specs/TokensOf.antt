-- Which tokens a text has, and where it ends.
use Rattle.std.specs.Prelude.{◌≡◌, ℕ, ◌+◌, cond, List, [], ◌∷◌, ◌++◌, length, ◌⊎◌}
use Rattle.std.specs.List.{onto_first}
use Rattle.sour_tokens.specs.Byte.{is_line_feed}
use Rattle.sour_lexer.specs.declared.tokens.BadByte.{BadByte}
use Rattle.sour_lexer.specs.Placed.{LineEnd, Bad, Placed}
use Rattle.sour_lexer.specs.Front.{spelling, blanks, IsTokenThen, HasNoToken, HasBadByte}

-- the lines of a text: a line feed ends one, and so does the end of the text
abbrev pub text_lines : List ℕ → List (List ℕ)
text_lines [] = []
text_lines (b ∷ text) = cond (is_line_feed b) ([] ∷ text_lines text) (onto_first b (text_lines text))

-- from this column on, the bytes of a line are these tokens, and then the bytes that are left at a later column
abbrev pub Has : (line column : ℕ) → List ℕ → List Placed → (stop : ℕ) → (left : List ℕ) → Type 0
Has line column bytes [] stop left = (stop ≡ column) × (left ≡ bytes)
Has line column bytes (token ∷ tokens) stop left =
    (after : List ℕ)
    × IsTokenThen bytes token.lexeme after × (token.line ≡ line) × (token.column ≡ column + blanks bytes)
    × Has line (column + blanks bytes + length (spelling token.lexeme)) after tokens stop left

-- some tokens of a line, and then its end; nothing where it has none
abbrev pub with_line_end : (line column : ℕ) → List Placed → List Placed
with_line_end line column [] = []
with_line_end line column (token ∷ tokens) =
    token ∷ tokens ++ record { lexeme = LineEnd; line = line; column = column } ∷ []

-- the line gives these tokens: those that stand in it, and its end, one column past its last byte
pub record IsWhole (line : ℕ) (bytes : List ℕ) (tokens : List Placed) : Type 0 where
  pub own : List Placed
  pub stop : ℕ
  pub left : List ℕ
  pub has : Has line 1 bytes own stop left
  pub over : HasNoToken left
  pub all : tokens ≡ with_line_end line (length bytes + 1) own

-- the line gives these tokens: those before a byte that is in no token, and that byte
pub record IsCut (line : ℕ) (bytes : List ℕ) (tokens : List Placed) : Type 0 where
  pub own : List Placed
  pub stop : ℕ
  pub left : List ℕ
  pub why : BadByte
  pub has : Has line 1 bytes own stop left
  pub bad : HasBadByte why left
  pub all : tokens ≡ own ++ record { lexeme = Bad why; line = line; column = stop + blanks left } ∷ []

-- the lines, the first of which has this number, give these tokens; nothing comes after a line that is cut
abbrev pub LinesHave : ℕ → List (List ℕ) → List Placed → Type 0
LinesHave line [] tokens = tokens ≡ []
LinesHave line (bytes ∷ lines) tokens =
    IsCut line bytes tokens
    ⊎ ((first : List Placed) × (others : List Placed) × IsWhole line bytes first
    × LinesHave (line + 1) lines others × (tokens ≡ first ++ others))

-- the text has these tokens
abbrev pub HasTokens : List ℕ → List Placed → Type 0
HasTokens text tokens = LinesHave 1 (text_lines text) tokens

-- a line and a column, both counted from 1
pub record Position : Type 0 where
  pub line : ℕ
  pub column : ℕ

-- one column past the last byte of the last line
abbrev pub lines_end : ℕ → List (List ℕ) → Position
lines_end line [] = record { line = line; column = 1 }
lines_end line (bytes ∷ []) = record { line = line; column = length bytes + 1 }
lines_end line (bytes ∷ next ∷ lines) = lines_end (line + 1) (next ∷ lines)

-- where the text ends: a line feed at its end begins no further line
abbrev pub text_end : List ℕ → Position
text_end text = lines_end 1 (text_lines text)
