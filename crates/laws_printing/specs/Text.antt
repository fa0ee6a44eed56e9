-- What is written for lines of pieces, and which tokens they are.
use Rattle.std.specs.Prelude.{◌≡◌, ℕ, ◌+◌, Bool, true, List, [], ◌∷◌, ◌++◌, length, get_or, not, ◌==◌, ◌&&◌, ◌||◌, ⊤}
use Rattle.std.specs.List.{AllByRecursion}
use Rattle.sour_tokens.specs.Byte.{continues_word}
use Rattle.sour_tokens.specs.Symbol.{symbol_spelling}
use Rattle.sour_lexer.specs.Placed.{Lexeme, Word, Digits, Sign, LineEnd, Bad, Placed}
use Rattle.sour_lexer.specs.Front.{spelling, IsSpelled}
use Rattle.sour_lexer.specs.TokensOf.{with_line_end}
use Rattle.laws_printing.specs.Pieces.{Piece, Token, Blank}

-- the bytes of pieces: a blank is a space
abbrev pub bytes_of : List Piece → List ℕ
bytes_of [] = []
bytes_of (Token lexeme ∷ pieces) = spelling lexeme ++ bytes_of pieces
bytes_of (Blank ∷ pieces) = 32 ∷ bytes_of pieces

-- the bytes of lines, each ended by a line feed
abbrev pub text_of : List (List Piece) → List ℕ
text_of [] = []
text_of (pieces ∷ lines) = bytes_of pieces ++ 10 ∷ text_of lines

-- the tokens of pieces from this column of a line on
abbrev pub line_tokens : (line column : ℕ) → List Piece → List Placed
line_tokens line column [] = []
line_tokens line column (Token lexeme ∷ pieces) =
    record { lexeme = lexeme; line = line; column = column }
    ∷ line_tokens line (column + length (spelling lexeme)) pieces
line_tokens line column (Blank ∷ pieces) = line_tokens line (column + 1) pieces

-- the tokens of lines, of which the first has this number
abbrev pub text_tokens : ℕ → List (List Piece) → List Placed
text_tokens line [] = []
text_tokens line (pieces ∷ lines) =
    with_line_end line (length (bytes_of pieces) + 1) (line_tokens line 1 pieces) ++ text_tokens (line + 1) lines

-- whether a symbol is these two bytes
abbrev pub is_double : ℕ → ℕ → Bool
is_double a b =
    (a == 60 && (b == 45 || b == 61)) || ((a == 61 || a == 33 || a == 62) && b == 61) || (a == 38 && b == 38)
    || (a == 124 && b == 124)

-- whether the token is as long as it can be before this byte
abbrev pub may_precede : Lexeme → ℕ → Bool
may_precede (Word bytes) b = not (continues_word b)
may_precede (Digits bytes) b = not (continues_word b)
may_precede (Sign symbol) b = not (is_double (get_or (symbol_spelling symbol) 0 0) b)
may_precede LineEnd b = true
may_precede (Bad why) b = true

-- the token is as long as it can be before these bytes
abbrev pub MayPrecede : Lexeme → List ℕ → Type 0
MayPrecede lexeme [] = ⊤
MayPrecede lexeme (b ∷ bytes) = may_precede lexeme b ≡ true

-- each token has the bytes of its kind, and none is made longer by what is written after it
abbrev pub AreApart : List Piece → Type 0
AreApart [] = ⊤
AreApart (Token lexeme ∷ pieces) = IsSpelled lexeme × MayPrecede lexeme (bytes_of pieces) × AreApart pieces
AreApart (Blank ∷ pieces) = AreApart pieces

-- so it is in each line
abbrev pub AreLinesApart : List (List Piece) → Type 0
AreLinesApart lines = AllByRecursion AreApart lines
