-- What the parts of the code give.
use Rattle.std.specs.Prelude.{◌≡◌, ℕ, List, ◌++◌, drop}
use Rattle.std.specs.List.{before_first, position_or_len}
use Rattle.sour_tokens.specs.Byte.{is_line_feed}
use Rattle.sour_lexer.specs.declared.front.Front.{Front}
use Rattle.sour_lexer.specs.declared.front.Front.TheVariants as front
use Rattle.sour_lexer.specs.declared.lines.LineRead.{LineRead}
use Rattle.sour_lexer.specs.declared.lines.LineRead.TheVariants as read
use Rattle.sour_lexer.specs.Placed.{Placed, lexeme_of}
use Rattle.sour_lexer.specs.Front.{spelling, IsSpelled, IsLongest, IsComment, BeginsNone}
use Rattle.sour_lexer.specs.TokensOf.{IsWhole, IsCut}

-- the first line of the bytes
abbrev pub first_line : List ℕ → List ℕ
first_line bytes = before_first is_line_feed bytes

-- its line feed and what comes after it
abbrev pub after_line : List ℕ → List ℕ
after_line bytes = drop (position_or_len is_line_feed bytes) bytes

-- the bytes begin with this token at its longest; or their first line is a comment or nothing, and what comes after
-- it is left; or it begins with a byte that is in no token
abbrev pub IsFront : Front → List ℕ → Type 0
IsFront (front.Token token after) bytes =
    let lexeme = lexeme_of token in
    (bytes ≡ spelling lexeme ++ after.now) × IsSpelled lexeme × IsLongest (spelling lexeme) after.now
IsFront (front.LineEnd left) bytes = IsComment (first_line bytes) × (left.now ≡ after_line bytes)
IsFront (front.Bad why) bytes = BeginsNone why (first_line bytes)

-- the first line of the bytes gives these tokens, and what comes after it is left; or it is cut
abbrev pub IsLineRead : LineRead → (line : ℕ) → List ℕ → List Placed → Type 0
IsLineRead (read.Whole left) line bytes tokens =
    IsWhole line (first_line bytes) tokens × (left.now ≡ after_line bytes)
IsLineRead read.Cut line bytes tokens = IsCut line (first_line bytes) tokens
