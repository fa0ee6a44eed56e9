-- The bytes of pieces, and of lines, one after the other.
use Rattle.std.proofs.Common.{◌≡◌, ℕ, List, [], ◌∷◌, ◌++◌, refl, sym, ap, ◌∙◌, append_assoc}
use Rattle.sour_lexer.specs.Front.{spelling}
use Rattle.laws_printing.specs.Pieces.{Piece, Token, Blank}
use Rattle.laws_printing.specs.Text.{bytes_of, text_of}
use Rattle.laws_printing.specs.Laws.{BytesAreJoined}

-- the bytes of pieces
pub joined_bytes : (first second : List Piece) → bytes_of (first ++ second) ≡ bytes_of first ++ bytes_of second
joined_bytes [] second = refl
joined_bytes (Blank ∷ first) second = ap (λ (bytes : List ℕ). 32 ∷ bytes) (joined_bytes first second)
joined_bytes (Token lexeme ∷ first) second =
    ap (λ (bytes : List ℕ). spelling lexeme ++ bytes) (joined_bytes first second)
    ∙ sym (append_assoc (spelling lexeme) (bytes_of first) (bytes_of second))

-- the bytes of lines
pub joined_text : (first second : List (List Piece)) → text_of (first ++ second) ≡ text_of first ++ text_of second
joined_text [] second = refl
joined_text (pieces ∷ first) second =
    ap (λ (bytes : List ℕ). bytes_of pieces ++ 10 ∷ bytes) (joined_text first second)
    ∙ sym (append_assoc (bytes_of pieces) (10 ∷ text_of first) (text_of second))

-- the law of both
pub bytes_are_joined : BytesAreJoined
bytes_are_joined = (joined_bytes, joined_text)
