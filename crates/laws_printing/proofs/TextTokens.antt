-- The bytes of lines of pieces are read as their tokens.
use Rattle.std.proofs.Common.{◌≡◌, ℕ, ◌+◌, suc, true, false, List, [], ◌∷◌, ◌++◌, length, drop, refl, sym, ap, subst, ◌∙◌, inr, arith}
use Rattle.std.proofs.lemmas.List.Elements.{All-head, All-tail, All-nil, All-cons, All-append}
use Rattle.sour_tokens.specs.Byte.{is_line_feed, is_blank}
use Rattle.sour_lexer.specs.Placed.{Lexeme, Placed}
use Rattle.sour_lexer.specs.Front.{spelling, IsSpelled, blanks, after_blanks, IsComment, HasNoToken, IsTokenThen}
use Rattle.sour_lexer.specs.TokensOf.{Has, with_line_end, IsWhole, LinesHave, text_lines}
use Rattle.sour_lexer.proofs.Runs.{prefix_len-front}
use Rattle.sour_lexer.proofs.LineLaws.{HasNoLineFeed}
use Rattle.sour_lexer.proofs.SpelledLaws.{in_line}
use Rattle.laws_printing.specs.Pieces.{Piece, Token, Blank}
use Rattle.laws_printing.specs.Text.{bytes_of, text_of, line_tokens, text_tokens, AreApart, AreLinesApart}
use Rattle.laws_printing.specs.Laws.{PiecesAreTokens}
use Rattle.laws_printing.proofs.Longest.{longest, no_blank_first}

-- ---- one line

-- from this column on, the bytes are these tokens and nothing else
record Gives (line column : ℕ) (bytes : List ℕ) (tokens : List Placed) : Type 0 where
  stop : ℕ
  left : List ℕ
  has : Has line column bytes tokens stop left
  over : HasNoToken left

-- one blank more
one_blank : (bytes : List ℕ)
    → (blanks (32 ∷ bytes) ≡ suc (blanks bytes)) × (after_blanks (32 ∷ bytes) ≡ after_blanks bytes)
one_blank bytes =
    let more : 1 + blanks bytes ≡ suc (blanks bytes) = omega arith in (more, ap (λ n. drop n (32 ∷ bytes)) more)

-- a blank before them
after_blank : (line column : ℕ) (bytes : List ℕ) (tokens : List Placed) → Gives line (column + 1) bytes tokens
    → Gives line column (32 ∷ bytes) tokens
after_blank line column bytes [] a = record {
  stop = column;
  left = 32 ∷ bytes;
  has = (refl, refl);
  over = subst IsComment (sym (one_blank bytes).1) (subst HasNoToken a.has.1 a.over);
}
after_blank line column bytes (t ∷ tokens) a =
    let h = a.has in
    let at : column + 1 + blanks bytes ≡ column + blanks (32 ∷ bytes) = omega (arith, (one_blank bytes).0) in
    let first : IsTokenThen (32 ∷ bytes) t.lexeme h.0 = record {
      whole = (one_blank bytes).1 ∙ h.1.whole;
      spelled = h.1.spelled;
      longest = h.1.longest;
    } in
    record {
      stop = a.stop;
      left = a.left;
      has = (
        h.0,
        first,
        h.2,
        h.3 ∙ at,
        subst (λ n. Has line (n + length (spelling t.lexeme)) h.0 tokens a.stop a.left) at h.4,
      );
      over = a.over;
    }

-- no blanks stand before a token
no_blanks : (lexeme : Lexeme) (after : List ℕ) → IsSpelled lexeme → blanks (spelling lexeme ++ after) ≡ 0
no_blanks lexeme after is =
    prefix_len-front is_blank [] (spelling lexeme ++ after) (All-nil (λ b. is_blank b ≡ true))
    (no_blank_first lexeme after is)

-- pieces that stand apart give their tokens
line_gives : (line column : ℕ) (pieces : List Piece) → AreApart pieces
    → Gives line column (bytes_of pieces) (line_tokens line column pieces)
line_gives line column [] apart = record { stop = column; left = []; has = (refl, refl); over = tt }
line_gives line column (Blank ∷ pieces) apart =
    after_blank line column (bytes_of pieces) (line_tokens line (column + 1) pieces)
    (line_gives line (column + 1) pieces apart)
line_gives line column (Token lexeme ∷ pieces) apart =
    let after = bytes_of pieces in
    let next = column + length (spelling lexeme) in
    let more = line_gives line next pieces apart.2 in
    let none : blanks (spelling lexeme ++ after) ≡ 0 = no_blanks lexeme after apart.0 in
    let at : column ≡ column + blanks (spelling lexeme ++ after) = omega (arith, none) in
    let first : IsTokenThen (spelling lexeme ++ after) lexeme after = record {
      whole = ap (λ n. drop n (spelling lexeme ++ after)) none;
      spelled = apart.0;
      longest = longest lexeme apart.0 after apart.1;
    } in
    record {
      stop = more.stop;
      left = more.left;
      has = (
        after,
        first,
        refl,
        at,
        subst (λ n. Has line (n + length (spelling lexeme)) after (line_tokens line next pieces) more.stop more.left) at
            more.has,
      );
      over = more.over;
    }

-- so the line is whole
line_whole : (line : ℕ) (pieces : List Piece) → AreApart pieces
    → IsWhole line (bytes_of pieces)
    (with_line_end line (length (bytes_of pieces) + 1) (line_tokens line 1 pieces))
line_whole line pieces apart =
    let a = line_gives line 1 pieces apart in
    record { own = line_tokens line 1 pieces; stop = a.stop; left = a.left; has = a.has; over = a.over; all = refl }

-- ---- all lines

-- no line feed stands in the bytes of pieces that stand apart
no_line_feed : (pieces : List Piece) → AreApart pieces → HasNoLineFeed (bytes_of pieces)
no_line_feed [] apart = All-nil (λ b. is_line_feed b ≡ false)
no_line_feed (Blank ∷ pieces) apart =
    All-cons (λ b. is_line_feed b ≡ false) 32 (bytes_of pieces) refl (no_line_feed pieces apart)
no_line_feed (Token lexeme ∷ pieces) apart =
    All-append (λ b. is_line_feed b ≡ false) (spelling lexeme) (bytes_of pieces) (in_line lexeme apart.0).none
    (no_line_feed pieces apart.2)

-- bytes without a line feed, and then a line feed, are a line
first_of_text : (bytes text : List ℕ) → HasNoLineFeed bytes → text_lines (bytes ++ 10 ∷ text) ≡ bytes ∷ text_lines text
first_of_text [] text none = refl
first_of_text (b ∷ bytes) text none =
    rw (
      All-head (λ x. is_line_feed x ≡ false) b bytes none,
      first_of_text bytes text (All-tail (λ x. is_line_feed x ≡ false) b bytes none),
    )
    refl

-- lines whose pieces stand apart have their tokens
lines_have : (line : ℕ) (lines : List (List Piece)) → AreLinesApart lines
    → LinesHave line (text_lines (text_of lines)) (text_tokens line lines)
lines_have line [] apart = refl
lines_have line (pieces ∷ lines) apart =
    rw (first_of_text (bytes_of pieces) (text_of lines) (no_line_feed pieces apart.0)) (inr (
      with_line_end line (length (bytes_of pieces) + 1) (line_tokens line 1 pieces),
      text_tokens (line + 1) lines,
      line_whole line pieces apart.0,
      lines_have (line + 1) lines apart.1,
      refl,
    ))

-- the law that pieces are read as their tokens
pub pieces_are_tokens : PiecesAreTokens
pieces_are_tokens lines apart = lines_have 1 lines apart
