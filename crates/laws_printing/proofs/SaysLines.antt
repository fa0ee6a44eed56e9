-- Tokens of lines of pieces, cut apart as the grammar says.
use Rattle.std.proofs.Common.{◌≡◌, ℕ, ◌+◌, List, [], ◌∷◌, ◌++◌, length, refl, sym, ap, subst, ◌∙◌, append_assoc, arith}
use Rattle.std.specs.Prelude.{⊤}
use Rattle.std.specs.List.{AllByRecursion}
use Rattle.sour_lexer.specs.Placed.{LineEnd, Placed}
use Rattle.sour_lexer.specs.Front.{spelling}
use Rattle.sour_raw.specs.Spelling.{Tokens, ◌·◌, one, from_line, line_of}
use Rattle.laws_printing.specs.Pieces.{Piece, Token, Blank}
use Rattle.laws_printing.specs.Text.{bytes_of, line_tokens, text_tokens}
use Rattle.laws_printing.proofs.Says.{Empty, Says, Within, itself, beside, after_token, regroup, carried}

-- the tokens of pieces, which begin with a token on this line, and then these
abbrev pub SaysFrom : ℕ → List Piece → Tokens → Tokens
SaysFrom n [] B ts = ⊥
SaysFrom n (Blank ∷ pieces) B ts = ⊥
SaysFrom n (Token lexeme ∷ pieces) B ts = (from_line n (one lexeme) · Says pieces B) ts

-- the tokens of lines, of which the first has this number, and then these
abbrev pub SaysLines : ℕ → List (List Piece) → Tokens → Tokens
SaysLines n [] B = B
SaysLines n (pieces ∷ lines) B = SaysFrom n pieces (one LineEnd · SaysLines (n + 1) lines B)

-- tokens that begin on a line
pub on_line : (n : ℕ) (pieces : List Piece) (B : Tokens) → Within (SaysFrom n pieces B) (from_line n (Says pieces B))
on_line n [] B ts s = absurd s
on_line n (Blank ∷ pieces) B ts s = absurd s
on_line n (Token lexeme ∷ pieces) B ts s =
    let t = s.3.0 in
    let first : line_of ts ≡ line_of s.0 =
    ap line_of s.2 ∙ ap (λ (u : List Placed). line_of (u ++ s.1)) t.2 ∙ sym (ap line_of t.2) in
    ((s.0, s.1, s.2, t, s.4), first ∙ s.3.1)

-- what comes after pieces may be cut apart
pub carried_from : (n : ℕ) (pieces : List Piece) {B C D : Tokens} → Within B (C · D)
    → Within (SaysFrom n pieces B) (SaysFrom n pieces C · D)
carried_from n [] b ts s = absurd s
carried_from n (Blank ∷ pieces) b ts s = absurd s
carried_from n (Token lexeme ∷ pieces) b ts s =
    regroup ts (beside (itself (from_line n (one lexeme))) (carried pieces b) ts s)

-- the tokens of lines stand before those of the lines after them
pub split_lines : (n m : ℕ) (first second : List (List Piece)) → m ≡ n + length first
    → Within (SaysLines n (first ++ second) Empty) (SaysLines n first Empty · SaysLines m second Empty)
split_lines n m [] second e ts s =
    let same : n ≡ m = omega (arith, e) in
    ([], ts, refl, refl, subst (λ (k : ℕ). SaysLines k second Empty ts) same s)
split_lines n m (pieces ∷ first) second e ts s =
    carried_from n pieces
    (λ u t. regroup u (after_token LineEnd (split_lines (n + 1) m first second (omega (arith, e))) u t)) ts s

-- ---- the tokens of a text

-- the pieces begin with a token
abbrev pub BeginsWithToken : List Piece → Type 0
BeginsWithToken [] = ⊥
BeginsWithToken (Token lexeme ∷ pieces) = ⊤
BeginsWithToken (Blank ∷ pieces) = ⊥

-- the end of a line at some place
abbrev end_at : (line column : ℕ) → Placed
end_at line column = record { lexeme = LineEnd; line = line; column = column }

-- the tokens of a line are those of its pieces and its end
line_says : (n column stop : ℕ) (pieces : List Piece) (rest : List Placed) (B : Tokens) → B rest
    → Says pieces (one LineEnd · B) (line_tokens n column pieces ++ end_at n stop ∷ rest)
line_says n column stop [] rest B b = (end_at n stop ∷ [], rest, refl, (end_at n stop, refl, refl), b)
line_says n column stop (Blank ∷ pieces) rest B b = line_says n (column + 1) stop pieces rest B b
line_says n column stop (Token lexeme ∷ pieces) rest B b =
    let t : Placed = record { lexeme = lexeme; line = n; column = column } in
    let next = column + length (spelling lexeme) in (
      t ∷ [],
      line_tokens n next pieces ++ end_at n stop ∷ rest,
      refl,
      (t, refl, refl),
      line_says n next stop pieces rest B b,
    )

-- the tokens of a text are those of its lines
pub text_says : (n : ℕ) (lines : List (List Piece)) → AllByRecursion BeginsWithToken lines
    → SaysLines n lines Empty (text_tokens n lines)
text_says n [] all = refl
text_says n ([] ∷ lines) all = absurd all.0
text_says n ((Blank ∷ pieces) ∷ lines) all = absurd all.0
text_says n ((Token lexeme ∷ pieces) ∷ lines) all =
    let t : Placed = record { lexeme = lexeme; line = n; column = 1 } in
    let stop = length (bytes_of (Token lexeme ∷ pieces)) + 1 in
    let own = line_tokens n (1 + length (spelling lexeme)) pieces in
    let rest = text_tokens (n + 1) lines in (
      t ∷ [],
      (own ++ end_at n stop ∷ []) ++ rest,
      refl,
      ((t, refl, refl), refl),
      subst (λ (u : List Placed). Says pieces (one LineEnd · SaysLines (n + 1) lines Empty) u)
          (sym (append_assoc own (end_at n stop ∷ []) rest))
          (line_says n (1 + length (spelling lexeme)) stop pieces rest (SaysLines (n + 1) lines Empty)
          (text_says (n + 1) lines all.1)),
    )
