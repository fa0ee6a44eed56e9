-- The lines of the tokens of a text never fall, and rise behind the end of a line.
use Rattle.std.proofs.Common.{◌≡◌, ℕ, ◌+◌, ◌≤◌, List, [], ◌∷◌, ◌++◌, length, refl, sym, subst, append_assoc, inl, inr, arith}
use Rattle.sour_lexer.specs.Placed.{Lexeme, Word, Digits, Sign, LineEnd, Bad, Placed}
use Rattle.sour_lexer.specs.Front.{spelling, IsSpelled, blanks}
use Rattle.sour_lexer.specs.TokensOf.{Has, with_line_end, LinesHave, HasTokens, text_lines}

-- the first line on which a token may stand after one on this line
abbrev pub line_after : Lexeme → ℕ → ℕ
line_after (Word bytes) line = line
line_after (Digits bytes) line = line
line_after (Sign symbol) line = line
line_after LineEnd line = line + 1
line_after (Bad why) line = line

-- the tokens stand on the first line or later ones, in order, and what comes after them may stand on the last line
abbrev pub Rises : (first : ℕ) → List Placed → (last : ℕ) → Type 0
Rises first [] last = first ≤ last
Rises first (token ∷ tokens) last = (first ≤ token.line) × Rises (line_after token.lexeme token.line) tokens last

-- they may also be said to begin on an earlier line
pub rises_lower : (lower first : ℕ) (tokens : List Placed) (last : ℕ) → lower ≤ first → Rises first tokens last
    → Rises lower tokens last
rises_lower lower first [] last le rises = omega arith
rises_lower lower first (token ∷ tokens) last le rises = (omega (arith, rises.0), rises.1)

-- and to end on a later one
pub rises_higher : (first : ℕ) (tokens : List Placed) (last higher : ℕ) → last ≤ higher → Rises first tokens last
    → Rises first tokens higher
rises_higher first [] last higher le rises = omega arith
rises_higher first (token ∷ tokens) last higher le rises =
    (rises.0, rises_higher (line_after token.lexeme token.line) tokens last higher le rises.1)

-- no token makes the line fall
after_rises : (lexeme : Lexeme) (line : ℕ) → line ≤ line_after lexeme line
after_rises (Word bytes) line = omega arith
after_rises (Digits bytes) line = omega arith
after_rises (Sign symbol) line = omega arith
after_rises LineEnd line = omega arith
after_rises (Bad why) line = omega arith

-- the last line isn't before the first
pub rises_up : (first : ℕ) (tokens : List Placed) (last : ℕ) → Rises first tokens last → first ≤ last
rises_up first [] last rises = rises
rises_up first (token ∷ tokens) last rises =
    let up = rises_up (line_after token.lexeme token.line) tokens last rises.1 in
    omega (arith, rises.0, up, after_rises token.lexeme token.line)

-- of two lists, one behind the other, each rises, the second from the last line of the first
pub rises_parts : (first : ℕ) (front rest : List Placed) (last : ℕ) → Rises first (front ++ rest) last
    → (middle : ℕ) × Rises first front middle × Rises middle rest last
rises_parts first [] rest last rises = let here : first ≤ first = omega arith in (first, here, rises)
rises_parts first (token ∷ front) rest last rises =
    let parts = rises_parts (line_after token.lexeme token.line) front rest last rises.1 in
    (parts.0, (rises.0, parts.1), parts.2)

-- what stands in a line isn't its end
same_line : (lexeme : Lexeme) (line : ℕ) → IsSpelled lexeme → line_after lexeme line ≡ line
same_line (Word bytes) line is = refl
same_line (Digits bytes) line is = refl
same_line (Sign symbol) line is = refl
same_line LineEnd line is = absurd is
same_line (Bad why) line is = refl

-- the tokens that stand in a line, and then others from that line on
own_rises : (line column : ℕ) (bytes : List ℕ) (tokens : List Placed) (stop : ℕ) (left : List ℕ) (others : List Placed)
    (last : ℕ) → Has line column bytes tokens stop left → Rises line others last → Rises line (tokens ++ others) last
own_rises line column bytes [] stop left others last has rises = rises
own_rises line column bytes (token ∷ tokens) stop left others last (after, first, on_line, at_column, has) rises =
    let more =
    own_rises line (column + blanks bytes + length (spelling token.lexeme)) after tokens stop left others last has rises
    in
    (omega (arith, on_line), rw (on_line, same_line token.lexeme line first.spelled) more)

-- the tokens of a whole line, and then others from the next line on
line_rises : (line column : ℕ) (bytes : List ℕ) (own : List Placed) (stop : ℕ) (left : List ℕ) (end_column : ℕ)
    (others : List Placed) (last : ℕ) → Has line column bytes own stop left → Rises (line + 1) others last
    → Rises line (with_line_end line end_column own ++ others) last
line_rises line column bytes [] stop left end_column others last has rises =
    rises_lower line (line + 1) others last (omega arith) rises
line_rises line column bytes (token ∷ own) stop left end_column others last has rises =
    let end : Placed = record { lexeme = LineEnd; line = line; column = end_column } in
    subst (λ some. Rises line (token ∷ some) last) (sym (append_assoc own (end ∷ []) others))
    (own_rises line column bytes (token ∷ own) stop left (end ∷ others) last has (omega arith, rises))

-- the tokens of lines
lines_rise : (line : ℕ) (lines : List (List ℕ)) (tokens : List Placed) → LinesHave line lines tokens
    → (last : ℕ) × Rises line tokens last
lines_rise line [] tokens is =
    let here : Rises line [] line = omega arith in (line, subst (λ some. Rises line some line) (sym is) here)
lines_rise line (bytes ∷ lines) tokens (inl cut) =
    let bad : Placed = record { lexeme = Bad cut.why; line = line; column = cut.stop + blanks cut.left } in
    let here : Rises line (bad ∷ []) line = (omega arith, omega arith) in
    let rises = own_rises line 1 bytes cut.own cut.stop cut.left (bad ∷ []) line cut.has here in
    (line, subst (λ some. Rises line some line) (sym cut.all) rises)
lines_rise line (bytes ∷ lines) tokens (inr (first, others, whole, more, is)) =
    let rest = lines_rise (line + 1) lines others more in
    let rises =
    line_rises line 1 bytes whole.own whole.stop whole.left (length bytes + 1) others rest.0 whole.has rest.1 in
    let P : List Placed → Type 0 = λ some. Rises line some rest.0 in
    (rest.0, subst P (sym is) (subst (λ some. P (some ++ others)) (sym whole.all) rises))

-- the tokens of a text
pub tokens_rise : (text : List ℕ) (tokens : List Placed) → HasTokens text tokens → (last : ℕ) × Rises 1 tokens last
tokens_rise text tokens has = lines_rise 1 (text_lines text) tokens has
