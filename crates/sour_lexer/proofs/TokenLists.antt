-- What each list of tokens of a text is like.
use Rattle.std.proofs.Common.{ℕ, ◌+◌, ◌<◌, List, [], ◌∷◌, ◌++◌, length, sym, subst, inl, inr, append-nil, arith}
use Rattle.std.specs.List.{All}
use Rattle.std.proofs.lemmas.List.Elements.{All-nil, All-cons, All-head, All-tail, All-append, All-weaker}
use Rattle.sour_lexer.specs.Placed.{Lexeme, Word, Digits, Sign, LineEnd, Bad, Placed}
use Rattle.sour_lexer.specs.Front.{spelling, IsSpelled, blanks}
use Rattle.sour_lexer.specs.TokensOf.{Has, with_line_end, LinesHave, HasTokens, text_lines}
use Rattle.sour_lexer.specs.TokenList.{IsWellFormed, AreWellFormed, IsNotBad, AreEnded}

-- each is spelled so
abbrev AreSpelled : List Placed → Type 0
AreSpelled tokens = All (λ token. IsSpelled token.lexeme) tokens

-- none is a byte that is in no token
abbrev AreNotBad : List Placed → Type 0
AreNotBad tokens = All (λ token. IsNotBad token.lexeme) tokens

-- what is spelled so is well formed
well_formed_spelled : (lexeme : Lexeme) → IsSpelled lexeme → IsWellFormed lexeme
well_formed_spelled (Word bytes) is = is
well_formed_spelled (Digits bytes) is = is
well_formed_spelled (Sign symbol) is = tt
well_formed_spelled LineEnd is = tt
well_formed_spelled (Bad why) is = tt

-- and is in a token
not_bad_spelled : (lexeme : Lexeme) → IsSpelled lexeme → IsNotBad lexeme
not_bad_spelled (Word bytes) is = tt
not_bad_spelled (Digits bytes) is = tt
not_bad_spelled (Sign symbol) is = tt
not_bad_spelled LineEnd is = tt
not_bad_spelled (Bad why) is = is

-- the tokens that stand in a line are spelled so
own_spelled : (line column : ℕ) (bytes : List ℕ) (tokens : List Placed) (stop : ℕ) (left : List ℕ)
    → Has line column bytes tokens stop left → AreSpelled tokens
own_spelled line column bytes [] stop left has = All-nil (λ token. IsSpelled token.lexeme)
own_spelled line column bytes (token ∷ tokens) stop left (after, first, on_line, at_column, has) =
    All-cons (λ t. IsSpelled t.lexeme) token tokens first.spelled
    (own_spelled line (column + blanks bytes + length (spelling token.lexeme)) after tokens stop left has)

-- some tokens before others that are ended
ended_after : (front rest : List Placed) → AreNotBad front → 0 < length rest → AreEnded rest
    → AreEnded (front ++ rest)
ended_after [] rest front_is some rest_is = rest_is
ended_after (token ∷ []) [] front_is some rest_is = absurd (omega arith)
ended_after (token ∷ []) (next ∷ rest) front_is some rest_is =
    (All-head (λ t. IsNotBad t.lexeme) token [] front_is, rest_is)
ended_after (token ∷ next ∷ front) rest front_is some rest_is = (
  All-head (λ t. IsNotBad t.lexeme) token (next ∷ front) front_is,
  ended_after (next ∷ front) rest (All-tail (λ t. IsNotBad t.lexeme) token (next ∷ front) front_is) some rest_is,
)

-- each is well formed, and they are ended
pub record IsTokenList (tokens : List Placed) : Type 0 where
  pub well_formed : AreWellFormed tokens
  pub ended : AreEnded tokens

-- the tokens that stand in a line are no such bytes
not_bad_own : (own : List Placed) → AreSpelled own → AreNotBad own
not_bad_own own own_is =
    All-weaker (λ t. IsSpelled t.lexeme) (λ t. IsNotBad t.lexeme) (λ t. not_bad_spelled t.lexeme) own own_is

-- tokens that stand in a line, and one more that ends them
list_with : (own : List Placed) (last : Placed) → AreSpelled own → IsWellFormed last.lexeme → AreEnded (last ∷ [])
    → IsTokenList (own ++ last ∷ [])
list_with own last own_is well_formed ends = record {
  well_formed =
      All-append (λ t. IsWellFormed t.lexeme) own (last ∷ [])
      (All-weaker (λ t. IsSpelled t.lexeme) (λ t. IsWellFormed t.lexeme) (λ t. well_formed_spelled t.lexeme) own own_is)
      (All-cons (λ t. IsWellFormed t.lexeme) last [] well_formed (All-nil (λ t. IsWellFormed t.lexeme)));
  ended =
      ended_after own (last ∷ [])
      (not_bad_own own own_is) (omega arith) ends;
}

-- the tokens of a whole line
record IsWholeList (tokens : List Placed) : Type 0 where
  list : IsTokenList tokens
  not_bad : AreNotBad tokens

-- those that stand in it, and its end
with_end : (line column : ℕ) (own : List Placed) → AreSpelled own → IsWholeList (with_line_end line column own)
with_end line column [] own_is = record {
  list = record { well_formed = All-nil (λ t. IsWellFormed t.lexeme); ended = tt };
  not_bad = All-nil (λ t. IsNotBad t.lexeme);
}
with_end line column (token ∷ own) own_is =
    let end : Placed = record { lexeme = LineEnd; line = line; column = column } in
    record {
      list = list_with (token ∷ own) end own_is tt tt;
      not_bad =
          All-append (λ t. IsNotBad t.lexeme) (token ∷ own) (end ∷ []) (not_bad_own (token ∷ own) own_is)
          (All-cons (λ t. IsNotBad t.lexeme) end [] tt (All-nil (λ t. IsNotBad t.lexeme)));
    }

-- the tokens of a whole line, and then others
list_after : (first others : List Placed) → IsWholeList first → IsTokenList others → IsTokenList (first ++ others)
list_after first [] first_is others_is = subst IsTokenList (sym (append-nil first)) first_is.list
list_after first (token ∷ others) first_is others_is = record {
  well_formed = All-append (λ t. IsWellFormed t.lexeme) first (token ∷ others) first_is.list.well_formed others_is.well_formed;
  ended = ended_after first (token ∷ others) first_is.not_bad (omega arith) others_is.ended;
}

-- the tokens of lines
list_of_lines : (line : ℕ) (lines : List (List ℕ)) (tokens : List Placed) → LinesHave line lines tokens
    → IsTokenList tokens
list_of_lines line [] tokens is =
    subst IsTokenList (sym is) (record { well_formed = All-nil (λ t. IsWellFormed t.lexeme); ended = tt })
list_of_lines line (bytes ∷ lines) tokens (inl cut) =
    let bad : Placed = record { lexeme = Bad cut.why; line = line; column = cut.stop + blanks cut.left } in
    subst IsTokenList (sym cut.all)
    (list_with cut.own bad (own_spelled line 1 bytes cut.own cut.stop cut.left cut.has) tt tt)
list_of_lines line (bytes ∷ lines) tokens (inr (first, others, whole, more, is)) =
    let first_is =
    subst IsWholeList (sym whole.all)
    (with_end line (length bytes + 1) whole.own (own_spelled line 1 bytes whole.own whole.stop whole.left whole.has))
    in
    subst IsTokenList (sym is) (list_after first others first_is (list_of_lines (line + 1) lines others more))

-- the tokens of a text
pub list_of_text : (text : List ℕ) (tokens : List Placed) → HasTokens text tokens → IsTokenList tokens
list_of_text text tokens has = list_of_lines 1 (text_lines text) tokens has
