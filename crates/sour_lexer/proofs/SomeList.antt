-- A text has a list of tokens.
use Rattle.std.proofs.Common.{◌≡◌, ◌≢◌, ℕ, ◌+◌, ◌≤◌, Bool, true, false, List, [], ◌∷◌, ◌++◌, length, eqb, get_or, take, drop, suc, zero, refl, ap, ◌∙◌, inl, inr, length-append, length-drop, arith}
use Rattle.std.specs.Prelude.{◌⊎◌}
use Rattle.std.specs.List.{prefix_len}
use Rattle.std.specs.Char.{is_ascii_digit}
use Rattle.std.proofs.lemmas.Bool.Decides.{nat_tests}
use Rattle.sour_tokens.specs.Byte.{begins_word, continues_word}
use Rattle.sour_tokens.specs.Token.{IsSymbol}
use Rattle.sour_lexer.specs.declared.tokens.BadByte.{BadByte}
use Rattle.sour_lexer.specs.Placed.{Lexeme, Word, Digits, Sign, Bad, Placed}
use Rattle.sour_lexer.specs.Front.{spelling, IsSpelled, blanks, after_blanks, IsLongest, IsComment, HasNoToken, BeginsNone, HasBadByte, why_bad}
use Rattle.sour_lexer.specs.TokensOf.{Has, with_line_end, IsWhole, IsCut, LinesHave, HasTokens, text_lines}
use Rattle.sour_lexer.proofs.SymbolLaws.{symbol_or_none}
use Rattle.sour_lexer.proofs.FrontLaws.{word_first, digits_first, symbol_first, no_token_here}
use Rattle.sour_lexer.proofs.SpelledLaws.{in_line}

-- what stands at the front of some bytes
data Standing (bytes : List ℕ) : Type 0 where
  Begins : (lexeme : Lexeme) (after : List ℕ)
      → (bytes ≡ spelling lexeme ++ after) × IsSpelled lexeme × IsLongest (spelling lexeme) after → Standing bytes
  Over : IsComment bytes → Standing bytes
  Neither : (why : BadByte) → BeginsNone why bytes → Standing bytes

module _ (b : ℕ) (bytes : List ℕ) where
  -- the first two bytes are a symbol, or the first is, or neither
  symbol_at : begins_word b ≡ false → is_ascii_digit b ≡ false → b ≢ 35
      → IsSymbol (b ∷ get_or bytes 0 10 ∷ []) ⊎ (IsSymbol (b ∷ get_or bytes 0 10 ∷ []) → ⊥)
      → IsSymbol (b ∷ []) ⊎ (IsSymbol (b ∷ []) → ⊥) → Standing (b ∷ bytes)
  symbol_at word digit comment (inl (symbol, is)) one =
      let first =
      symbol_first (b ∷ bytes) b (get_or bytes 0 10) 2 symbol (omega arith) refl refl is (omega arith)
      (omega arith) (λ other same. refl) in
      Begins (Sign symbol) (drop 2 (b ∷ bytes)) (first.0, tt, first.1)
  symbol_at word digit comment (inr no_pair) (inl (symbol, is)) =
      let first =
      symbol_first (b ∷ bytes) b (get_or bytes 0 10) 1 symbol (omega arith) refl refl is (omega arith)
      (omega arith) (λ other same. absurd (no_pair (other, same))) in
      Begins (Sign symbol) (drop 1 (b ∷ bytes)) (first.0, tt, first.1)
  symbol_at word digit comment (inr no_pair) (inr no_byte) =
      Neither (why_bad b) (
        refl,
        comment,
        no_token_here b (get_or bytes 0 10) bytes word digit refl
            (λ symbol is. no_byte (symbol, is)) (λ symbol is. no_pair (symbol, is)),
      )

  -- by the tests of the first byte
  standing_at : (word digit comment : Bool) → begins_word b ≡ word → is_ascii_digit b ≡ digit → eqb b 35 ≡ comment
      → Standing (b ∷ bytes)
  standing_at true digit comment is_word is_digit is_comment =
      let n =
      prefix_len continues_word (b ∷ bytes) in Begins (Word (take n (b ∷ bytes))) (drop n (b ∷ bytes))
      (word_first (b ∷ bytes) (omega arith) is_word)
  standing_at false true comment is_word is_digit is_comment =
      let n =
      prefix_len is_ascii_digit (b ∷ bytes) in Begins (Digits (take n (b ∷ bytes))) (drop n (b ∷ bytes))
      (digits_first (b ∷ bytes) (omega arith) is_digit)
  standing_at false false true is_word is_digit is_comment = Over (grind (arith, nat_tests))
  standing_at false false false is_word is_digit is_comment =
      symbol_at is_word is_digit (grind (arith, nat_tests)) (symbol_or_none (b ∷ get_or bytes 0 10 ∷ []))
      (symbol_or_none (b ∷ []))

-- something does
standing_in : (bytes : List ℕ) → Standing bytes
standing_in [] = Over tt
standing_in (b ∷ bytes) = standing_at b bytes (begins_word b) (is_ascii_digit b) (eqb b 35) refl refl refl

-- the tokens of a line up to its end or to a byte that is in no token
record LineSplit (line column : ℕ) (bytes : List ℕ) : Type 0 where
  own : List Placed
  stop : ℕ
  left : List ℕ
  has : Has line column bytes own stop left
  ended : HasNoToken left ⊎ ((why : BadByte) × HasBadByte why left)

module _ (line column : ℕ) (bytes : List ℕ) where
  -- by what stands after the blanks
  split_at : (fuel : ℕ) → length bytes ≤ suc fuel → Standing (after_blanks bytes)
      → ((column : ℕ) (after : List ℕ) → length after ≤ fuel → LineSplit line column after)
      → LineSplit line column bytes
  split_at fuel within (Begins lexeme after front) others =
      let blanks_length = length-drop (blanks bytes) bytes in
      let after_length = ap length front.0 ∙ length-append (spelling lexeme) after in
      let more =
      others (column + blanks bytes + length (spelling lexeme)) after
      (omega (arith, blanks_length, after_length, (in_line lexeme front.1).some)) in
      record {
        own = record { lexeme = lexeme; line = line; column = column + blanks bytes } ∷ more.own;
        stop = more.stop;
        left = more.left;
        has = (after, record { whole = front.0; spelled = front.1; longest = front.2 }, refl, refl, more.has);
        ended = more.ended;
      }
  split_at fuel within (Over comment) others =
      record { own = []; stop = column; left = bytes; has = (refl, refl); ended = inl comment }
  split_at fuel within (Neither why bad) others =
      record { own = []; stop = column; left = bytes; has = (refl, refl); ended = inr (why, bad) }

-- each line that is no longer than the fuel is split so
line_split : (fuel line column : ℕ) (bytes : List ℕ) → length bytes ≤ fuel → LineSplit line column bytes
line_split zero line column [] within =
    record { own = []; stop = column; left = []; has = (refl, refl); ended = inl tt }
line_split zero line column (b ∷ bytes) within = absurd (omega arith)
line_split (suc fuel) line column bytes within =
    split_at line column bytes fuel within (standing_in (after_blanks bytes))
    (λ column after shorter. line_split fuel line column after shorter)

module _ (line : ℕ) (bytes : List ℕ) where
  -- a line is whole or cut
  abbrev IsWholeOrCut : Type 0
  IsWholeOrCut =
      ((tokens : List Placed) × IsWhole line bytes tokens) ⊎ ((tokens : List Placed) × IsCut line bytes tokens)

  -- by its end
  whole_or_cut_at : (own : List Placed) (stop : ℕ) (left : List ℕ) → Has line 1 bytes own stop left
      → HasNoToken left ⊎ ((why : BadByte) × HasBadByte why left) → IsWholeOrCut
  whole_or_cut_at own stop left has (inl over) =
      inl (
        with_line_end line (length bytes + 1) own,
        record { own = own; stop = stop; left = left; has = has; over = over; all = refl },
      )
  whole_or_cut_at own stop left has (inr (why, bad)) =
      inr (
        own ++ record { lexeme = Bad why; line = line; column = stop + blanks left } ∷ [],
        record { own = own; stop = stop; left = left; why = why; has = has; bad = bad; all = refl },
      )

  -- each line is one of them
  whole_or_cut : IsWholeOrCut
  whole_or_cut =
      let split = line_split (length bytes) line 1 bytes (omega arith) in whole_or_cut_at split.own split.stop
      split.left split.has split.ended

-- some lines have tokens
some_of_lines : (line : ℕ) (lines : List (List ℕ)) → (tokens : List Placed) × LinesHave line lines tokens
some_of_lines line [] = ([], refl)
some_of_lines line (bytes ∷ lines) =
    with_first line bytes lines (some_of_lines (line + 1) lines) (whole_or_cut line bytes)
  where
    with_first : (line : ℕ) (bytes : List ℕ) (lines : List (List ℕ))
        → (others : List Placed) × LinesHave (line + 1) lines others → IsWholeOrCut line bytes
        → (tokens : List Placed) × LinesHave line (bytes ∷ lines) tokens
    with_first line bytes lines (others, more) (inl (first, whole)) =
        (first ++ others, inr (first, others, whole, more, refl))
    with_first line bytes lines (others, more) (inr (first, cut)) = (first, inl cut)

-- each text has tokens
pub some_tokens : (text : List ℕ) → (tokens : List Placed) × HasTokens text tokens
some_tokens text = some_of_lines 1 (text_lines text)
