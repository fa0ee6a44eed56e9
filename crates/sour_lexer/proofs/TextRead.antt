-- A text, of which the first lines have been read.
use Rattle.std.proofs.Common.{◌≡◌, ℕ, ◌+◌, ◌-◌, ◌<◌, ◌≤◌, List, [], ◌∷◌, ◌++◌, length, drop, refl, sym, ap, ◌∙◌, subst, inl, inr, append_assoc, length-append, length-drop, arith}
use Rattle.std.specs.List.{position_or_len}
use Rattle.std.proofs.lemmas.List.{append-nil, drop-drop, length-take-le}
use Rattle.sour_tokens.specs.Byte.{is_line_feed}
use Rattle.sour_lexer.specs.Placed.{Placed}
use Rattle.sour_lexer.specs.TokensOf.{text_lines, IsWhole, IsCut, LinesHave, HasTokens, Position, lines_end, text_end}
use Rattle.sour_lexer.specs.Read.{first_line, after_line}
use Rattle.sour_lexer.proofs.LineLaws.{whole_line, lines_of_some}

-- the lines of some bytes are the first of them and others
some_lines : (bytes : List ℕ) → 0 < length bytes
    → text_lines bytes ≡ first_line bytes ∷ text_lines (drop 1 (after_line bytes))
some_lines [] some = absurd (omega arith)
some_lines (b ∷ bytes) some = lines_of_some b bytes

-- lines end where those after the first do, where there are some
end_after : (line : ℕ) (first bytes : List ℕ) → 0 < length bytes
    → lines_end line (first ∷ text_lines bytes) ≡ lines_end (line + 1) (text_lines bytes)
end_after line first [] some = absurd (omega arith)
end_after line first (b ∷ bytes) some =
    let lines = lines_of_some b bytes in
    ap (λ x. lines_end line (first ∷ x)) lines ∙ sym (ap (lines_end (line + 1)) lines)

-- or where the first does
end_first : (line : ℕ) (first bytes : List ℕ) → length bytes ≤ 0
    → lines_end line (first ∷ text_lines bytes) ≡ record { line = line; column = length first + 1 }
end_first line first [] none = refl
end_first line first (b ∷ bytes) none = absurd (omega arith)

-- how long the first line is
first_length : (bytes left : List ℕ) → left ≡ after_line bytes
    → length (first_line bytes) + 1 ≡ length bytes - length left + 1
first_length bytes left is =
    let whole =
    sym (length-append (first_line bytes) (after_line bytes))
    ∙ ap length (whole_line bytes) in omega (arith, whole, ap length is)

-- the lines before this rest of the text, which begins with the line of this number, have these tokens and end there
pub record IsTextReadTo (text : List ℕ) (tokens : List Placed) (line : ℕ) (rest : List ℕ) (end : Position) : Type 0
  where
    pub have : (others : List Placed) → LinesHave line (text_lines rest) others → HasTokens text (tokens ++ others)
    pub more : 0 < length rest → lines_end line (text_lines rest) ≡ text_end text
    pub over : length rest ≤ 0 → end ≡ text_end text
    pub fits : line + length rest ≤ length text + 1

-- at first no line has been read
pub no_line_read : (text : List ℕ) → IsTextReadTo text [] 1 text (record { line = 1; column = 1 })
no_line_read text =
    record { have = λ others has. has; more = λ some. refl; over = empty_end text; fits = omega arith }
  where
    empty_end : (text : List ℕ) → length text ≤ 0 → record { line = 1; column = 1 } ≡ text_end text
    empty_end [] none = refl
    empty_end (b ∷ text) none = absurd (omega arith)

module _ {text : List ℕ} {tokens : List Placed} {line : ℕ} {rest : List ℕ} {end : Position}
    (sofar : IsTextReadTo text tokens line rest end) where
  -- where no line is left, the text has these tokens and ends there
  pub text_read : length rest ≤ 0 → HasTokens text tokens × (end ≡ text_end text)
  text_read none = (subst (HasTokens text) (append-nil tokens) (sofar.have [] (no_lines rest none)), sofar.over none)
    where
      no_lines : (rest : List ℕ) → length rest ≤ 0 → LinesHave line (text_lines rest) []
      no_lines [] none = refl
      no_lines (b ∷ rest) none = absurd (omega arith)

  module _ (some : 0 < length rest) (given : List Placed) where
    -- one line more is read
    pub line_read : (left : List ℕ) → IsWhole line (first_line rest) given → left ≡ after_line rest
        → IsTextReadTo text (tokens ++ given) (line + 1) (drop 1 left)
        (record { line = line; column = length rest - length left + 1 })
    line_read left whole left_is =
        let first = first_line rest in
        let others = drop 1 left in
        let lines : text_lines rest ≡ first ∷ text_lines others =
        some_lines rest some ∙ ap (λ x. first ∷ text_lines (drop 1 x)) (sym left_is) in
        let ends : lines_end line (first ∷ text_lines others) ≡ text_end text =
        sym (ap (lines_end line) lines) ∙ sofar.more some in
        let P : ℕ → Position = λ n. record { line = line; column = n } in
        let column : P (length first + 1) ≡ P (length rest - length left + 1) = ap P (first_length rest left left_is) in
        let after_length = length-drop (position_or_len is_line_feed rest) rest in
        record {
          have = λ later has.
              let Q : List (List ℕ) → Type 0 = λ x. LinesHave line x (given ++ later) in
              let here : Q (first ∷ text_lines others) = inr (given, later, whole, has, refl) in
              subst (HasTokens text) (sym (append_assoc tokens given later))
              (sofar.have (given ++ later) (subst Q (sym lines) here));
          more = λ some_left. sym (end_after line first others some_left) ∙ ends;
          over = λ none_left. sym (end_first line first others none_left ∙ column) ∙ ends;
          fits = omega (arith, sofar.fits, some, length-drop 1 left, ap length left_is, after_length);
        }

    -- the last line is cut
    pub cut_text : IsCut line (first_line rest) given → HasTokens text (tokens ++ given)
    cut_text cut =
        let P : List (List ℕ) → Type 0 = λ x. LinesHave line x given in
        sofar.have given (subst P (sym (some_lines rest some)) (inl cut))

-- the lines of some bytes, of which the first has this length
module _ (line : ℕ) (bytes : List ℕ) (len : ℕ) (len_is : len ≡ position_or_len is_line_feed bytes) where
  -- what comes after the line feed
  after_feed : drop 1 (after_line bytes) ≡ drop (len + 1) bytes
  after_feed = ap (λ n. drop 1 (drop n bytes)) (sym len_is) ∙ drop-drop 1 len bytes

  -- other lines come after the first
  pub end_of_others : 1 < length bytes - len
      → lines_end line (text_lines bytes) ≡ lines_end (line + 1) (text_lines (drop (len + 1) bytes))
  end_of_others more =
      ap (lines_end line) (some_lines bytes (omega arith))
      ∙ ap (λ x. lines_end line (first_line bytes ∷ text_lines x)) after_feed
      ∙ end_after line (first_line bytes) (drop (len + 1) bytes) (omega (arith, length-drop (len + 1) bytes))

  -- none do
  pub end_of_first : length bytes - len ≤ 1 → len ≤ length bytes
      → lines_end line (text_lines bytes) ≡ record { line = line; column = len + 1 }
  end_of_first none within = last_line bytes len len_is none within
    where
      last_line : (bytes : List ℕ) (len : ℕ) → len ≡ position_or_len is_line_feed bytes → length bytes - len ≤ 1
          → len ≤ length bytes → lines_end line (text_lines bytes) ≡ record { line = line; column = len + 1 }
      last_line [] len is none within = ap (λ n. record { line = line; column = n + 1 }) (sym is)
      last_line (b ∷ bytes) len is none within =
          ap (lines_end line) (lines_of_some b bytes)
          ∙ end_first line (first_line (b ∷ bytes)) (drop 1 (after_line (b ∷ bytes)))
          (
          omega (
            arith,
            is,
            length-drop 1 (after_line (b ∷ bytes)),
            length-drop (position_or_len is_line_feed (b ∷ bytes)) (b ∷ bytes),
          )
          )
          ∙ ap (λ n. record { line = line; column = n + 1 })
          (length-take-le (position_or_len is_line_feed (b ∷ bytes)) (b ∷ bytes) (omega (arith, is)) ∙ sym is)
