-- The first line of some bytes, and what comes after it.
use Rattle.std.proofs.Common.{◌≡◌, ℕ, suc, ◌+◌, Bool, true, false, not, List, [], ◌∷◌, ◌++◌, length, take, drop, cond, refl, sym, ap, ◌∙◌, subst, take-append-drop, append_assoc, arith}
use Rattle.std.specs.List.{All, AllPass, position_or_len, onto_first}
use Rattle.std.proofs.lemmas.List.{drop_at}
use Rattle.std.proofs.lemmas.List.Elements.{All-head, All-tail, All-weaker}
use Rattle.sour_tokens.specs.Byte.{is_line_feed, is_blank}
use Rattle.sour_lexer.specs.Front.{blanks, after_blanks, IsLongest}
use Rattle.sour_lexer.specs.TokensOf.{text_lines}
use Rattle.sour_lexer.specs.Read.{first_line, after_line}
use Rattle.sour_lexer.proofs.ByteLaws.{line_feed-from_blank}
use Rattle.sour_lexer.proofs.Runs.{Stops, front_passes, front_stops, prefix_len-front}

-- none of the bytes is a line feed
abbrev pub HasNoLineFeed : List ℕ → Type 0
HasNoLineFeed bytes = All (λ b. is_line_feed b ≡ false) bytes

-- the bytes are these of a line and then those that come after the line
pub record IsCutInto (bytes line after : List ℕ) : Type 0 where
  pub line_is : first_line bytes ≡ line
  pub after_is : after_line bytes ≡ after

-- one element less to take or to drop
abbrev take_cond : Bool → ℕ → List ℕ → List ℕ
take_cond b n bytes = take (cond (not b) (1 + n) 0) bytes

abbrev drop_cond : Bool → ℕ → List ℕ → List ℕ
drop_cond b n bytes = drop (cond (not b) (1 + n) 0) bytes

-- a line feed ends the line
pub cut_at_line_feed : (b : ℕ) (bytes : List ℕ) → is_line_feed b ≡ true → IsCutInto (b ∷ bytes) [] (b ∷ bytes)
cut_at_line_feed b bytes is =
    let n = position_or_len is_line_feed bytes in
    record { line_is = ap (λ t. take_cond t n (b ∷ bytes)) is; after_is = ap (λ t. drop_cond t n (b ∷ bytes)) is }

-- another byte is in the line
pub cut_after : (b : ℕ) (bytes : List ℕ) → is_line_feed b ≡ false
    → IsCutInto (b ∷ bytes) (b ∷ first_line bytes) (after_line bytes)
cut_after b bytes is =
    let n = position_or_len is_line_feed bytes in
    let more : 1 + n ≡ suc n = omega arith in
    record {
      line_is = ap (λ t. take_cond t n (b ∷ bytes)) is ∙ ap (λ m. take m (b ∷ bytes)) more;
      after_is = ap (λ t. drop_cond t n (b ∷ bytes)) is ∙ ap (λ m. drop m (b ∷ bytes)) more;
    }

-- so are several
pub cut_after_front : (front bytes : List ℕ) → HasNoLineFeed front
    → IsCutInto (front ++ bytes) (front ++ first_line bytes) (after_line bytes)
cut_after_front [] bytes none = record { line_is = refl; after_is = refl }
cut_after_front (b ∷ front) bytes none =
    let one = cut_after b (front ++ bytes) (All-head (λ x. is_line_feed x ≡ false) b front none) in
    let more = cut_after_front front bytes (All-tail (λ x. is_line_feed x ≡ false) b front none) in
    record { line_is = one.line_is ∙ ap (λ x. b ∷ x) more.line_is; after_is = one.after_is ∙ more.after_is }

-- the line and what comes after it are the bytes
pub whole_line : (bytes : List ℕ) → first_line bytes ++ after_line bytes ≡ bytes
whole_line bytes = take-append-drop (position_or_len is_line_feed bytes) bytes

-- a line stops where the bytes do
pub line_stops : (p : ℕ → Bool) (bytes : List ℕ) → Stops p bytes → Stops p (first_line bytes)
line_stops p [] stops = tt
line_stops p (b ∷ bytes) stops = at_first b bytes (is_line_feed b) refl stops
  where
    at_first : (b : ℕ) (bytes : List ℕ) (t : Bool) → is_line_feed b ≡ t → p b ≡ false
        → Stops p (first_line (b ∷ bytes))
    at_first b bytes true is fails = subst (Stops p) (sym (cut_at_line_feed b bytes is).line_is) tt
    at_first b bytes false is fails = subst (Stops p) (sym (cut_after b bytes is).line_is) fails

-- a token that is as long as it can be is so in its line
pub longest_in_line : (token bytes : List ℕ) → IsLongest token bytes → IsLongest token (first_line bytes)
longest_in_line token bytes longest more rest is =
    longest more (rest ++ after_line bytes)
    (sym (whole_line bytes) ∙ ap (λ x. x ++ after_line bytes) is ∙ append_assoc more rest (after_line bytes))

-- the blanks of a line are those of the bytes
pub record HasBlanksOf (bytes : List ℕ) : Type 0 where
  pub count : blanks (first_line bytes) ≡ blanks bytes
  pub rest : after_blanks (first_line bytes) ≡ first_line (after_blanks bytes)
  pub after : after_line (after_blanks bytes) ≡ after_line bytes

pub blanks_of_line : (bytes : List ℕ) → HasBlanksOf bytes
blanks_of_line bytes =
    cut_there (take (blanks bytes) bytes) (after_blanks bytes) (front_passes is_blank bytes)
    (front_stops is_blank bytes) bytes (take-append-drop (blanks bytes) bytes) refl
  where
    cut_there : (front left : List ℕ) → AllPass is_blank front → Stops is_blank left → (bytes : List ℕ)
        → front ++ left ≡ bytes → left ≡ after_blanks bytes → HasBlanksOf bytes
    cut_there front left blank stops bytes whole left_is =
        let cut =
        cut_after_front front left
        (All-weaker (λ b. is_blank b ≡ true) (λ b. is_line_feed b ≡ false) line_feed-from_blank front blank) in
        let line : first_line bytes ≡ front ++ first_line left = ap first_line (sym whole) ∙ cut.line_is in
        let n : blanks (front ++ first_line left) ≡ length front =
        prefix_len-front is_blank front (first_line left) blank (line_stops is_blank left stops) in
        let m : blanks bytes ≡ length front =
        ap blanks (sym whole) ∙ prefix_len-front is_blank front left blank stops in
        record {
          count = ap blanks line ∙ n ∙ sym m;
          rest =
              ap after_blanks line ∙ drop_at front (first_line left) (blanks (front ++ first_line left)) (sym n)
              ∙ ap first_line left_is;
          after = ap after_line (sym left_is) ∙ sym cut.after_is ∙ ap after_line whole;
        }

-- the lines of some bytes, where those after the first byte are known
lines_at : (b : ℕ) (bytes : List ℕ) (t : Bool) → is_line_feed b ≡ t
    → onto_first b (text_lines bytes) ≡ (b ∷ first_line bytes) ∷ text_lines (drop 1 (after_line bytes))
    → text_lines (b ∷ bytes) ≡ first_line (b ∷ bytes) ∷ text_lines (drop 1 (after_line (b ∷ bytes)))
lines_at b bytes true is others =
    let cut = cut_at_line_feed b bytes is in
    ap (λ t. cond t ([] ∷ text_lines bytes) (onto_first b (text_lines bytes))) is
    ∙ ap (λ x. x ∷ text_lines bytes) (sym cut.line_is)
    ∙ ap (λ x. first_line (b ∷ bytes) ∷ text_lines (drop 1 x)) (sym cut.after_is)
lines_at b bytes false is others =
    let cut = cut_after b bytes is in
    ap (λ t. cond t ([] ∷ text_lines bytes) (onto_first b (text_lines bytes))) is ∙ others
    ∙ ap (λ x. x ∷ text_lines (drop 1 (after_line bytes))) (sym cut.line_is)
    ∙ ap (λ x. first_line (b ∷ bytes) ∷ text_lines (drop 1 x)) (sym cut.after_is)

-- the first of the lines, and the others
pub lines_of_some : (b : ℕ) (bytes : List ℕ)
    → text_lines (b ∷ bytes) ≡ first_line (b ∷ bytes) ∷ text_lines (drop 1 (after_line (b ∷ bytes)))
lines_of_some b [] = lines_at b [] (is_line_feed b) refl refl
lines_of_some b (c ∷ bytes) = lines_at b (c ∷ bytes) (is_line_feed b) refl (ap (onto_first b) (lines_of_some c bytes))
