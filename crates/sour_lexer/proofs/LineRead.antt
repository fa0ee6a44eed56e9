-- A line, of which the first tokens have been read.
use Rattle.std.proofs.Common.{◌≡◌, ℕ, ◌+◌, ◌-◌, ◌<◌, ◌≤◌, false, List, [], ◌∷◌, ◌++◌, length, get_or, refl, sym, ap, ◌∙◌, subst, length-append, length-drop, append_assoc, arith}
use Rattle.std.proofs.lemmas.List.{append-nil, map_push}
use Rattle.std.proofs.lemmas.List.Sums.{prefix_len-le-length}
use Rattle.sour_tokens.specs.Byte.{is_blank}
use Rattle.sour_lexer.specs.declared.tokens.BadByte.{BadByte}
use Rattle.sour_lexer.specs.declared.tokens.PlacedToken.{PlacedToken}
use Rattle.sour_lexer.specs.Placed.{Lexeme, LineEnd, Bad, Placed, placed, all_placed}
use Rattle.sour_lexer.specs.Front.{spelling, IsSpelled, blanks, after_blanks, IsLongest, IsTokenThen, IsComment, BeginsNone}
use Rattle.sour_lexer.specs.TokensOf.{Has, with_line_end, IsWhole, IsCut}
use Rattle.sour_lexer.specs.Read.{first_line, after_line}
use Rattle.sour_lexer.proofs.Runs.{Stops, front_stops}
use Rattle.sour_lexer.proofs.SpelledLaws.{in_line}
use Rattle.sour_lexer.proofs.LineLaws.{cut_after_front, whole_line, longest_in_line, blanks_of_line}

-- a token at a place
abbrev pub token_at : Lexeme → ℕ → ℕ → Placed
token_at lexeme line column = record { lexeme = lexeme; line = line; column = column }

-- one token more
Has-push : (line column : ℕ) (bytes : List ℕ) (tokens : List Placed) (stop : ℕ) (left : List ℕ) (lexeme : Lexeme)
    (after : List ℕ)
    → Has line column bytes tokens stop left → IsTokenThen left lexeme after
    → Has line column bytes (tokens ++ record { lexeme = lexeme; line = line; column = stop + blanks left } ∷ [])
    (stop + blanks left + length (spelling lexeme)) after
Has-push line column bytes [] stop left lexeme after has first =
    let P : ℕ → List ℕ → Type 0 =
    λ n x. Has line n x (record { lexeme = lexeme; line = line; column = stop + blanks left } ∷ [])
    (stop + blanks left + length (spelling lexeme)) after in
    let here : P stop left = (after, first, refl, refl, (refl, refl)) in
    subst (λ n. P n bytes) has.0 (subst (P stop) has.1 here)
Has-push line column bytes (token ∷ tokens) stop left lexeme after (rest, then', on_line, at_column, has) first =
    let next = column + blanks bytes + length (spelling token.lexeme) in
    (rest, then', on_line, at_column, Has-push line next rest tokens stop left lexeme after has first)

-- the tokens after the old ones are those of the bytes' first line, up to this rest of the bytes
pub record IsReadTo (line : ℕ) (bytes : List ℕ) (old tokens : List Placed) (rest : List ℕ) : Type 0 where
  pub own : List Placed
  pub all : tokens ≡ old ++ own
  pub has : Has line 1 (first_line bytes) own (length bytes - length rest + 1) (first_line rest)
  pub after : after_line rest ≡ after_line bytes
  pub within : length rest ≤ length bytes

-- at first there are none
pub none_read : (line : ℕ) (bytes : List ℕ) (old : List Placed) → IsReadTo line bytes old old bytes
none_read line bytes old =
    record { own = []; all = sym (append-nil old); has = (omega arith, refl); after = refl; within = omega arith }

module _ {line : ℕ} {bytes : List ℕ} {old tokens : List Placed} {rest : List ℕ}
    (sofar : IsReadTo line bytes old tokens rest) (next : List ℕ) (next_is : next ≡ after_blanks rest) where
  -- the blanks before what stands next
  next_length : length next + blanks rest ≡ length rest
  next_length = rw next_is (omega (arith, length-drop (blanks rest) rest, prefix_len-le-length is_blank rest))

  -- where it stands
  next_column : length bytes - length rest + 1 + blanks (first_line rest) ≡ length bytes - length next + 1
  next_column = rw (blanks_of_line rest).count (omega (arith, next_length, sofar.within))

  -- a token is read
  module _ (lexeme : Lexeme) (after : List ℕ)
      (front : (next ≡ spelling lexeme ++ after) × IsSpelled lexeme × IsLongest (spelling lexeme) after) where
    -- it is the next of the line
    next_token : IsTokenThen (first_line rest) lexeme (first_line after)
    next_token = record {
      whole =
          (blanks_of_line rest).rest ∙ ap first_line (sym next_is ∙ front.0)
          ∙ (cut_after_front (spelling lexeme) after (in_line lexeme front.1).none).line_is;
      spelled = front.1;
      longest = longest_in_line (spelling lexeme) after front.2;
    }

    -- the bytes after it
    after_length : length (spelling lexeme) + length after ≡ length next
    after_length = sym (length-append (spelling lexeme) after) ∙ ap length (sym front.0)

    -- fewer bytes are left
    pub less_left : length after < length rest
    less_left = omega (arith, after_length, next_length, (in_line lexeme front.1).some)

    -- and one token more is read
    pub one_read : IsReadTo line bytes old (tokens ++ token_at lexeme line (length bytes - length next + 1) ∷ []) after
    one_read =
        let column = length bytes - length rest + 1 in
        let own : ℕ → List Placed = λ at. sofar.own ++ token_at lexeme line at ∷ [] in
        let here = length bytes - length next + 1 in
        let P : ℕ → ℕ → Type 0 = λ at stop. Has line 1 (first_line bytes) (own at) stop (first_line after) in
        let there = column + blanks (first_line rest) in
        let pushed : P there (there + length (spelling lexeme)) =
        Has-push line 1 (first_line bytes) sofar.own column (first_line rest) lexeme (first_line after) sofar.has
        next_token in
        let stop : there + length (spelling lexeme) ≡ length bytes - length after + 1 =
        omega (arith, next_column, after_length, next_length, sofar.within) in
        record {
          own = own here;
          all =
              ap (λ x. x ++ token_at lexeme line here ∷ []) sofar.all
              ∙ append_assoc old sofar.own (token_at lexeme line here ∷ []);
          has = subst (P here) stop (subst (λ at. P at (there + length (spelling lexeme))) next_column pushed);
          after =
              sym (cut_after_front (spelling lexeme) after (in_line lexeme front.1).none).after_is
              ∙ ap after_line (sym front.0 ∙ next_is) ∙ (blanks_of_line rest).after ∙ sofar.after;
          within = omega (arith, less_left, sofar.within);
        }

  -- no token stands next
  module _ (left : List ℕ) (over : IsComment (first_line next)) (left_is : left ≡ after_line next) where
    -- what is left comes after the line
    left_after : left ≡ after_line bytes
    left_after = left_is ∙ ap after_line next_is ∙ (blanks_of_line rest).after ∙ sofar.after

    -- where the line ends
    end_column : length (first_line bytes) + 1 ≡ length bytes - length left + 1
    end_column =
        let whole = sym (length-append (first_line bytes) (after_line bytes))
        ∙ ap length (whole_line bytes) in omega (arith, whole, ap length left_after)

    -- the line gives the tokens with its end
    whole_given : (given : List Placed) → given ≡ with_line_end line (length bytes - length left + 1) sofar.own
        → IsWhole line (first_line bytes) given × (left ≡ after_line bytes)
    whole_given given is = (
      record {
        own = sofar.own;
        stop = length bytes - length rest + 1;
        left = first_line rest;
        has = sofar.has;
        over = subst IsComment (ap first_line next_is ∙ sym (blanks_of_line rest).rest) over;
        all = is ∙ ap (λ n. with_line_end line n sofar.own) (sym end_column);
      },
      left_after,
    )

    -- some tokens and then the end
    pub end_read : length old < length tokens
        → (given : List Placed) × (tokens ++ token_at LineEnd line (length bytes - length left + 1) ∷ [] ≡ old ++ given)
        × (IsWhole line (first_line bytes) given × (left ≡ after_line bytes))
    end_read some =
        let end : List Placed = token_at LineEnd line (length bytes - length left + 1) ∷ [] in
        let more : 0 < length sofar.own = omega (arith, ap length sofar.all, length-append old sofar.own) in
        let whole = whole_given (sofar.own ++ end) (some_with_end sofar.own more) in
        (sofar.own ++ end, ap (λ x. x ++ end) sofar.all ∙ append_assoc old sofar.own end, whole)
      where
        some_with_end : (own : List Placed) → 0 < length own
            → let column = length bytes - length left + 1 in
            own ++ token_at LineEnd line column ∷ [] ≡ with_line_end line column own
        some_with_end [] more = absurd (omega arith)
        some_with_end (token ∷ own) more = refl

    -- no tokens and no end
    pub no_end_read : length tokens ≤ length old
        → (given : List Placed) × (tokens ≡ old ++ given)
        × (IsWhole line (first_line bytes) given × (left ≡ after_line bytes))
    no_end_read none =
        let no_more : length sofar.own ≤ 0 = omega (arith, ap length sofar.all, length-append old sofar.own) in
        (sofar.own, sofar.all, whole_given sofar.own (none_with_end sofar.own no_more))
      where
        none_with_end : (own : List Placed) → length own ≤ 0
            → own ≡ with_line_end line (length bytes - length left + 1) own
        none_with_end [] none = refl
        none_with_end (token ∷ own) none = absurd (omega arith)

  -- a byte that is in no token cuts the line
  pub cut_read : (why : BadByte) → BeginsNone why (first_line next)
      → (given : List Placed) × (tokens ++ token_at (Bad why) line (length bytes - length next + 1) ∷ [] ≡ old ++ given)
      × IsCut line (first_line bytes) given
  cut_read why bad =
      let own : ℕ → List Placed = λ at. sofar.own ++ token_at (Bad why) line at ∷ [] in
      let here = length bytes - length next + 1 in
      let end = token_at (Bad why) line here ∷ [] in
      let cut : IsCut line (first_line bytes) (own here) = record {
        own = sofar.own;
        stop = length bytes - length rest + 1;
        left = first_line rest;
        why = why;
        has = sofar.has;
        bad = subst (BeginsNone why) (ap first_line next_is ∙ sym (blanks_of_line rest).rest) bad;
        all = ap own (sym next_column);
      } in
      (own here, ap (λ x. x ++ end) sofar.all ∙ append_assoc old sofar.own end, cut)

-- no blank stands at the front of what comes after the blanks
pub no_blank_first : (rest next : List ℕ) → next ≡ after_blanks rest → is_blank (get_or next 0 0) ≡ false
no_blank_first rest next is = stopped next (subst (Stops is_blank) (sym is) (front_stops is_blank rest))
  where
    stopped : (next : List ℕ) → Stops is_blank next → is_blank (get_or next 0 0) ≡ false
    stopped [] stops = refl
    stopped (b ∷ next) stops = stops

-- one token was put to the others
pub placed_push : (old new : List PlacedToken) (token : PlacedToken) → new ≡ old ++ token ∷ []
    → all_placed new ≡ all_placed old ++ placed token ∷ []
placed_push old new token is = ap all_placed is ∙ map_push placed old token
