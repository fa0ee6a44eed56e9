-- A text has one list of tokens.
use Rattle.std.proofs.Common.{◌≡◌, ℕ, ◌+◌, List, [], ◌∷◌, ◌++◌, length, refl, sym, ap, ◌∙◌, subst, inl, inr, ⊎_elim, append-nil}
use Rattle.std.specs.Prelude.{◌⊎◌, ◌↔◌}
use Rattle.sour_tokens.specs.Token.{IsToken}
use Rattle.sour_lexer.specs.declared.tokens.BadByte.{BadByte}
use Rattle.sour_lexer.specs.Placed.{Lexeme, Bad, Placed}
use Rattle.sour_lexer.specs.Front.{spelling, blanks, after_blanks, IsLongest, IsTokenThen, IsComment, HasNoToken, BeginsNone, HasBadByte}
use Rattle.sour_lexer.specs.TokensOf.{Has, with_line_end, IsWhole, IsCut, LinesHave, HasTokens, text_lines}
use Rattle.sour_lexer.proofs.SpelledLaws.{lexeme_told, told_lexeme, spelled_token, token_no_comment}

-- of two fronts of one list, one goes on from the other
longer_front : (a b c d : List ℕ) → a ++ b ≡ c ++ d
    → ((more : List ℕ) × (c ≡ a ++ more) × (b ≡ more ++ d)) ⊎ ((more : List ℕ) × (a ≡ c ++ more) × (d ≡ more ++ b))
longer_front [] b c d is = inl (c, refl, is)
longer_front (x ∷ a) b [] d is = inr (x ∷ a, refl, sym is)
longer_front (x ∷ a) b (y ∷ c) d is =
    let heads : x ≡ y = cc in
    let tails : a ++ b ≡ c ++ d = cc in
    longer_cons x y a b c d heads (longer_front a b c d tails)
  where
    longer_cons : (x y : ℕ) (a b c d : List ℕ) → x ≡ y
        → ((more : List ℕ) × (c ≡ a ++ more) × (b ≡ more ++ d))
        ⊎ ((more : List ℕ) × (a ≡ c ++ more) × (d ≡ more ++ b))
        → ((more : List ℕ) × (y ∷ c ≡ x ∷ a ++ more) × (b ≡ more ++ d))
        ⊎ ((more : List ℕ) × (x ∷ a ≡ y ∷ c ++ more) × (d ≡ more ++ b))
    longer_cons x y a b c d heads (inl (more, front, rest)) = inl (more, (cc), rest)
    longer_cons x y a b c d heads (inr (more, front, rest)) = inr (more, (cc), rest)

-- a token at its longest is no shorter than another
longest_front : (a b c d : List ℕ) → IsLongest a b → IsToken c → (more : List ℕ) × (c ≡ a ++ more) × (b ≡ more ++ d)
    → (a ≡ c) × (b ≡ d)
longest_front a b c d longest token (more, front, rest) =
    let none : more ≡ [] = longest more d rest (subst IsToken front token) in
    (sym (front ∙ ap (λ x. a ++ x) none ∙ append-nil a), rest ∙ ap (λ x. x ++ d) none)

-- the next token of a line and what comes after it
pub record SameNext (a b : Lexeme) (after others : List ℕ) : Type 0 where
  pub lexeme : a ≡ b
  pub rest : after ≡ others

-- a line has one
pub same_next : (bytes : List ℕ) (a b : Lexeme) (after others : List ℕ) → IsTokenThen bytes a after
    → IsTokenThen bytes b others → SameNext a b after others
same_next bytes a b after others first second =
    let token_a = spelled_token a first.spelled in
    let token_b = spelled_token b second.spelled in
    let fronts : (spelling a ≡ spelling b) × (after ≡ others) =
    ⊎_elim (longest_front (spelling a) after (spelling b) others first.longest token_b)
    (
    λ longer.
    let same = longest_front (spelling b) others (spelling a) after second.longest token_a longer in
    (sym same.0, sym same.1)
    )
    (longer_front (spelling a) after (spelling b) others (sym first.whole ∙ second.whole)) in
    record {
      lexeme = sym (told_lexeme a first.spelled) ∙ ap lexeme_told fronts.0 ∙ told_lexeme b second.spelled;
      rest = fronts.1;
    }

-- no token comes next
abbrev NoNext : List ℕ → Type 0
NoNext bytes = (lexeme : Lexeme) (after : List ℕ) → IsTokenThen bytes lexeme after → ⊥

-- where a line has none
none_next : (bytes : List ℕ) → HasNoToken bytes → NoNext bytes
none_next bytes none lexeme after first =
    token_no_comment (spelling lexeme) after (spelled_token lexeme first.spelled) (subst IsComment first.whole none)

-- a byte that is in no token begins none
bad_begins : (why : BadByte) (bytes token after : List ℕ) → BeginsNone why bytes → bytes ≡ token ++ after
    → IsToken token → ⊥
bad_begins why [] token after bad is spelled = bad
bad_begins why (b ∷ bytes) token after bad is spelled = bad.2 token after is spelled

-- where a byte comes next that is in none
bad_next : (why : BadByte) (bytes : List ℕ) → HasBadByte why bytes → NoNext bytes
bad_next why bytes bad lexeme after first =
    bad_begins why (after_blanks bytes) (spelling lexeme) after bad first.whole (spelled_token lexeme first.spelled)

-- such a byte begins no comment
bad_no_comment : (why : BadByte) (bytes : List ℕ) → BeginsNone why bytes → IsComment bytes → ⊥
bad_no_comment why [] bad comment = bad
bad_no_comment why (b ∷ bytes) bad comment = bad.1 comment

-- why it is in none
same_why : (a b : BadByte) (bytes : List ℕ) → BeginsNone a bytes → BeginsNone b bytes → a ≡ b
same_why a b [] first second = absurd first
same_why a b (x ∷ bytes) first second = first.0 ∙ sym second.0

-- the tokens of a line up to where no token comes next, and that place
record SameTokens (a b : List Placed) (m n : ℕ) (left others : List ℕ) : Type 0 where
  tokens : a ≡ b
  stop : m ≡ n
  rest : left ≡ others

-- one token more
same_cons : (s t : Placed) (a b : List Placed) (m n : ℕ) (left others : List ℕ) → s.lexeme ≡ t.lexeme
    → s.line ≡ t.line → s.column ≡ t.column → SameTokens a b m n left others
    → SameTokens (s ∷ a) (t ∷ b) m n left others
same_cons s t a b m n left others lexeme line column same =
    let P : Lexeme → ℕ → ℕ → Placed = λ x l c. record { lexeme = x; line = l; column = c } in
    let one : s ≡ t =
    ap (λ x. P x s.line s.column) lexeme ∙ ap (λ l. P t.lexeme l s.column) line ∙ ap (P t.lexeme t.line) column in
    record { tokens = ap (λ x. x ∷ a) one ∙ ap (λ x. t ∷ x) same.tokens; stop = same.stop; rest = same.rest }

-- where no token comes next, a line has one list of tokens before
same_tokens : (line column : ℕ) (bytes : List ℕ) (a b : List Placed) (m n : ℕ) (left others : List ℕ)
    → Has line column bytes a m left → NoNext left → Has line column bytes b n others → NoNext others
    → SameTokens a b m n left others
same_tokens line column bytes [] [] m n left others first none second nothing =
    record { tokens = refl; stop = first.0 ∙ sym second.0; rest = first.1 ∙ sym second.1 }
same_tokens line column bytes [] (t ∷ b) m n left others first none second nothing =
    absurd (none t.lexeme second.0 (subst (λ x. IsTokenThen x t.lexeme second.0) (sym first.1) second.1))
same_tokens line column bytes (s ∷ a) [] m n left others first none second nothing =
    absurd (nothing s.lexeme first.0 (subst (λ x. IsTokenThen x s.lexeme first.0) (sym second.1) first.1))
same_tokens line column bytes (s ∷ a) (t ∷ b) m n left others first none second nothing =
    let same = same_next bytes s.lexeme t.lexeme first.0 second.0 first.1 second.1 in
    let next_column = column + blanks bytes + length (spelling s.lexeme) in
    let P : Lexeme → List ℕ → Type 0 =
    λ x rest. Has line (column + blanks bytes + length (spelling x)) rest b n others in
    let moved : P s.lexeme first.0 =
    subst (λ x. P x first.0) (sym same.lexeme) (subst (P t.lexeme) (sym same.rest) second.4) in
    same_cons s t a b m n left others same.lexeme (first.2 ∙ sym second.2) (first.3 ∙ sym second.3)
    (same_tokens line next_column first.0 a b m n left others first.4 none moved nothing)

module _ (line : ℕ) (bytes : List ℕ) (a b : List Placed) where
  -- a whole line gives one list
  same_whole : IsWhole line bytes a → IsWhole line bytes b → a ≡ b
  same_whole first second =
      let same =
      same_tokens line 1 bytes first.own second.own first.stop second.stop first.left second.left first.has
      (none_next first.left first.over) second.has (none_next second.left second.over) in
      first.all ∙ ap (with_line_end line (length bytes + 1)) same.tokens ∙ sym second.all

  -- so does a line that is cut
  same_cut : IsCut line bytes a → IsCut line bytes b → a ≡ b
  same_cut first second =
      let same =
      same_tokens line 1 bytes first.own second.own first.stop second.stop first.left second.left first.has
      (bad_next first.why first.left first.bad) second.has (bad_next second.why second.left second.bad) in
      let why =
      same_why first.why second.why (after_blanks second.left)
      (subst (λ x. BeginsNone first.why (after_blanks x)) same.rest first.bad) second.bad in
      let P : List Placed → BadByte → ℕ → List ℕ → List Placed =
      λ own why stop left. own ++ record { lexeme = Bad why; line = line; column = stop + blanks left } ∷ [] in
      first.all ∙ ap (λ x. P x first.why first.stop first.left) same.tokens
      ∙ ap (λ x. P second.own x first.stop first.left) why
      ∙ ap (λ x. P second.own second.why x first.left) same.stop ∙ ap (P second.own second.why second.stop) same.rest
      ∙ sym second.all

  -- and no line is both
  whole_or_cut : IsWhole line bytes a → IsCut line bytes b → ⊥
  whole_or_cut first second =
      let same =
      same_tokens line 1 bytes first.own second.own first.stop second.stop first.left second.left first.has
      (none_next first.left first.over) second.has (bad_next second.why second.left second.bad) in
      bad_no_comment second.why (after_blanks second.left) second.bad
      (subst (λ x. IsComment (after_blanks x)) same.rest first.over)

-- some lines have one list of tokens
same_lines : (line : ℕ) (lines : List (List ℕ)) (a b : List Placed) → LinesHave line lines a → LinesHave line lines b
    → a ≡ b
same_lines line [] a b first second = first ∙ sym second
same_lines line (bytes ∷ lines) a b (inl first) (inl second) = same_cut line bytes a b first second
same_lines line (bytes ∷ lines) a b (inl first) (inr second) =
    absurd (whole_or_cut line bytes second.0 a second.2 first)
same_lines line (bytes ∷ lines) a b (inr first) (inl second) =
    absurd (whole_or_cut line bytes first.0 b first.2 second)
same_lines line (bytes ∷ lines) a b (inr first) (inr second) =
    first.4 ∙ ap (λ x. x ++ first.1) (same_whole line bytes first.0 second.0 first.2 second.2)
    ∙ ap (λ x. second.0 ++ x) (same_lines (line + 1) lines first.1 second.1 first.3 second.3) ∙ sym second.4

-- a text has one list of tokens
pub one_list : (text : List ℕ) (a b : List Placed) → HasTokens text a → HasTokens text b → a ≡ b
one_list text a b first second = same_lines 1 (text_lines text) a b first second

-- a list that it has is that one
pub only_list : (text : List ℕ) (a : List Placed) → HasTokens text a → (b : List Placed) → HasTokens text b ↔ (b ≡ a)
only_list text a has b = (λ other. one_list text b a other has, λ is. subst (HasTokens text) (sym is) has)
