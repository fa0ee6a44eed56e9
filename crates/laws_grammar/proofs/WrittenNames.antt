-- What well-formed tokens say within the limits: names, labels, paths, and at most 1024 variables.
use Rattle.std.proofs.Common.{◌≡◌, ℕ, ◌≤◌, ◌<◌, Bool, true, false, not, ◌⊎◌, inl, inr, List, [], ◌∷◌, length, length-append, eq-eqb, eqb-true, true≢false, Some, None, refl, sym, ap, subst, ◌∙◌, arith}
use Rattle.std.specs.Prelude.{filter, nat_lt, ⊤}
use Rattle.std.specs.Char.{is_ascii_digit}
use Rattle.std.specs.List.{AllByRecursion}
use Rattle.std.specs.Str.{bytes_eq}
use Rattle.std.proofs.lemmas.Bool.{and_parts, or_cases, leb-true}
use Rattle.std.proofs.lemmas.List.Sums.{AllPass-from_list_all}
use Rattle.std.proofs.lemmas.Slice.Eq.{bytes_eq-Decides}
use Rattle.sour_tokens.specs.Token.{IsWord, IsDigits}
use Rattle.sour_syntax.specs.Name.{is_reserved, IsName}
use Rattle.sour_syntax.proofs.Everywhere.{AllByRecursion-append}
use Rattle.sour_lexer.specs.Placed.{Lexeme, Word, Digits}
use Rattle.sour_lexer.specs.TokenList.{IsWellFormed}
use Rattle.sour_raw.specs.declared.kind.Kind.TheVariants.{Limit as limit}
use Rattle.sour_raw.specs.Spelling.{each, after_separator, alone}
use Rattle.sour_raw.specs.Words.{word}
use Rattle.sour_raw.specs.Lexemes.{slash}
use Rattle.sour_raw.specs.Mentions.{with_name}
use Rattle.sour_raw.specs.Names.{is_name, is_label, is_short, is_short_if_name, is_decimal, is_automatic, word_that, name_of, part_of}
use Rattle.sour_raw.specs.Variables.{is_known, has_room, fits, may_mention}
use Rattle.sour_raw.specs.Grammar.{no_names, name, mention, label, part, path}
use Rattle.sour_raw.specs.Written.{IsDecimal, IsLabel, IsPath}
use Rattle.laws_grammar.proofs.Names.{word_is}
use Rattle.laws_grammar.proofs.Held.{EachIsWellFormed, Held, cut, Keeps, each_kept, separated}

-- what is known of a word that a token says
said_word : (test allowed : List ℕ → Bool) (x : List ℕ) → Held (word (word_that test) limit allowed limit x)
    → IsWord x × (test x ≡ true) × (allowed x ≡ true)
said_word test allowed x (u, s, known) =
    let t = word_is test s.0.lexeme x s.1 in (subst IsWellFormed t.0 (subst EachIsWellFormed s.2 known).0, t.1, s.3)

-- ---- names

-- what isn't true is false
not_true : (b : Bool) → not b ≡ true → b ≡ false
not_true true e = absurd cc
not_true false e = refl

-- a short word that passes the test of names is a name
is_name_of : (x : List ℕ) → IsWord x → is_name x ≡ true → is_short x ≡ true → IsName x
is_name_of [] is passes short = absurd is
is_name_of (b ∷ bytes) is passes short =
    let p = and_parts _ _ passes in
    record { word = is; letter = p.0; free = not_true (is_reserved (b ∷ bytes)) p.1; short = leb-true _ _ short }

-- the test of names says so of each name
name_passes : (x : List ℕ) → IsName x → is_name x ≡ true
name_passes [] is = absurd is.letter
name_passes (b ∷ bytes) is = rw (is.letter, is.free) refl

-- a name is written so
pub name_written : (x : List ℕ) → Held (name limit x) → IsName x
name_written x h = let t = said_word is_name is_short x h in is_name_of x t.0 t.1 t.2

-- ---- labels

-- decimal digits are digits
decimal_digits : (bytes : List ℕ) → is_decimal bytes ≡ true → IsDecimal bytes
decimal_digits [] e = absurd cc
decimal_digits (digit ∷ []) e = (e, AllPass-from_list_all is_ascii_digit [] refl)
decimal_digits (digit ∷ other ∷ digits) e =
    let p = and_parts _ _ e in
    let all = and_parts _ _ p.1 in (
      (λ zero. true≢false (sym (eq-eqb digit 48 zero) ∙ not_true _ p.0)),
      (all.0, AllPass-from_list_all is_ascii_digit (other ∷ digits) all.1),
    )

-- a word that passes the test of labels, and is short if it is a name, is a label
is_label_of : (x : List ℕ) → IsWord x → is_label x ≡ true → is_short_if_name x ≡ true → IsLabel x
is_label_of x is passes short = by (is_name x) refl where
  automatic : (x : List ℕ) → is_automatic x ≡ true → IsLabel x
  automatic [] e = absurd cc
  automatic (b ∷ bytes) e =
      let p = and_parts _ _ e in
      let first : b ≡ 95 = eqb-true b 95 p.0 in
      inr (bytes, ap (λ (c : ℕ). c ∷ bytes) first, decimal_digits bytes p.1)

  by : (b : Bool) → is_name x ≡ b → IsLabel x
  by true e =
      inl (is_name_of x is e (elim (or_cases (is_short x) (not (is_name x)) short)
      [ inl short ↦ short | inr other ↦ absurd cc ]))
  by false e = elim (or_cases (is_name x) (is_automatic x) passes)
      [ inl named ↦ absurd cc | inr auto ↦ automatic x auto ]

-- a label is written so
pub label_written : (x : List ℕ) → Held (label limit x) → IsLabel x
label_written x h = let t = said_word is_label is_short_if_name x h in is_label_of x t.0 t.1 t.2

-- ---- paths

-- a part of a path is a label or digits
part_written : (x : List ℕ) → Held (part limit x) → IsLabel x ⊎ IsDigits x
part_written x (u, (t, says, whole, short), known) = by t.lexeme says (subst EachIsWellFormed whole known).0 where
  by : (lexeme : Lexeme) → part_of lexeme ≡ Some x → IsWellFormed lexeme → IsLabel x ⊎ IsDigits x
  by (Digits bytes) e is = let same : bytes ≡ x = cc in inr (subst IsDigits same is)
  by (Word bytes) e is =
      let t = word_is is_label (Word bytes) x e in inl (is_label_of x (subst IsWellFormed t.0 is) t.1 short)
  by other e is = absurd cc

-- and so are its parts
parts_keep : Keeps (λ names. part) alone (λ (names : List (List ℕ)). ⊤) (λ x. IsLabel x ⊎ IsDigits x)
parts_keep = record { item = λ names free x h. (part_written x h, tt) }

-- a path is written so
pub path_written : (x : List ℕ) → Held (path limit x) → IsPath x
path_written x (u, (first, others, whole, s), known) =
    let c : Held (label limit first)
    × Held (each (after_separator slash (λ names. part)) alone None no_names limit others) =
    cut (u, s, known) in
    record {
      first = first;
      parts = others;
      whole = whole;
      label = label_written first c.0;
      each = (each_kept (separated slash parts_keep) None no_names tt others c.1).0;
    }

-- ---- variables

-- the names so far are names, and no more than 1024
abbrev pub IsState : List (List ℕ) → Type 0
IsState names = AllByRecursion IsName names × (length names ≤ 1024)

-- a name that is known is one of them
known_name : (names : List (List ℕ)) (x : List ℕ) → AllByRecursion IsName names → is_known names x ≡ true → IsName x
known_name [] x all e = absurd cc
known_name (first ∷ names) x all e = elim (or_cases (bytes_eq x first) (is_known names x) e) [
  | inl same ↦ subst IsName (sym ((bytes_eq-Decides x first).0 same)) all.0
  | inr later ↦ known_name names x all.1 later
]

-- all of them count
all_count : (names : List (List ℕ)) → AllByRecursion IsName names → filter is_name names ≡ names
all_count [] all = refl
all_count (first ∷ names) all = rw (name_passes first all.0, all_count names all.1) refl

-- a name may be put after them where there is room for it
pub state_with : (names : List (List ℕ)) (x : List ℕ) → IsState names → IsName x → has_room names x ≡ true
    → IsState (with_name names x)
state_with names x state is room = by (is_known names x) refl where
  by : (b : Bool) → is_known names x ≡ b → IsState (with_name names x)
  by true e = rw e state
  by false e =
      let left : length names < 1024 =
      elim (or_cases (is_known names x) (nat_lt (length (filter is_name names)) 1024) room) [
        | inl there ↦ absurd (true≢false (sym there ∙ e))
        | inr few ↦ subst (λ (some : List (List ℕ)). length some < 1024) (all_count names state.0) (leb-true _ _ few)
      ] in
      rw e (
        AllByRecursion-append IsName names (x ∷ []) state.0 (is, tt),
        omega (arith, length-append names (x ∷ []), left),
      )

-- a name that fits is a name
fits_is : (names : List (List ℕ)) → IsState names → (x : List ℕ) → IsWord x → is_name x ≡ true → fits names x ≡ true
    → IsName x
fits_is names state x word passes fit = elim (or_cases (is_short x) (is_known names x) fit) [
  | inl short ↦ is_name_of x word passes short
  | inr there ↦ known_name names x state.0 there
]

-- a label at the head of a line is a name
pub fitting_written : (names : List (List ℕ)) → IsState names → (x : List ℕ)
    → Held (word name_of limit (fits names) limit x) → IsName x
fitting_written names state x h = let t = said_word is_name (fits names) x h in fits_is names state x t.0 t.1 t.2

-- a mention is a name, which may be put after them
pub mention_written : (names : List (List ℕ)) → IsState names → (x : List ℕ) → Held (mention names limit x)
    → IsName x × IsState (with_name names x)
mention_written names state x h =
    let t = said_word is_name (may_mention names) x h in
    let p = and_parts _ _ t.2 in
    let is = fits_is names state x t.0 t.1 p.0 in
    (is, state_with names x state is p.1)
