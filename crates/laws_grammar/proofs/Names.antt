-- The laws of names, labels and mentions of variables.
use Rattle.std.proofs.Common.{◌≡◌, ℕ, Bool, true, false, ◌⊎◌, inl, inr, List, [], ◌∷◌, Some, None, refl, sym, ap, subst}
use Rattle.std.specs.Prelude.{codes, filter, if◌then◌else◌}
use Rattle.std.specs.List.{list_any}
use Rattle.std.specs.Str.{bytes_eq}
use Rattle.std.proofs.lemmas.Bool.{false_from_ne_true, or_left, or_right}
use Rattle.std.proofs.lemmas.Slice.Eq.{bytes_eq-Decides}
use Rattle.sour_lexer.specs.Placed.{Lexeme, Word, Digits}
use Rattle.sour_raw.specs.declared.kind.Kind.TheVariants.{Limit as limit}
use Rattle.sour_raw.specs.Fault.{may_begin_item}
use Rattle.sour_raw.specs.Words.{word}
use Rattle.sour_raw.specs.Names.{is_name, is_label, is_short, is_short_if_name, word_that, name_of, label_of, part_of}
use Rattle.sour_raw.specs.Variables.{may_mention}
use Rattle.sour_raw.specs.Grammar.{name, mention, label, part}
use Rattle.sour_raw.specs.Expressions.{name_at, mention_at, label_at, says_name}
use Rattle.sour_raw.specs.Plan.{part_at, says_label}
use Rattle.laws_grammar.proofs.Kit.{Exact, Any, Begins}
use Rattle.laws_grammar.proofs.Leaves.{exact_word, begins_word}

-- ---- which tokens these are

-- a token that says a word which passes a test is that word
pub word_is : (test : List ℕ → Bool) (t : Lexeme) (x : List ℕ) → word_that test t ≡ Some x → (t ≡ Word x)
    × (test x ≡ true)
word_is test (Word bytes) x e = by (test bytes) refl e where
  by : (b : Bool) → test bytes ≡ b → (if b then Some bytes else None) ≡ Some x → (Word bytes ≡ Word x) × (test x ≡ true)
  by true passed e = let same : bytes ≡ x = cc in
      (ap (λ (it : List ℕ). Word it) same, subst (λ it. test it ≡ true) same passed)
  by false passed e = absurd cc
word_is test other x e = absurd cc

-- a test says this of all words that pass another
abbrev pub OfWords : (List ℕ → Bool) → (Lexeme → Bool) → Bool → Type 0
OfWords test p b = (x : List ℕ) → test x ≡ true → p (Word x) ≡ b

-- and so of the tokens that say them
pub of_words : (test : List ℕ → Bool) (p : Lexeme → Bool) (b : Bool) → OfWords test p b → (t : Lexeme) (x : List ℕ)
    → word_that test t ≡ Some x → p t ≡ b
of_words test p b h t x e = let is = word_is test t x e in subst (λ (it : Lexeme). p it ≡ b) (sym is.0) (h x is.1)

-- a word that passes a test isn't one that fails it
pub other_word : (test : List ℕ → Bool) (spelling x : List ℕ) → test spelling ≡ false → test x ≡ true
    → bytes_eq spelling x ≡ false
other_word test spelling x fails passes =
    false_from_ne_true (bytes_eq spelling x)
    (λ same. let e : spelling ≡ x = (bytes_eq-Decides spelling x).0 same in absurd cc)

-- names say that they are
pub names_say : OfWords is_name says_name true
names_say x is = rw is refl

-- labels say that they are
pub labels_say : OfWords is_label says_label true
labels_say x is = rw is refl

-- ---- what they begin with

-- a name begins with a name
pub name_begins : (p : Lexeme → Bool) (b : Bool) (allowed : List ℕ → Bool) → OfWords is_name p b → (k : _) (x : List ℕ)
    → Begins p b (word name_of limit allowed k x)
name_begins p b allowed h = begins_word name_of limit allowed p b (of_words is_name p b h)

-- a label begins with a label
pub label_begins : (p : Lexeme → Bool) (b : Bool) → OfWords is_label p b → (k : _) (x : List ℕ) → Begins p b (label k x)
label_begins p b h = begins_word label_of limit is_short_if_name p b (of_words is_label p b h)

-- ---- the laws

-- the law of a name
pub exact_name : Exact name Any name_at
unfolding name_at
exact_name = exact_word name_of limit is_short tt
    (λ t x ts e fails. of_words is_name may_begin_item true (λ y is. refl) t.lexeme x e) (Word (codes "x"))
    (codes "x") refl refl

-- among some names there is one that is a name, or none counts as one
name_among : (names : List (List ℕ))
    → (filter is_name names ≡ []) ⊎ ((x : List ℕ) × (is_name x ≡ true) × (list_any (bytes_eq x) names ≡ true))
name_among [] = inl refl
name_among (first ∷ names) = by (is_name first) refl (name_among names) where
  by : (b : Bool) → is_name first ≡ b
      → (filter is_name names ≡ []) ⊎ ((x : List ℕ) × (is_name x ≡ true) × (list_any (bytes_eq x) names ≡ true))
      → (filter is_name (first ∷ names) ≡ [])
      ⊎ ((x : List ℕ) × (is_name x ≡ true) × (list_any (bytes_eq x) (first ∷ names) ≡ true))
  by true is others =
      inr (
        first,
        is,
        or_left (bytes_eq first first) (list_any (bytes_eq first) names)
            ((bytes_eq-Decides first first).1 refl),
      )
  by false is (inl none) = inl (rw (is, none) refl)
  by false is (inr (x, named, there)) = inr (x, named, or_right (bytes_eq x first) (list_any (bytes_eq x) names) there)

-- some name may be mentioned, whatever the names so far are
pub any_mention : (names : List (List ℕ)) → (x : List ℕ) × (is_name x ≡ true) × (may_mention names x ≡ true)
any_mention names = by (name_among names) where
  by : (filter is_name names ≡ []) ⊎ ((x : List ℕ) × (is_name x ≡ true) × (list_any (bytes_eq x) names ≡ true))
      → (x : List ℕ) × (is_name x ≡ true) × (may_mention names x ≡ true)
  by (inl none) = (codes "x", refl, rw none (or_right (list_any (bytes_eq (codes "x")) names) true refl))
  by (inr (x, named, there)) = (x, named, rw (there, or_right (is_short x) true refl) refl)

-- a word that is a name says so
pub name_said : (x : List ℕ) → is_name x ≡ true → name_of (Word x) ≡ Some x
name_said x is = rw is refl

-- the law of a mention
pub exact_mention : (names : List (List ℕ)) → Exact (mention names) Any (mention_at names)
unfolding mention_at
exact_mention names =
    let some = any_mention names in
    exact_word name_of limit (may_mention names) tt
    (λ t x ts e fails. of_words is_name may_begin_item true (λ y is. refl) t.lexeme x e)
    (Word some.0) some.0 (name_said some.0 some.1) some.2

-- the law of a label
pub exact_label : Exact label Any label_at
unfolding label_at
exact_label =
    exact_word label_of limit is_short_if_name tt
    (λ t x ts e fails. of_words is_label may_begin_item true (λ y is. refl) t.lexeme x e)
    (Word (codes "x")) (codes "x") refl refl

-- the law of a part of a path
pub exact_part : Exact part Any part_at
unfolding part_at
exact_part =
    exact_word part_of limit is_short_if_name tt (λ t x ts e fails. part_item t.lexeme x e) (Word (codes "x"))
    (codes "x") refl refl
  where
    part_item : (t : Lexeme) (x : List ℕ) → part_of t ≡ Some x → may_begin_item t ≡ true
    part_item (Digits bytes) x e = refl
    part_item (Word bytes) x e = refl
    part_item other x e = absurd cc
