-- The laws of numbers and literals.
use Rattle.std.proofs.Common.{◌≡◌, ℕ, ℤ, pos, neg_ℤ, Bool, true, false, List, [], Some, not, refl, sym, inl, inr, append-nil}
use Rattle.std.specs.List.{list_all}
use Rattle.std.specs.Str.Parse.{digits_value}
use Rattle.sour_lexer.specs.Placed.{Lexeme, Placed, Digits}
use Rattle.sour_raw.specs.declared.kind.Kind.{Kind}
use Rattle.sour_raw.specs.declared.kind.Kind.TheVariants.{Number as in_range}
use Rattle.sour_raw.specs.declared.raw.RawLiteral.{RawLiteral}
use Rattle.sour_raw.specs.declared.raw.RawLiteral.TheVariants.{Number, Truth, Nil, Function}
use Rattle.sour_raw.specs.Lexemes.{minus, ampersand, is}
use Rattle.sour_raw.specs.Spelling.{Language, one, ◌·◌}
use Rattle.sour_raw.specs.Fault.{is_digits}
use Rattle.sour_raw.specs.Keys.{keyword, truth_token, all_truths}
use Rattle.sour_raw.specs.Grammar.{digits_of, is_at_most, digits, number, literal, name}
use Rattle.sour_raw.specs.Expressions.{digits_at, number_at, begins_number, literal_at, begins_literal}
use Rattle.laws_grammar.proofs.Kit.{Exact, Any, exact_as, image, exact_image, out, exact_nothing, either, empty, exact_choose, Begins}
use Rattle.laws_grammar.proofs.Leaves.{exact_word, begins_word, exact_after, begins_one, headed}
use Rattle.laws_grammar.proofs.Keys.{exact_key, truths_found, keys_fail}
use Rattle.laws_grammar.proofs.Names.{exact_name}

-- what a test says of digits it says of the tokens that say numbers
of_digits : (p : Lexeme → Bool) (b : Bool) → ((bytes : List ℕ) → p (Digits bytes) ≡ b) → (t : Lexeme) (n : ℕ)
    → digits_of t ≡ Some n → p t ≡ b
of_digits p b h (Digits bytes) n e = h bytes
of_digits p b h other n e = absurd cc

-- the law of digits
exact_digits : (most : ℕ) → is_at_most most (digits_value 10 []) ≡ true → Exact (digits most) Any (digits_at most)
unfolding digits_at
exact_digits most e =
    exact_word digits_of in_range (is_at_most most) tt
    (λ t n ts e f. of_digits is_digits true (λ bytes. refl) t.lexeme n e) (Digits []) (digits_value 10 []) refl e

-- a number begins with `-` or digits
number_begins : (p : Lexeme → Bool) (b : Bool) → p minus ≡ b → ((bytes : List ℕ) → p (Digits bytes) ≡ b)
    → (k : Kind) (n : ℤ) → Begins p b (number k n)
number_begins p b m d k n u rest s = elim s [
  | inl a ↦ begins_word digits_of in_range (is_at_most 9223372036854775807) p b (of_digits p b d) k a.0 u rest a.2
  | inr a ↦ headed minus p b m u rest a.2
]

-- the law of a number
exact_number : Exact number Any number_at
unfolding number_at
exact_number =
    exact_as (exact_choose (is minus)
    (exact_image (λ d. neg_ℤ (pos d)) (exact_after minus (exact_digits 9223372036854775808 refl)))
    (exact_image (λ d. pos d) (exact_digits 9223372036854775807 refl))
    (λ k n u rest s f. headed minus (is minus) true refl u rest s.2)
    (λ k n u rest s f. begins_word digits_of in_range (is_at_most 9223372036854775807) (is minus) false
    (of_digits (is minus) false (λ bytes. refl)) k s.0 u rest s.2))
    (λ k n u s. elim s [ inl a ↦ inr (a.0, sym a.1, a.2) | inr a ↦ inl (a.0, sym a.1, a.2) ])
    (λ k n u s. elim s [ inl a ↦ inr (a.0, sym a.1, a.2) | inr a ↦ inl (a.0, sym a.1, a.2) ])

-- what a test says of the tokens with which a literal begins
pub record LiteralTokens (p : Lexeme → Bool) (b : Bool) : Type 0 where
  pub minus : p minus ≡ b
  pub digits : (bytes : List ℕ) → p (Digits bytes) ≡ b
  pub ampersand : p ampersand ≡ b
  pub none : p (keyword "nil") ≡ b
  pub truth : (t : Bool) → p (truth_token t) ≡ b

-- it is known by what it says of each
pub literal_tokens : (p : Lexeme → Bool) (b : Bool) → p minus ≡ b → ((bytes : List ℕ) → p (Digits bytes) ≡ b)
    → p ampersand ≡ b → p (keyword "nil") ≡ b → p (keyword "true") ≡ b → p (keyword "false") ≡ b → LiteralTokens p b
literal_tokens p b m d a n t f = record { minus = m; digits = d; ampersand = a; none = n; truth = truths } where
  truths : (t : Bool) → p (truth_token t) ≡ b
  truths true = t
  truths false = f

-- a literal begins so
pub literal_begins : (p : Lexeme → Bool) (b : Bool) → LiteralTokens p b → (k : Kind) (a : RawLiteral)
    → Begins p b (literal k a)
literal_begins p b h k (Number n) = number_begins p b h.minus h.digits k n
literal_begins p b h k (Truth t) = begins_one p b (truth_token t) (h.truth t)
literal_begins p b h k Nil = begins_one p b (keyword "nil") h.none
literal_begins p b h k (Function f) = headed ampersand p b h.ampersand

-- a literal begins as literals do
pub literals_begin : LiteralTokens begins_literal true
literals_begin = literal_tokens begins_literal true refl (λ bytes. refl) refl refl refl refl

-- one of the four kinds of literals
abbrev choice : Language RawLiteral
choice =
    either (image (λ n. Number n) number)
    (either (image (λ f. Function f) (λ k f. one ampersand · name k f))
    (either (λ k a. one (keyword "nil") · empty Nil k a) (image (λ t. Truth t) (λ k t. one (truth_token t)))))

-- the law of a literal
pub exact_literal : Exact literal Any literal_at
unfolding literal_at
exact_literal =
    exact_as
    (exact_choose begins_number (exact_image (λ n. Number n) exact_number)
    (exact_choose (is ampersand) (exact_image (λ f. Function f) (exact_after ampersand exact_name))
    (exact_choose (is (keyword "nil")) (exact_after (keyword "nil") (exact_nothing Nil))
    (exact_image (λ t. Truth t) (exact_key truth_token all_truths truths_found true))
    (λ k a u rest s f. headed (keyword "nil") (is (keyword "nil")) true refl u rest s)
    (λ k a u rest s f. truth_begins (is (keyword "nil")) refl s.0 u rest s.2))
    (λ k a u rest s f. headed ampersand (is ampersand) true refl u rest s.2)
    (λ k a u rest s f. elim s [
      | inl s ↦ headed (keyword "nil") (is ampersand) false refl u rest s
      | inr s ↦ truth_begins (is ampersand) refl s.0 u rest s.2
    ]))
    (λ k a u rest s f. number_begins begins_number true refl (λ bytes. refl) k s.0 u rest s.2)
    (λ k a u rest s f. elim s [
      | inl s ↦ headed ampersand begins_number false refl u rest s.2
      | inr s ↦ elim s [
        | inl s ↦ headed (keyword "nil") begins_number false refl u rest s
        | inr s ↦ truth_begins begins_number refl s.0 u rest s.2
      ]
    ]))
    to back
  where
    truth_begins : (p : Lexeme → Bool) → list_all (λ t. not (p (truth_token t))) all_truths ≡ true → (t : Bool)
        → Begins p false (one (truth_token t))
    truth_begins p fails t = begins_one p false (truth_token t)
        (keys_fail truth_token all_truths truths_found p fails t)

    to : (k : Kind) (a : RawLiteral) (u : List Placed) → choice k a u → literal k a u
    to k a u s = elim s [
      | inl s ↦ out literal s
      | inr s ↦ elim s [
        | inl s ↦ out literal s
        | inr s ↦ elim s [
          | inl s ↦ rw (s.4.0, s.2, s.4.1, append-nil s.0) s.3
          | inr s ↦ out literal s
        ]
      ]
    ]

    back : (k : Kind) (a : RawLiteral) (u : List Placed) → literal k a u → choice k a u
    back k (Number n) u s = inl (n, refl, s)
    back k (Function f) u s = inr (inl (f, refl, s))
    back k Nil u s = inr (inr (inl (u, [], sym (append-nil u), s, (refl, refl))))
    back k (Truth t) u s = inr (inr (inr (t, refl, s)))
