-- Reserved words are found among those of their length.
use Rattle.std.proofs.Common.{◌≡◌, ◌≢◌, ℕ, suc, Bool, true, false, nat_eq, List, [], ◌∷◌, length, refl, sym, ap, ◌∙◌, eq-eqb, eqb-true}
use Rattle.std.specs.List.{list_any, filter}
use Rattle.std.specs.Str.{bytes_eq}
use Rattle.std.proofs.Math.Bool.{and-false, true≢false}
use Rattle.sour_syntax.specs.Name.{is_reserved, reserved_words}
use Rattle.sour_reader.specs.Reserved.{is_reserved_of}

-- words of different lengths differ
differ : (a b : List ℕ) → length a ≢ length b → bytes_eq a b ≡ false
differ [] [] n = absurd (n refl)
differ [] (y ∷ ys) n = refl
differ (x ∷ xs) [] n = refl
differ (x ∷ xs) (y ∷ ys) n = rw (differ xs ys (λ e. n (ap suc e))) (and-false (nat_eq x y))

-- only words of the same length can be a word
by_length : (words : List (List ℕ)) (word : List ℕ)
    → list_any (λ other. bytes_eq other word) words
    ≡ list_any (λ other. bytes_eq other word) (filter (λ other. nat_eq (length other) (length word)) words)
by_length [] word = refl
by_length (other ∷ words) word = by (by_length words word) (nat_eq (length other) (length word)) refl where
  Same : List (List ℕ) → Type 0
  Same list =
      list_any (λ other. bytes_eq other word) list
      ≡ list_any (λ other. bytes_eq other word) (filter (λ other. nat_eq (length other) (length word)) list)

  by : Same words → (b : Bool) → nat_eq (length other) (length word) ≡ b → Same (other ∷ words)
  by h true e = rw (e, h) refl
  by h false e = rw (e, differ other word (λ same. absurd (true≢false (sym (eq-eqb _ _ same) ∙ e))), h) refl

-- a word of this length is reserved where it is a reserved word of the length
pub reserved_by_length : (n : ℕ) (word : List ℕ) → length word ≡ n → is_reserved word ≡ is_reserved_of n word
reserved_by_length n word e = by_length reserved_words word ∙ ap (λ m. is_reserved_of m word) e

-- a word of any other length isn't reserved
pub free_by_length : (word : List ℕ) → length word ≢ 3 → length word ≢ 4 → length word ≢ 5 → length word ≢ 6 → length word ≢ 8 → length word ≢ 9
    → is_reserved word ≡ false
free_by_length word a b c d e f =
    by_length reserved_words word
    ∙ rw (unequal 3 a, unequal 4 b, unequal 5 c, unequal 6 d, unequal 8 e, unequal 9 f) refl where
      unequal : (n : ℕ) → length word ≢ n → nat_eq n (length word) ≡ false
      unequal n other = by (nat_eq n (length word)) refl where
        by : (b : Bool) → nat_eq n (length word) ≡ b → b ≡ false
        by false e = refl
        by true e = absurd (other (sym (eqb-true _ _ e)))
