-- The words that are no names, by their lengths.
use Rattle.std.specs.Prelude.{ℕ, Bool, List, length, filter, nat_eq}
use Rattle.std.specs.List.{list_any}
use Rattle.std.specs.Str.{bytes_eq}
use Rattle.sour_syntax.specs.Name.{reserved_words}

-- whether a word is one of the reserved words of this length
abbrev pub is_reserved_of : ℕ → List ℕ → Bool
is_reserved_of n word = list_any (λ reserved. bytes_eq reserved word) (filter (λ reserved. nat_eq (length reserved) n) reserved_words)
