-- Which words are names.
use Rattle.std.specs.Prelude.{◌≡◌, ◌≤◌, ℕ, Bool, false, IsTrue, List, [], ◌∷◌, length, codes}
use Rattle.std.specs.List.{list_any}
use Rattle.std.specs.Str.{bytes_eq}
use Rattle.std.specs.Char.{is_ascii_alphabetic}
use Rattle.sour_tokens.specs.Token.{IsWord}

-- the words that are no names
abbrev pub reserved_words : List (List ℕ)
reserved_words =
    codes "fun" ∷ codes "ver" ∷ codes "end" ∷ codes "var" ∷ codes "drop" ∷ codes "array" ∷ codes "branch"
    ∷ codes "goto" ∷ codes "print" ∷ codes "read" ∷ codes "call" ∷ codes "return" ∷ codes "stop" ∷ codes "assume"
    ∷ codes "else" ∷ codes "true" ∷ codes "false" ∷ codes "nil" ∷ codes "length" ∷ codes "is_number" ∷ codes "is_array" ∷ []

-- whether it is one of them
abbrev pub is_reserved : List ℕ → Bool
is_reserved word = list_any (λ reserved. bytes_eq reserved word) reserved_words

-- its first byte is a letter
abbrev pub BeginsWithLetter : List ℕ → Type 0
BeginsWithLetter [] = ⊥
BeginsWithLetter (b ∷ bytes) = IsTrue (is_ascii_alphabetic b)

-- a name is a word of at most 64 bytes that begins with a letter and isn't reserved
pub record IsName (bytes : List ℕ) : Type 0 where
  pub word : IsWord bytes
  pub letter : BeginsWithLetter bytes
  pub free : is_reserved bytes ≡ false
  pub short : length bytes ≤ 64
