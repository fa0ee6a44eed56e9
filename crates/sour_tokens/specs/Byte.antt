-- The bytes of a text, by their part in it.
use Rattle.std.specs.Prelude.{ℕ, Bool, ◌==◌, ◌||◌}
use Rattle.std.specs.Char.{is_ascii_alphabetic, is_ascii_alphanumeric}

-- a line feed ends a line
abbrev pub is_line_feed : ℕ → Bool
is_line_feed b = b == 10

-- a tab, a carriage return or a space
abbrev pub is_blank : ℕ → Bool
is_blank b = b == 9 || b == 13 || b == 32

-- a word begins with a letter or `_`
abbrev pub begins_word : ℕ → Bool
begins_word b = is_ascii_alphabetic b || b == 95

-- a word goes on with letters, digits and `_`
abbrev pub continues_word : ℕ → Bool
continues_word b = is_ascii_alphanumeric b || b == 95
