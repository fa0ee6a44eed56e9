-- Names with numbers, and which number each name has.
use Rattle.std.specs.Prelude.{◌≡◌, ℕ, List, Option, Some, None, if◌then◌else◌}
use Rattle.std.specs.Str.{bytes_eq}
use Rattle.std.specs.Map.{lookup}
use Rattle.sour_checked.specs.Texts.{number_in}
use Rattle.sour_checked.specs.Names.{is_among}

-- the number that stands with a name, if one does
abbrev pub number_at : List (List ℕ × ℕ) → List ℕ → Option ℕ
number_at numbers name = lookup (bytes_eq name) numbers

-- the number of the first of these names that is this one, if one is
abbrev pub number_among : List (List ℕ) → List ℕ → Option ℕ
number_among names name = if is_among names name then Some (number_in names name) else None

-- each of these names has the number of the first that is the same, and no other name has one
abbrev pub IsNumbering : List (List ℕ × ℕ) → List (List ℕ) → Type 0
IsNumbering numbers names = (name : List ℕ) → number_at numbers name ≡ number_among names name
