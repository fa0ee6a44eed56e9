-- The variables so far, after a name at the head of a line and the token after it.
use Rattle.std.specs.Prelude.{ℕ, List}
use Rattle.sour_raw.specs.declared.parts.Heading.{Heading}
use Rattle.sour_raw.specs.declared.parts.Heading.TheVariants.{Label, Target, Array}
use Rattle.sour_raw.specs.Mentions.{with_name}

-- a label isn't a variable
abbrev pub with_heading : List (List ℕ) → Heading → List ℕ → List (List ℕ)
with_heading names Label name = names
with_heading names Target name = with_name names name
with_heading names Array name = with_name names name
