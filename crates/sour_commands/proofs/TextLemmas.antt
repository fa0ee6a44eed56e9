-- What was read from a source is what it told, and what a fault that was told says.
use Rattle.std.proofs.Common.{◌≡◌, ◌≤◌, ℕ, List, Option, None, Some, IfSome, length, ◌∙◌, subst}
use Rattle.sour_ports.specs.Told.{GivesAll}
use Rattle.sour_raw.specs.Reads.{IsFirstFault}
use Rattle.sour_reader.specs.declared.fault.TextFault.{TextFault}
use Rattle.sour_reader.specs.declared.fault.TextFault.TheVariants.{At}
use Rattle.sour_reader.specs.Told.{IsFault}
use Rattle.sour_commands.specs.Due.{text_limit}

-- what holds of a slice of all the bytes that a source gave, no more than a text may have, holds of those it had told
pub IfSome-GivesAll : (P : List ℕ → Type 0) (before after : Option (List ℕ)) (bytes slice : List ℕ)
    → GivesAll before after bytes → slice ≡ bytes → length slice ≤ text_limit → P slice
    → IfSome before (λ text. (length text ≤ text_limit) × P text)
IfSome-GivesAll P None after bytes slice given same short holds = tt
IfSome-GivesAll P (Some all) None bytes slice given same short holds = absurd given
IfSome-GivesAll P (Some all) (Some rest) bytes slice given same short holds =
    subst (λ text. (length text ≤ text_limit) × P text) (same ∙ given.0) (short, holds)

-- a fault that was told with its place is the first
pub is_first : (bytes : List ℕ) (told : TextFault) (kind line column : ℕ) → told ≡ At kind line column
    → IsFault bytes told → IsFirstFault bytes kind line column
is_first bytes told kind line column is fault = subst (IsFault bytes) is fault
