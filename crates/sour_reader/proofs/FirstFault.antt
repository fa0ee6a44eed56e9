-- What is told of where reading the tokens of a text stops.
use Rattle.std.proofs.Common.{◌≡◌, ◌↔◌, ◌∙◌, ℕ, List, refl, ap}
use Rattle.sour_lexer.specs.Placed.{Placed, all_placed}
use Rattle.sour_lexer.specs.TokensOf.{HasTokens, Position, text_end}
use Rattle.sour_raw.specs.Productions.{whole_at}
use Rattle.sour_raw.specs.Reads.{place_of}
use Rattle.sour_reader.specs.declared.stop.Stop.{Stop}
use Rattle.sour_reader.specs.declared.stop.Stop.TheVariants as stop
use Rattle.sour_reader.specs.declared.fault.TextFault.{TextFault}
use Rattle.sour_reader.specs.declared.fault.TextFault.TheVariants as fault
use Rattle.sour_reader.specs.Given.{Fails}
use Rattle.sour_reader.specs.Told.{Tells, IsFault}
use Rattle.sour_reader.proofs.Whole.{is_fault}

-- it is the first fault of the text
pub is_first : (bytes : List ℕ) (tokens : List Placed) → ((other : List Placed) → HasTokens bytes other ↔ (other ≡ tokens))
    → (s : Stop) (line column : ℕ) (told : TextFault) → line ≡ (text_end bytes).line → column ≡ (text_end bytes).column
    → Fails s (whole_at tokens) → Tells s line column told → IsFault bytes told
is_first bytes tokens exact stop.Memory line column told l c read tells = rw tells tt
is_first bytes tokens exact (stop.At kind rest) line column (fault.At number at_line at_column) l c read tells =
    let end : record { line = line; column = column } ≡ text_end bytes = rw (l, c) refl in
    is_fault bytes tokens exact kind (all_placed rest.now) read number at_line at_column tells.0
    (tells.1 ∙ ap (λ (it : Position). place_of it (all_placed rest.now)) end)
is_first bytes tokens exact (stop.At kind rest) line column fault.Memory l c read tells = absurd tells
