-- What tokens and bytes read as, and where their first fault stands.
use Rattle.std.specs.Prelude.{◌≡◌, ℕ, List, [], ◌∷◌}
use Rattle.sour_lexer.specs.declared.tokens.BadByte.TheVariants.{NotAscii, NoToken}
use Rattle.sour_lexer.specs.Placed.{Lexeme, Placed, Bad}
use Rattle.sour_lexer.specs.TokensOf.{HasTokens, Position, text_end}
use Rattle.sour_raw.specs.declared.raw.RawJob.{RawJob}
use Rattle.sour_raw.specs.Spelling.{Kind, form, number as in_range, limit}
use Rattle.sour_raw.specs.Fault.{FaultAt}
use Rattle.sour_raw.specs.Grammar.{job}

-- the tokens, all of them, spell this raw job within the limits
abbrev pub ReadsTokens : List Placed → RawJob → Type 0
ReadsTokens tokens raw = job limit raw tokens

-- the first fault of the tokens is of this kind and stands where these are left
abbrev pub HasFault : List Placed → Kind → List Placed → Type 0
HasFault tokens kind rest = FaultAt job kind tokens rest

-- the bytes read as this raw job
pub record Reads (bytes : List ℕ) (raw : RawJob) : Type 0 where
  pub tokens : List Placed
  pub whole : HasTokens bytes tokens
  pub spelled : ReadsTokens tokens raw

-- the number of a fault of Form at this token: 1 NotAscii or 2 Token at a byte that is in no token, else 3 Form
abbrev pub form_number : Lexeme → ℕ
form_number (Bad NotAscii) = 1
form_number (Bad NoToken) = 2
form_number other = 3

-- the number of a fault of this kind, where these tokens are left: 4 Number, 5 Limit
abbrev pub fault_number : Kind → List Placed → ℕ
fault_number form [] = 3
fault_number form (token ∷ tokens) = form_number token.lexeme
fault_number in_range tokens = 4
fault_number limit tokens = 5

-- where the first of these tokens stands, or else the end
abbrev pub place_of : Position → List Placed → Position
place_of end [] = end
place_of end (token ∷ tokens) = record { line = token.line; column = token.column }

-- the bytes don't read: this is the number of their first fault, and it stands at this line and this column
pub record IsFirstFault (bytes : List ℕ) (number line column : ℕ) : Type 0 where
  pub tokens : List Placed
  pub whole : HasTokens bytes tokens
  pub kind : Kind
  pub rest : List Placed
  pub fault : HasFault tokens kind rest
  pub told : number ≡ fault_number kind rest
  pub place : record { line = line; column = column } ≡ place_of (text_end bytes) rest
