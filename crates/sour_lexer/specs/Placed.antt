-- A token apart from the text that it is borrowed from, and where it stands.
use Rattle.std.specs.Prelude.{ℕ, List, map}
use Rattle.sour_tokens.specs.declared.symbols.Symbol.{Symbol}
use Rattle.sour_lexer.specs.declared.tokens.BadByte.{BadByte}
use Rattle.sour_lexer.specs.declared.tokens.Token.{Token}
use Rattle.sour_lexer.specs.declared.tokens.Token.TheVariants as token
use Rattle.sour_lexer.specs.declared.tokens.PlacedToken.{PlacedToken}

-- a token by its bytes
pub data Lexeme : Type 0 where
  Word : List ℕ → Lexeme
  Digits : List ℕ → Lexeme
  Sign : Symbol → Lexeme
  LineEnd : Lexeme
  Bad : BadByte → Lexeme

-- a token, its line and its column
pub record Placed : Type 0 where
  pub lexeme : Lexeme
  pub line : ℕ
  pub column : ℕ

-- the token, by its bytes
abbrev pub lexeme_of : Token → Lexeme
lexeme_of (token.Word bytes) = Word bytes.now
lexeme_of (token.Digits bytes) = Digits bytes.now
lexeme_of (token.Symbol symbol) = Sign symbol
lexeme_of token.LineEnd = LineEnd
lexeme_of (token.Bad why) = Bad why

-- the same with its place
abbrev pub placed : PlacedToken → Placed
placed t = record { lexeme = lexeme_of t.token; line = t.line; column = t.column }

-- the same of each
abbrev pub all_placed : List PlacedToken → List Placed
all_placed tokens = map placed tokens
