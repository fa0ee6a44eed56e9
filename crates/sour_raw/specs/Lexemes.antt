-- Small names for tokens, and whether two tokens are the same.
use Rattle.std.specs.Prelude.{ℕ, Bool, false, true, nat_eq}
use Rattle.std.specs.Str.{bytes_eq}
use Rattle.sour_tokens.specs.declared.symbols.Symbol.{Symbol}
use Rattle.sour_tokens.specs.declared.symbols.Symbol.TheVariants as symbol
use Rattle.sour_lexer.specs.declared.tokens.BadByte.{BadByte}
use Rattle.sour_lexer.specs.declared.tokens.BadByte.TheVariants as why
use Rattle.sour_lexer.specs.Placed.{Lexeme, Word, Digits, Sign, LineEnd, Bad}

-- `<-`
abbrev pub arrow : Lexeme
arrow = Sign symbol.Arrow

-- `-`
abbrev pub minus : Lexeme
minus = Sign symbol.Minus

-- `!`
abbrev pub bang : Lexeme
bang = Sign symbol.Bang

-- `=`
abbrev pub equal : Lexeme
equal = Sign symbol.Equal

-- `==`
abbrev pub equal_equal : Lexeme
equal_equal = Sign symbol.EqualEqual

-- `(`
abbrev pub open_paren : Lexeme
open_paren = Sign symbol.OpenParen

-- `)`
abbrev pub close_paren : Lexeme
close_paren = Sign symbol.CloseParen

-- `[`
abbrev pub open_bracket : Lexeme
open_bracket = Sign symbol.OpenBracket

-- `]`
abbrev pub close_bracket : Lexeme
close_bracket = Sign symbol.CloseBracket

-- `,`
abbrev pub comma : Lexeme
comma = Sign symbol.Comma

-- `:`
abbrev pub colon : Lexeme
colon = Sign symbol.Colon

-- `;`
abbrev pub semicolon : Lexeme
semicolon = Sign symbol.Semicolon

-- `.`
abbrev pub dot : Lexeme
dot = Sign symbol.Dot

-- `&`
abbrev pub ampersand : Lexeme
ampersand = Sign symbol.Ampersand

-- `@`
abbrev pub at_sign : Lexeme
at_sign = Sign symbol.At

-- `/`
abbrev pub slash : Lexeme
slash = Sign symbol.Slash

-- `%`
abbrev pub percent : Lexeme
percent = Sign symbol.Percent

-- a number for each symbol
abbrev pub symbol_number : Symbol → ℕ
symbol_number symbol.Arrow = 0
symbol_number symbol.EqualEqual = 1
symbol_number symbol.NotEqual = 2
symbol_number symbol.LessEqual = 3
symbol_number symbol.GreaterEqual = 4
symbol_number symbol.AndAnd = 5
symbol_number symbol.OrOr = 6
symbol_number symbol.Less = 7
symbol_number symbol.Greater = 8
symbol_number symbol.Plus = 9
symbol_number symbol.Minus = 10
symbol_number symbol.Star = 11
symbol_number symbol.Slash = 12
symbol_number symbol.Percent = 13
symbol_number symbol.Bang = 14
symbol_number symbol.Equal = 15
symbol_number symbol.OpenParen = 16
symbol_number symbol.CloseParen = 17
symbol_number symbol.OpenBracket = 18
symbol_number symbol.CloseBracket = 19
symbol_number symbol.Comma = 20
symbol_number symbol.Colon = 21
symbol_number symbol.Semicolon = 22
symbol_number symbol.Dot = 23
symbol_number symbol.Ampersand = 24
symbol_number symbol.At = 25

-- a number for each reason why a byte is in no token
abbrev pub why_number : BadByte → ℕ
why_number why.NotAscii = 0
why_number why.NoToken = 1

-- whether two tokens are the same, apart from their places
abbrev pub is : Lexeme → Lexeme → Bool
is (Word a) (Word b) = bytes_eq a b
is (Digits a) (Digits b) = bytes_eq a b
is (Sign a) (Sign b) = nat_eq (symbol_number a) (symbol_number b)
is LineEnd LineEnd = true
is (Bad a) (Bad b) = nat_eq (why_number a) (why_number b)
is a other = false
