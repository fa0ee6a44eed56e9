-- How each symbol is spelled.
use Rattle.std.specs.Prelude.{ℕ, List, codes}
use Rattle.sour_tokens.specs.declared.symbols.Symbol.{Symbol}
use Rattle.sour_tokens.specs.declared.symbols.Symbol.TheVariants.{Arrow, EqualEqual, NotEqual, LessEqual, GreaterEqual, AndAnd, OrOr, Less, Greater, Plus, Minus, Star, Slash, Percent, Bang, Equal, OpenParen, CloseParen, OpenBracket, CloseBracket, Comma, Colon, Semicolon, Dot, Ampersand, At}

-- the bytes of a symbol
abbrev pub symbol_spelling : Symbol → List ℕ
symbol_spelling Arrow = codes "<-"
symbol_spelling EqualEqual = codes "=="
symbol_spelling NotEqual = codes "!="
symbol_spelling LessEqual = codes "<="
symbol_spelling GreaterEqual = codes ">="
symbol_spelling AndAnd = codes "&&"
symbol_spelling OrOr = codes "||"
symbol_spelling Less = codes "<"
symbol_spelling Greater = codes ">"
symbol_spelling Plus = codes "+"
symbol_spelling Minus = codes "-"
symbol_spelling Star = codes "*"
symbol_spelling Slash = codes "/"
symbol_spelling Percent = codes "%"
symbol_spelling Bang = codes "!"
symbol_spelling Equal = codes "="
symbol_spelling OpenParen = codes "("
symbol_spelling CloseParen = codes ")"
symbol_spelling OpenBracket = codes "["
symbol_spelling CloseBracket = codes "]"
symbol_spelling Comma = codes ","
symbol_spelling Colon = codes ":"
symbol_spelling Semicolon = codes ";"
symbol_spelling Dot = codes "."
symbol_spelling Ampersand = codes "&"
symbol_spelling At = codes "@"
