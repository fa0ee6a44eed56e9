-- The test of whether two tokens are the same.
use Rattle.std.proofs.Common.{◌≡◌, ℕ, true, List, [], ◌∷◌, refl, sym, ap, ◌∙◌, get_or, eq-eqb, eqb-true}
use Rattle.std.proofs.lemmas.Slice.Eq.{bytes_eq-Decides}
use Rattle.sour_tokens.specs.declared.symbols.Symbol.{Symbol}
use Rattle.sour_tokens.specs.declared.symbols.Symbol.TheVariants.{Arrow, EqualEqual, NotEqual, LessEqual, GreaterEqual, AndAnd, OrOr, Less, Greater, Plus, Minus, Star, Slash, Percent, Bang, Equal, OpenParen, CloseParen, OpenBracket, CloseBracket, Comma, Colon, Semicolon, Dot, Ampersand, At}
use Rattle.sour_lexer.specs.declared.tokens.BadByte.{BadByte}
use Rattle.sour_lexer.specs.declared.tokens.BadByte.TheVariants.{NotAscii, NoToken}
use Rattle.sour_lexer.specs.Placed.{Lexeme, Word, Digits, Sign, LineEnd, Bad}
use Rattle.sour_raw.specs.Lexemes.{symbol_number, why_number, is}

-- the symbols in the order of their numbers
symbols : List Symbol
symbols =
    Arrow ∷ EqualEqual ∷ NotEqual ∷ LessEqual ∷ GreaterEqual ∷ AndAnd ∷ OrOr ∷ Less ∷ Greater ∷ Plus ∷ Minus ∷ Star ∷
    Slash
    ∷ Percent ∷ Bang ∷ Equal ∷ OpenParen ∷ CloseParen ∷ OpenBracket ∷ CloseBracket ∷ Comma ∷ Colon ∷ Semicolon ∷ Dot ∷
    Ampersand ∷ At ∷ []

-- each symbol is found by its number
symbol_found : (s : Symbol) → get_or symbols (symbol_number s) Arrow ≡ s
unfolding symbols
symbol_found Arrow = refl
symbol_found EqualEqual = refl
symbol_found NotEqual = refl
symbol_found LessEqual = refl
symbol_found GreaterEqual = refl
symbol_found AndAnd = refl
symbol_found OrOr = refl
symbol_found Less = refl
symbol_found Greater = refl
symbol_found Plus = refl
symbol_found Minus = refl
symbol_found Star = refl
symbol_found Slash = refl
symbol_found Percent = refl
symbol_found Bang = refl
symbol_found Equal = refl
symbol_found OpenParen = refl
symbol_found CloseParen = refl
symbol_found OpenBracket = refl
symbol_found CloseBracket = refl
symbol_found Comma = refl
symbol_found Colon = refl
symbol_found Semicolon = refl
symbol_found Dot = refl
symbol_found Ampersand = refl
symbol_found At = refl

-- each reason is found by its number
why_found : (w : BadByte) → get_or (NotAscii ∷ NoToken ∷ []) (why_number w) NotAscii ≡ w
why_found NotAscii = refl
why_found NoToken = refl

-- tokens that pass the test are the same
pub is_same : (a b : Lexeme) → is a b ≡ true → b ≡ a
is_same (Word a) (Word b) e = ap (λ (x : List ℕ). Word x) (sym ((bytes_eq-Decides a b).0 e))
is_same (Digits a) (Digits b) e = ap (λ (x : List ℕ). Digits x) (sym ((bytes_eq-Decides a b).0 e))
is_same (Sign a) (Sign b) e =
    ap (λ (x : Symbol). Sign x) (sym
    (sym (symbol_found a) ∙ ap (λ n. get_or symbols n Arrow) (eqb-true _ _ e) ∙ symbol_found b))
is_same LineEnd LineEnd e = refl
is_same (Bad a) (Bad b) e =
    ap (λ (x : BadByte). Bad x) (sym
    (sym (why_found a) ∙ ap (λ n. get_or (NotAscii ∷ NoToken ∷ []) n NotAscii) (eqb-true _ _ e) ∙ why_found b))
is_same a b e = absurd cc

-- each token passes the test of itself
pub is_itself : (a : Lexeme) → is a a ≡ true
is_itself (Word a) = (bytes_eq-Decides a a).1 refl
is_itself (Digits a) = (bytes_eq-Decides a a).1 refl
is_itself (Sign a) = eq-eqb (symbol_number a) (symbol_number a) refl
is_itself LineEnd = refl
is_itself (Bad a) = eq-eqb (why_number a) (why_number a) refl
