-- What the bytes of symbols are like, and which symbol some bytes are.
use Rattle.std.proofs.Common.{◌≡◌, ℕ, Bool, true, false, List, [], ◌∷◌, cond, Option, Some, None, refl, sym, ap, ◌∙◌, subst, inl, inr}
use Rattle.std.specs.Prelude.{◌⊎◌}
use Rattle.std.specs.List.{find}
use Rattle.std.specs.Str.{bytes_eq}
use Rattle.std.proofs.lemmas.Slice.Eq.{bytes_eq-Decides}
use Rattle.sour_tokens.specs.declared.symbols.Symbol.{Symbol}
use Rattle.sour_tokens.specs.declared.symbols.Symbol.TheVariants.{Arrow, EqualEqual, NotEqual, LessEqual, GreaterEqual, AndAnd, OrOr, Less, Greater, Plus, Minus, Star, Slash, Percent, Bang, Equal, OpenParen, CloseParen, OpenBracket, CloseBracket, Comma, Colon, Semicolon, Dot, Ampersand, At}
use Rattle.sour_tokens.specs.Symbol.{symbol_spelling}
use Rattle.sour_tokens.specs.Token.{IsSymbol}
use Rattle.sour_lexer.proofs.ByteLaws.{is_mark}

-- a mark, or two
abbrev pub HasSymbolShape : List ℕ → Type 0
HasSymbolShape [] = ⊥
HasSymbolShape (a ∷ []) = is_mark a ≡ true
HasSymbolShape (a ∷ b ∷ []) = (is_mark a ≡ true) × (is_mark b ≡ true)
HasSymbolShape (a ∷ b ∷ c ∷ bytes) = ⊥

-- all symbols
abbrev symbols : List Symbol
symbols =
    Arrow ∷ EqualEqual ∷ NotEqual ∷ LessEqual ∷ GreaterEqual ∷ AndAnd ∷ OrOr ∷ Less ∷ Greater ∷ Plus ∷ Minus ∷ Star
    ∷ Slash ∷ Percent ∷ Bang ∷ Equal
    ∷ OpenParen ∷ CloseParen ∷ OpenBracket ∷ CloseBracket ∷ Comma ∷ Colon ∷ Semicolon ∷ Dot ∷ Ampersand ∷ At ∷ []

-- the symbol of some bytes
abbrev pub symbol_of : List ℕ → Option Symbol
symbol_of bytes = find (λ symbol. bytes_eq (symbol_spelling symbol) bytes) symbols

-- its bytes have the shape, and tell it
abbrev IsTold : Symbol → Type 0
IsTold symbol = HasSymbolShape (symbol_spelling symbol) × (symbol_of (symbol_spelling symbol) ≡ Some symbol)

-- so do those of each symbol
told : (symbol : Symbol) → IsTold symbol
told Arrow = ((refl, refl), refl)
told EqualEqual = ((refl, refl), refl)
told NotEqual = ((refl, refl), refl)
told LessEqual = ((refl, refl), refl)
told GreaterEqual = ((refl, refl), refl)
told AndAnd = ((refl, refl), refl)
told OrOr = ((refl, refl), refl)
told Less = (refl, refl)
told Greater = (refl, refl)
told Plus = (refl, refl)
told Minus = (refl, refl)
told Star = (refl, refl)
told Slash = (refl, refl)
told Percent = (refl, refl)
told Bang = (refl, refl)
told Equal = (refl, refl)
told OpenParen = (refl, refl)
told CloseParen = (refl, refl)
told OpenBracket = (refl, refl)
told CloseBracket = (refl, refl)
told Comma = (refl, refl)
told Colon = (refl, refl)
told Semicolon = (refl, refl)
told Dot = (refl, refl)
told Ampersand = (refl, refl)
told At = (refl, refl)

-- the bytes of a symbol have the shape
pub IsSymbol-shape : (bytes : List ℕ) → IsSymbol bytes → HasSymbolShape bytes
IsSymbol-shape bytes (symbol, is) = subst HasSymbolShape (sym is) (told symbol).0

-- and tell it
pub told_symbol : (symbol : Symbol) → symbol_of (symbol_spelling symbol) ≡ Some symbol
told_symbol symbol = (told symbol).1

-- what is found passes
found_passes : (test : Symbol → Bool) (all : List Symbol) (symbol : Symbol) → find test all ≡ Some symbol
    → test symbol ≡ true
found_passes test [] symbol is = absurd (cc)
found_passes test (first ∷ all) symbol is =
    at_first test first (find test all) symbol (test first) refl is (found_passes test all symbol)
  where
    at_first : (test : Symbol → Bool) (first : Symbol) (later : Option Symbol) (symbol : Symbol) (passes : Bool)
        → test first ≡ passes → cond passes (Some first) later ≡ Some symbol
        → (later ≡ Some symbol → test symbol ≡ true) → test symbol ≡ true
    at_first test first later symbol true passes is others =
        let same : first ≡ symbol = cc in ap test (sym same) ∙ passes
    at_first test first later symbol false passes is others = others is

-- some bytes are a symbol or they aren't
pub symbol_or_none : (bytes : List ℕ) → IsSymbol bytes ⊎ (IsSymbol bytes → ⊥)
symbol_or_none bytes = at_found bytes (symbol_of bytes) refl
  where
    at_found : (bytes : List ℕ) (found : Option Symbol) → symbol_of bytes ≡ found
        → IsSymbol bytes ⊎ (IsSymbol bytes → ⊥)
    at_found bytes (Some symbol) is =
        let passes = found_passes (λ x. bytes_eq (symbol_spelling x) bytes) symbols symbol is in
        inl (symbol, sym ((bytes_eq-Decides (symbol_spelling symbol) bytes).0 passes))
    at_found bytes None is =
        inr (λ (symbol, same). let none : None ≡ Some symbol = sym is ∙ ap symbol_of same ∙ (told symbol).1 in cc)

-- a symbol begins with a mark
pub begins_mark : (b : ℕ) (bytes : List ℕ) → IsSymbol (b ∷ bytes) → is_mark b ≡ true
begins_mark b bytes symbol = mark_of b bytes (IsSymbol-shape (b ∷ bytes) symbol)
  where
    mark_of : (b : ℕ) (bytes : List ℕ) → HasSymbolShape (b ∷ bytes) → is_mark b ≡ true
    mark_of b [] shape = shape
    mark_of b (x ∷ []) shape = shape.0
    mark_of b (x ∷ y ∷ bytes) shape = absurd shape
