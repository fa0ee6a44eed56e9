-- What stands at the front of some bytes.
use Rattle.std.proofs.Common.{◌≡◌, ◌≢◌, ℕ, suc, zero, ◌<◌, ◌≤◌, true, false, List, [], ◌∷◌, ◌++◌, length, get_or, take, drop, refl, sym, ap, ◌∙◌, subst, inl, inr, take-append-drop, append_assoc, arith}
use Rattle.std.specs.List.{AllPass, prefix_len}
use Rattle.std.specs.Char.{is_ascii_digit}
use Rattle.std.proofs.lemmas.Bool.{false≢true}
use Rattle.std.proofs.lemmas.Bool.Decides.{nat_tests}
use Rattle.std.proofs.lemmas.List.Elements.{All-tail}
use Rattle.sour_tokens.specs.declared.symbols.Symbol.{Symbol}
use Rattle.sour_tokens.specs.Byte.{begins_word, continues_word}
use Rattle.sour_tokens.specs.Symbol.{symbol_spelling}
use Rattle.sour_tokens.specs.Token.{IsWord, IsDigits, IsToken}
use Rattle.sour_lexer.specs.declared.tokens.BadByte.{BadByte}
use Rattle.sour_lexer.specs.Front.{IsLongest, BeginsNone, why_bad}
use Rattle.sour_lexer.specs.Read.{first_line, after_line}
use Rattle.sour_lexer.proofs.Runs.{clash, Stops, front_passes, front_stops, no_more}
use Rattle.sour_lexer.proofs.LineLaws.{cut_after, whole_line}
use Rattle.sour_lexer.proofs.ByteLaws.{is_mark, continues-from_begins}
use Rattle.sour_lexer.proofs.SymbolLaws.{HasSymbolShape, IsSymbol-shape, begins_mark}
use Rattle.sour_lexer.proofs.SpelledLaws.{only_word, only_digits, only_symbol}

-- a front that passes is a word at its longest, where a word begins
word_here : (word after : List ℕ) → 0 < length (word ++ after) → begins_word (get_or (word ++ after) 0 0) ≡ true
    → AllPass continues_word word → Stops continues_word after → IsWord word × IsLongest word after
word_here [] [] some begins passes stops = absurd (omega arith)
word_here [] (b ∷ after) some begins passes stops = absurd (clash stops (continues-from_begins b begins))
word_here (b ∷ word) after some begins passes stops = (
  (begins, All-tail (λ x. continues_word x ≡ true) b word passes),
  λ more rest is token. no_more continues_word word more after rest (only_word b (word ++ more) begins token) is stops,
)

-- a front that passes is digits at their longest, where a digit stands
digits_here : (digits after : List ℕ) → 0 < length (digits ++ after)
    → is_ascii_digit (get_or (digits ++ after) 0 0) ≡ true → AllPass is_ascii_digit digits
    → Stops is_ascii_digit after → IsDigits digits × IsLongest digits after
digits_here [] [] some begins passes stops = absurd (omega arith)
digits_here [] (b ∷ after) some begins passes stops = absurd (clash stops begins)
digits_here (b ∷ digits) after some begins passes stops = (
  (begins, All-tail (λ x. is_ascii_digit x ≡ true) b digits passes),
  λ more rest is token. no_more is_ascii_digit digits more after rest (only_digits b (digits ++ more) begins token)
      is stops,
)

-- bytes that begin with a word, cut where it stops
pub word_first : (bytes : List ℕ) → 0 < length bytes → begins_word (get_or bytes 0 0) ≡ true
    → let n = prefix_len continues_word bytes in (bytes ≡ take n bytes ++ drop n bytes) × IsWord (take n bytes)
    × IsLongest (take n bytes) (drop n bytes)
word_first bytes some begins =
    let n = prefix_len continues_word bytes in
    let whole = sym (take-append-drop n bytes) in
    let P : List ℕ → Type 0 = λ x. (0 < length x) × (begins_word (get_or x 0 0) ≡ true) in
    let front : P (take n bytes ++ drop n bytes) = subst P whole (some, begins) in
    let here =
    word_here (take n bytes) (drop n bytes) front.0 front.1 (front_passes continues_word bytes)
    (front_stops continues_word bytes) in
    (whole, here.0, here.1)

-- bytes that begin with digits, cut where they stop
pub digits_first : (bytes : List ℕ) → 0 < length bytes → is_ascii_digit (get_or bytes 0 0) ≡ true
    → let n = prefix_len is_ascii_digit bytes in (bytes ≡ take n bytes ++ drop n bytes) × IsDigits (take n bytes)
    × IsLongest (take n bytes) (drop n bytes)
digits_first bytes some begins =
    let n = prefix_len is_ascii_digit bytes in
    let whole = sym (take-append-drop n bytes) in
    let P : List ℕ → Type 0 = λ x. (0 < length x) × (is_ascii_digit (get_or x 0 0) ≡ true) in
    let front : P (take n bytes ++ drop n bytes) = subst P whole (some, begins) in
    let here =
    digits_here (take n bytes) (drop n bytes) front.0 front.1 (front_passes is_ascii_digit bytes)
    (front_stops is_ascii_digit bytes) in
    (whole, here.0, here.1)

-- a symbol that was found, of the first two bytes or of the first alone, is at its longest
symbol_here : (first second n : ℕ) (more : List ℕ) (symbol : Symbol) → is_mark first ≡ true
    → second ≡ get_or more 0 10 → take n (first ∷ second ∷ []) ≡ symbol_spelling symbol → 0 < n → n ≤ 2
    → ((other : Symbol) → first ∷ second ∷ [] ≡ symbol_spelling other → n ≡ 2)
    → (first ∷ more ≡ symbol_spelling symbol ++ drop n (first ∷ more))
    × IsLongest (symbol_spelling symbol) (drop n (first ∷ more))
symbol_here first second zero more symbol mark next is some two longest = absurd (omega arith)
symbol_here first second (suc zero) more symbol mark next is some two longest =
    (ap (λ x. x ++ more) is, subst (λ x. IsLongest x more) is (λ extra rest of. one_byte extra rest of))
  where
    one_byte : (extra rest : List ℕ) → more ≡ extra ++ rest → IsToken (first ∷ extra) → extra ≡ []
    one_byte [] rest of token = refl
    one_byte (y ∷ []) rest of token =
        let known = only_symbol first (y ∷ []) mark token in
        let same : second ≡ y = next ∙ ap (λ x. get_or x 0 10) of in
        let pair : first ∷ second ∷ [] ≡ symbol_spelling known.0 = ap (λ x. first ∷ x ∷ []) same ∙ known.1 in
        absurd (omega (arith, longest known.0 pair))
    one_byte (y ∷ z ∷ extra) rest of token =
        absurd (IsSymbol-shape (first ∷ y ∷ z ∷ extra) (only_symbol first (y ∷ z ∷ extra) mark token))
symbol_here first second (suc (suc zero)) [] symbol mark next is some two longest =
    let spelled : first ∷ 10 ∷ [] ≡ symbol_spelling symbol = ap (λ x. first ∷ x ∷ []) (sym next) ∙ is in
    let shape : HasSymbolShape (first ∷ 10 ∷ []) = IsSymbol-shape (first ∷ 10 ∷ []) (symbol, spelled) in
    absurd (false≢true shape.1)
symbol_here first second (suc (suc zero)) (y ∷ more) symbol mark next is some two longest =
    let whole : first ∷ y ∷ [] ≡ symbol_spelling symbol = ap (λ x. first ∷ x ∷ []) (sym next) ∙ is in
    (ap (λ x. x ++ more) whole, subst (λ x. IsLongest x more) whole (λ extra rest of. two_bytes extra rest of))
  where
    two_bytes : (extra rest : List ℕ) → more ≡ extra ++ rest → IsToken (first ∷ y ∷ extra) → extra ≡ []
    two_bytes [] rest of token = refl
    two_bytes (z ∷ extra) rest of token =
        absurd (IsSymbol-shape (first ∷ y ∷ z ∷ extra) (only_symbol first (y ∷ z ∷ extra) mark token))
symbol_here first second (suc (suc (suc n))) more symbol mark next is some two longest = absurd (omega arith)

-- some bytes that begin with a symbol
pub symbol_first : (bytes : List ℕ) (first second n : ℕ) (symbol : Symbol) → 0 < length bytes
    → get_or bytes 0 0 ≡ first → second ≡ get_or bytes 1 10 → take n (first ∷ second ∷ []) ≡ symbol_spelling symbol
    → 0 < n → n ≤ 2 → ((other : Symbol) → first ∷ second ∷ [] ≡ symbol_spelling other → n ≡ 2)
    → (bytes ≡ symbol_spelling symbol ++ drop n bytes) × IsLongest (symbol_spelling symbol) (drop n bytes)
symbol_first [] first second n symbol nonempty head next is some two longest = absurd (omega arith)
symbol_first (b ∷ bytes) first second zero symbol nonempty head next is some two longest = absurd (omega arith)
symbol_first (b ∷ bytes) first second (suc n) symbol nonempty head next is some two longest =
    let spelled : take (suc n) (b ∷ second ∷ []) ≡ symbol_spelling symbol =
    ap (λ x. take (suc n) (x ∷ second ∷ [])) head ∙ is in
    let mark = begins_mark b (take n (second ∷ [])) (symbol, spelled) in
    symbol_here b second (suc n) bytes symbol mark next spelled some two
    (λ other pair. longest other (ap (λ x. x ∷ second ∷ []) (sym head) ∙ pair))

-- a byte that begins neither a word nor digits, and no symbol with the byte after it, begins no token
pub no_token_here : (b second : ℕ) (bytes : List ℕ) → begins_word b ≡ false → is_ascii_digit b ≡ false
    → second ≡ get_or bytes 0 10 → ((symbol : Symbol) → b ∷ [] ≡ symbol_spelling symbol → ⊥)
    → ((symbol : Symbol) → b ∷ second ∷ [] ≡ symbol_spelling symbol → ⊥) → (token after : List ℕ)
    → b ∷ bytes ≡ token ++ after → IsToken token → ⊥
no_token_here b second bytes word digit next one two [] after is token = no_bytes token
  where
    no_bytes : IsToken [] → ⊥
    no_bytes (inl none) = none
    no_bytes (inr (inl none)) = none
    no_bytes (inr (inr symbol)) = IsSymbol-shape [] symbol
no_token_here b second bytes word digit next one two (x ∷ token) after is (inl named) =
    let same : x ≡ b = cc in clash word (ap begins_word (sym same) ∙ named.0)
no_token_here b second bytes word digit next one two (x ∷ token) after is (inr (inl digits)) =
    let same : x ≡ b = cc in clash digit (ap is_ascii_digit (sym same) ∙ digits.0)
no_token_here b second bytes word digit next one two (x ∷ []) after is (inr (inr symbol)) =
    let same : b ≡ x = cc in one symbol.0 (ap (λ y. y ∷ []) same ∙ symbol.1)
no_token_here b second bytes word digit next one two (x ∷ y ∷ []) after is (inr (inr symbol)) =
    let same : b ≡ x = cc in
    let tail : bytes ≡ y ∷ after = cc in
    let other : second ≡ y = next ∙ ap (λ z. get_or z 0 10) tail in
    two symbol.0 (ap (λ z. z ∷ second ∷ []) same ∙ ap (λ z. x ∷ z ∷ []) other ∙ symbol.1)
no_token_here b second bytes word digit next one two (x ∷ y ∷ z ∷ token) after is (inr (inr symbol)) =
    IsSymbol-shape (x ∷ y ∷ z ∷ token) symbol

-- bytes that begin with a byte that is in no token
pub bad_first : (bytes : List ℕ) (second : ℕ) (why : BadByte) → why ≡ why_bad (get_or bytes 0 0) → 0 < length bytes
    → begins_word (get_or bytes 0 0) ≡ false → is_ascii_digit (get_or bytes 0 0) ≡ false → get_or bytes 0 0 ≢ 10
    → get_or bytes 0 0 ≢ 35 → second ≡ get_or bytes 1 10
    → ((symbol : Symbol) → get_or bytes 0 0 ∷ [] ≡ symbol_spelling symbol → ⊥)
    → ((symbol : Symbol) → get_or bytes 0 0 ∷ second ∷ [] ≡ symbol_spelling symbol → ⊥)
    → BeginsNone why (first_line bytes)
bad_first [] second why is nonempty word digit line_feed comment next one two = absurd (omega arith)
bad_first (b ∷ bytes) second why is nonempty word digit line_feed comment next one two =
    let P : List ℕ → Type 0 = λ x. BeginsNone why x in
    let cut = cut_after b bytes (grind (arith, nat_tests)) in
    let none = no_token_here b second bytes word digit next one two in
    subst P (sym cut.line_is) (
      is,
      comment,
      λ token after same spelled.
          none token (after ++ after_line bytes)
          (
          ap (λ x. b ∷ x) (sym (whole_line bytes)) ∙ ap (λ x. x ++ after_line bytes) same
          ∙ append_assoc token after (after_line bytes)
          )
          spelled,
    )

-- a byte that is there doesn't depend on what stands for one that isn't
pub second_there : (bytes : List ℕ) → 1 < length bytes → get_or bytes 1 0 ≡ get_or bytes 1 10
second_there [] some = absurd (omega arith)
second_there (a ∷ []) some = absurd (omega arith)
second_there (a ∷ b ∷ bytes) some = refl

-- where there is no second byte
pub second_missing : (bytes : List ℕ) → length bytes ≤ 1 → 10 ≡ get_or bytes 1 10
second_missing [] none = refl
second_missing (a ∷ []) none = refl
second_missing (a ∷ b ∷ bytes) none = absurd (omega arith)
