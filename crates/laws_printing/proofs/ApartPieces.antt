-- The pieces of a raw job that is written stand apart.
use Rattle.std.proofs.Common.{◌≡◌, ℕ, suc, ◌<◌, ◌^◌, ℤ, pos, negsuc, Bool, true, false, List, [], ◌∷◌, ◌++◌, map, Option, Some, None, get_or, decimal, refl, arith}
use Rattle.std.specs.Prelude.{FitsSigned, codes}
use Rattle.std.specs.Int.{w64}
use Rattle.std.specs.List.{AllByRecursion}
use Rattle.std.proofs.lemmas.Bool.Decides.{nat_tests}
use Rattle.sour_tokens.specs.declared.symbols.Symbol.{Symbol}
use Rattle.sour_tokens.specs.declared.symbols.Symbol.TheVariants.{Bang, Ampersand}
use Rattle.sour_tokens.specs.Byte.{continues_word}
use Rattle.sour_tokens.specs.Symbol.{symbol_spelling}
use Rattle.sour_tokens.specs.Token.{IsWord, IsDigits}
use Rattle.sour_syntax.specs.declared.expression.Op.{Op}
use Rattle.sour_syntax.specs.declared.expression.Op.TheVariants.{Add, Sub, Mul, Div, Rem, Eq, Ne, Lt, Le, Gt, Ge, And, Or}
use Rattle.sour_syntax.specs.Name.{IsName}
use Rattle.sour_syntax.proofs.Everywhere.{AllByRecursion-append}
use Rattle.sour_lexer.specs.Placed.{Lexeme, Word, Digits, Sign}
use Rattle.sour_lexer.specs.Front.{IsSpelled}
use Rattle.sour_lexer.proofs.ByteLaws.{continues-from_begins, continues-from_digit}
use Rattle.sour_raw.specs.declared.raw.RawLiteral.{RawLiteral}
use Rattle.sour_raw.specs.declared.raw.RawLiteral.TheVariants.{Number, Truth, Nil, Function}
use Rattle.sour_raw.specs.declared.raw.RawSimple.{RawSimple}
use Rattle.sour_raw.specs.declared.raw.RawSimple.TheVariants.{Lit, Name}
use Rattle.sour_raw.specs.declared.raw.RawExpr.{RawExpr}
use Rattle.sour_raw.specs.declared.raw.RawExpr.TheVariants.{Plain, Cell, Length, Not, Binary}
use Rattle.sour_raw.specs.declared.raw.RawPlace.{RawPlace}
use Rattle.sour_raw.specs.declared.raw.RawBind.{RawBind}
use Rattle.sour_raw.specs.declared.raw.RawExtra.{RawExtra}
use Rattle.sour_raw.specs.declared.raw.RawExit.{RawExit}
use Rattle.sour_raw.specs.declared.raw.RawInstr.{RawInstr}
use Rattle.sour_raw.specs.declared.raw.RawInstr.TheVariants.{Var, Drop, Assign, ArrayLength, ArrayList, Store, Print, Read, Branch, Goto, Call, Return, Stop, Assume}
use Rattle.sour_raw.specs.declared.raw.RawLine.{RawLine}
use Rattle.sour_raw.specs.declared.raw.RawVersion.{RawVersion}
use Rattle.sour_raw.specs.declared.raw.RawFunction.{RawFunction}
use Rattle.sour_raw.specs.Lexemes.{arrow, bang, equal, open_paren, close_paren, close_bracket}
use Rattle.sour_raw.specs.Keys.{op_token, truth_token}
use Rattle.sour_raw.specs.Written.{IsWrittenLiteral, IsWrittenSimple, IsWrittenExpr, AreWrittenExprs, IsWrittenPlace, IsWrittenMap, IsWrittenExtra, IsWrittenExit, IsWrittenInstr, IsWrittenLabel, IsWrittenLine, IsWrittenVersion, IsWrittenFunction, IsLabel}
use Rattle.laws_printing.specs.Pieces.{Piece, Token, Blank, word_then, number_pieces, literal_pieces, simple_pieces, expr_pieces, others_pieces, listed_pieces, place_pieces, bind_pieces, map_pieces, extra_pieces, exit_pieces, predicates_pieces, instr_pieces, labelled_pieces, line_pieces, version_pieces, version_lines, versions_lines, parameter_pieces, heading_pieces, end_pieces, function_lines, functions_lines}
use Rattle.laws_printing.specs.Text.{bytes_of, is_double, MayPrecede, AreApart, AreLinesApart}
use Rattle.laws_printing.specs.Laws.{PiecesAreApart}
use Rattle.laws_printing.proofs.Apart.{Item, Closing, no_item, alone_apart, closed_item, blank_item, sign_item, joined_item, others_close, others_item, listed_item}
use Rattle.laws_printing.proofs.Words.{is_word, tested_word, label_word, decimal_spelled}

-- ---- words and numbers

-- a keyword, and pieces that close it
key_item : (spelling : List ℕ) (pieces : List Piece) → is_word spelling ≡ true → Closing pieces → Item pieces
    → Item (Token (Word spelling) ∷ pieces)
key_item spelling pieces is closing item = closed_item (Word spelling) pieces (tested_word spelling is) closing item

-- a keyword and a blank, and any pieces
key_blank : (spelling : List ℕ) (pieces : List Piece) → is_word spelling ≡ true → Item pieces
    → Item (Token (Word spelling) ∷ Blank ∷ pieces)
key_blank spelling pieces is item = key_item spelling (Blank ∷ pieces) is (λ rest c. refl) (blank_item item)

-- a name, and pieces that close it
name_item : (x : List ℕ) (pieces : List Piece) → IsName x → Closing pieces → Item pieces → Item (word_then x pieces)
name_item x pieces is closing item = closed_item (Word x) pieces is.word closing item

-- a label, and pieces that close it
label_item : (x : List ℕ) (pieces : List Piece) → IsLabel x → Closing pieces → Item pieces → Item (word_then x pieces)
label_item x pieces is closing item = closed_item (Word x) pieces (label_word x is) closing item

-- nothing closes where what comes after it does
nothing_closes : Closing []
nothing_closes rest c = c

-- a byte with which a word goes on makes no symbol longer
no_double : (a b : ℕ) → continues_word b ≡ true → is_double a b ≡ false
no_double a b goes = grind (arith, nat_tests)

-- so a symbol may precede it
sign_before : (symbol : Symbol) (b : ℕ) (bytes : List ℕ) → continues_word b ≡ true
    → MayPrecede (Sign symbol) (b ∷ bytes)
sign_before symbol b bytes goes = rw (no_double (get_or (symbol_spelling symbol) 0 0) b goes) refl

-- a symbol may precede a word
sign_before_word : (symbol : Symbol) (x bytes : List ℕ) → IsWord x → MayPrecede (Sign symbol) (x ++ bytes)
sign_before_word symbol [] bytes is = absurd is
sign_before_word symbol (b ∷ x) bytes is = sign_before symbol b (x ++ bytes) (continues-from_begins b is.0)

-- and digits
sign_before_digits : (symbol : Symbol) (digits bytes : List ℕ) → IsDigits digits
    → MayPrecede (Sign symbol) (digits ++ bytes)
sign_before_digits symbol [] bytes is = absurd is
sign_before_digits symbol (b ∷ digits) bytes is =
    sign_before symbol b (digits ++ bytes) (continues-from_digit b is.0)

-- a number that fits 63 bits is below 2 ^ 64
fits_small : (n : ℕ) → FitsSigned w64 (pos n) → n < 2 ^ 64
fits_small n fits = omega (arith, fits)

-- and so is one that is negated
fits_small_negative : (n : ℕ) → FitsSigned w64 (negsuc n) → suc n < 2 ^ 64
fits_small_negative n fits = omega (arith, fits)

-- the digits of a number
digits_item : (n : ℕ) → n < 2 ^ 64 → Item (Token (Digits (decimal n)) ∷ [])
digits_item n small = closed_item (Digits (decimal n)) [] (decimal_spelled n small) nothing_closes no_item

-- a number
number_item : (n : ℤ) → FitsSigned w64 n → Item (number_pieces n)
number_item (pos n) fits = digits_item n (fits_small n fits)
number_item (negsuc n) fits =
    sign_item _ (Token (Digits (decimal (suc n))) ∷ []) (λ b. refl) (digits_item (suc n) (fits_small_negative n fits))

-- the word of a truth value
truth_spelled : (b : Bool) → IsSpelled (truth_token b)
truth_spelled true = tested_word (codes "true") refl
truth_spelled false = tested_word (codes "false") refl

-- a literal
literal_item : (a : RawLiteral) → IsWrittenLiteral a → Item (literal_pieces a)
literal_item (Number n) is = number_item n is
literal_item (Truth b) is = closed_item (truth_token b) [] (truth_spelled b) nothing_closes no_item
literal_item Nil is = key_item _ [] refl nothing_closes no_item
literal_item (Function f) is =
    let name = name_item f [] is nothing_closes no_item in record {
      apart = λ rest c apart. (tt, sign_before_word Ampersand f (bytes_of rest) is.word, name.apart rest c apart);
    }

-- ---- operands and expressions

-- an operand
simple_item : (a : RawSimple) → IsWrittenSimple a → Item (simple_pieces a)
simple_item (Lit a) is = literal_item a is
simple_item (Name x) is = name_item x [] is nothing_closes no_item

-- `!` may precede an operand
bang_before : (a : RawSimple) (rest : List Piece) → IsWrittenSimple a
    → MayPrecede bang (bytes_of (simple_pieces a ++ rest))
bang_before (Lit (Number (pos n))) rest is =
    sign_before_digits Bang (decimal n) (bytes_of rest) (decimal_spelled n (fits_small n is))
bang_before (Lit (Number (negsuc n))) rest is = refl
bang_before (Lit (Truth true)) rest is = refl
bang_before (Lit (Truth false)) rest is = refl
bang_before (Lit Nil) rest is = refl
bang_before (Lit (Function f)) rest is = refl
bang_before (Name x) rest is = sign_before_word Bang x (bytes_of rest) is.word

-- operators are symbols
op_spelled : (op : Op) → IsSpelled (op_token op)
op_spelled Add = tt
op_spelled Sub = tt
op_spelled Mul = tt
op_spelled Div = tt
op_spelled Rem = tt
op_spelled Eq = tt
op_spelled Ne = tt
op_spelled Lt = tt
op_spelled Le = tt
op_spelled Gt = tt
op_spelled Ge = tt
op_spelled And = tt
op_spelled Or = tt

-- a symbol with a blank on each side, and any pieces
spaced_item : (lexeme : Lexeme) (pieces : List Piece) → IsSpelled lexeme → Item pieces
    → Item (Blank ∷ Token lexeme ∷ Blank ∷ pieces)
spaced_item lexeme pieces is item =
    blank_item (closed_item lexeme (Blank ∷ pieces) is (λ rest c. refl) (blank_item item))

-- pieces, and a bracket that closes them
bracketed : (pieces : List Piece) → Item pieces → Item (pieces ++ Token close_bracket ∷ [])
bracketed pieces item =
    joined_item pieces (Token close_bracket ∷ []) item (λ rest c. refl) (sign_item _ [] (λ b. refl) no_item)

-- an expression
expr_item : (e : RawExpr) → IsWrittenExpr e → Item (expr_pieces e)
expr_item (Plain a) is = simple_item a is
expr_item (Cell x index) is =
    name_item x _ is.0 (λ rest c. refl) (sign_item _ _ (λ b. refl) (bracketed (simple_pieces index)
    (simple_item index is.1)))
expr_item (Length a) is = key_blank _ (simple_pieces a) refl (simple_item a is)
expr_item (Not a) is =
    record { apart = λ rest c apart. (tt, bang_before a rest is, (simple_item a is).apart rest c apart) }
expr_item (Binary op a b) is =
    joined_item (simple_pieces a) (Blank ∷ Token (op_token op) ∷ Blank ∷ simple_pieces b) (simple_item a is.0)
    (λ rest c. refl)
    (spaced_item (op_token op) (simple_pieces b) (op_spelled op) (simple_item b is.1))

-- ---- exits

-- a place
place_item : (p : RawPlace) → IsWrittenPlace p → Item (place_pieces p)
place_item p is =
    name_item p.function _ is.function (λ rest c. refl)
    (sign_item _ _ (λ b. refl) (name_item p.version _ is.version (λ rest c. refl)
    (sign_item _ _ (λ b. refl) (label_item p.label [] is.label nothing_closes no_item))))

-- what is asked of a variable of a map and its value
abbrev IsWrittenBind : RawBind → Type 0
IsWrittenBind b = IsName b.name × IsWrittenExpr b.value

-- a variable of a map and its value
bind_item : (b : RawBind) → IsWrittenBind b → Item (bind_pieces b)
bind_item b is =
    name_item b.name _ is.0 (λ rest c. refl)
    (spaced_item equal (expr_pieces b.value) tt (expr_item b.value is.1))

-- a map
map_item : (binds : List RawBind) → IsWrittenMap binds → Item (map_pieces binds)
map_item binds is =
    sign_item _ _ (λ b. refl) (bracketed (listed_pieces bind_pieces binds)
    (listed_item bind_pieces IsWrittenBind bind_item binds is))

-- a further continuation
extra_item : (e : RawExtra) → IsWrittenExtra e → Item (extra_pieces e)
extra_item e is =
    joined_item (place_pieces e.target) _ (place_item e.target is.target) (λ rest c. refl)
    (blank_item (name_item e.result _ is.result (λ rest c. refl) (blank_item (map_item e.map is.map))))

-- an exit
exit_item : (e : RawExit) → IsWrittenExit e → Item (exit_pieces e)
exit_item e is =
    joined_item (place_pieces e.target) (Blank ∷ (map_pieces e.map ++ others_pieces extra_pieces e.extras))
    (place_item e.target is.target) (λ rest c. refl)
    (blank_item (joined_item (map_pieces e.map) (others_pieces extra_pieces e.extras) (map_item e.map is.map)
    (others_close extra_pieces e.extras) (others_item extra_pieces IsWrittenExtra extra_item e.extras is.extras)))

-- ---- instructions and lines

-- expressions with commas between them
exprs_item : (es : List RawExpr) → AreWrittenExprs es → Item (listed_pieces expr_pieces es)
exprs_item es is = listed_item expr_pieces IsWrittenExpr expr_item es is

-- predicates, and what follows them
predicates_item : (es : List RawExpr) (pieces : List Piece) → AreWrittenExprs es → Item pieces
    → Item (predicates_pieces es pieces)
predicates_item [] pieces is item = item
predicates_item (e ∷ es) pieces is item =
    joined_item (listed_pieces expr_pieces (e ∷ es)) (Blank ∷ pieces) (exprs_item (e ∷ es) is) (λ rest c. refl)
    (blank_item item)

-- arguments in parentheses
arguments_item : (es : List RawExpr) → AreWrittenExprs es
    → Item (Token open_paren ∷ (listed_pieces expr_pieces es ++ Token close_paren ∷ []))
arguments_item es is =
    sign_item _ _ (λ b. refl) (joined_item (listed_pieces expr_pieces es) (Token close_paren ∷ []) (exprs_item es is)
    (λ rest c. refl) (sign_item _ [] (λ b. refl) no_item))

-- an instruction
instr_item : (i : RawInstr) → IsWrittenInstr i → Item (instr_pieces i)
instr_item (Var x e) is =
    key_blank _ _ refl (name_item x _ is.0 (λ rest c. refl) (spaced_item equal _ tt (expr_item e is.1)))
instr_item (Drop x) is = key_blank _ _ refl (name_item x [] is nothing_closes no_item)
instr_item (Assign x e) is = name_item x _ is.0 (λ rest c. refl) (spaced_item arrow _ tt (expr_item e is.1))
instr_item (ArrayLength x e) is =
    key_blank _ _ refl (name_item x _ is.0 (λ rest c. refl)
    (sign_item _ _ (λ b. refl) (bracketed (expr_pieces e) (expr_item e is.1))))
instr_item (ArrayList x es) is =
    key_blank _ _ refl (name_item x _ is.0 (λ rest c. refl) (spaced_item equal _ tt
    (sign_item _ _ (λ b. refl) (bracketed (listed_pieces expr_pieces es) (exprs_item es is.1)))))
instr_item (Store x index e) is =
    name_item x _ is.0 (λ rest c. refl) (sign_item _ _ (λ b. refl)
    (joined_item (simple_pieces index) _ (simple_item index is.1) (λ rest c. refl)
    (sign_item _ _ (λ b. refl) (spaced_item arrow _ tt (expr_item e is.2)))))
instr_item (Branch e a b) is =
    key_blank _ _ refl (joined_item (expr_pieces e) (Blank ∷ word_then a (Blank ∷ word_then b [])) (expr_item e is.0)
    (λ rest c. refl)
    (blank_item (label_item a _ is.1 (λ rest c. refl)
    (blank_item (label_item b [] is.2 nothing_closes no_item)))))
instr_item (Goto a) is = key_blank _ _ refl (label_item a [] is nothing_closes no_item)
instr_item (Print e) is = key_blank _ _ refl (expr_item e is)
instr_item (Read x) is = key_blank _ _ refl (name_item x [] is nothing_closes no_item)
instr_item (Call x callee es) is =
    key_blank _ _ refl (name_item x _ is.0 (λ rest c. refl) (spaced_item equal _ tt
    (joined_item (simple_pieces callee) _ (simple_item callee is.1) (λ rest c. refl) (arguments_item es is.2))))
instr_item (Return e) is = key_blank _ _ refl (expr_item e is)
instr_item Stop is = key_item _ [] refl nothing_closes no_item
instr_item (Assume es e) is =
    key_blank _ _ refl (predicates_item es _ is.0 (key_blank _ _ refl (exit_item e is.1)))

-- what may have a label
labelled_item : (label : Option (List ℕ)) (pieces : List Piece) → IsWrittenLabel label → Item pieces
    → Item (labelled_pieces label pieces)
labelled_item None pieces is item = item
labelled_item (Some x) pieces is item =
    name_item x _ is (λ rest c. refl) (sign_item _ _ (λ b. refl) (blank_item item))

-- a line
line_apart : (l : RawLine) → IsWrittenLine l → AreApart (line_pieces l)
line_apart l is =
    alone_apart (line_pieces l) (labelled_item l.label (instr_pieces l.instr) is.label (instr_item l.instr is.instr))

-- ---- versions, functions and the whole

-- the lines of a version
lines_apart : (ls : List RawLine) → AllByRecursion IsWrittenLine ls → AreLinesApart (map line_pieces ls)
lines_apart [] all = tt
lines_apart (l ∷ ls) all = (line_apart l all.0, lines_apart ls all.1)

-- a version
version_apart : (v : RawVersion) → IsWrittenVersion v → AreLinesApart (version_lines v)
version_apart v is = (
  alone_apart (version_pieces v.name) (key_blank _ _ refl (name_item v.name [] is.name nothing_closes no_item)),
  lines_apart v.lines is.lines,
)

-- versions
versions_apart : (vs : List RawVersion) → AllByRecursion IsWrittenVersion vs → AreLinesApart (versions_lines vs)
versions_apart [] all = tt
versions_apart (v ∷ vs) all =
    AllByRecursion-append AreApart (version_lines v) (versions_lines vs) (version_apart v all.0)
    (versions_apart vs all.1)

-- a parameter
parameter_item : (x : List ℕ) → IsName x → Item (parameter_pieces x)
parameter_item x is = name_item x [] is nothing_closes no_item

-- the heading of a function
heading_item : (f : RawFunction) → IsWrittenFunction f → Item (heading_pieces f)
heading_item f is =
    key_blank _ _ refl (name_item f.name _ is.name (λ rest c. refl)
    (sign_item _ _ (λ b. refl) (joined_item (listed_pieces parameter_pieces f.parameters) (Token close_paren ∷ [])
    (listed_item parameter_pieces IsName parameter_item f.parameters is.parameters)
    (λ rest c. refl) (sign_item _ [] (λ b. refl) no_item))))

-- a function
function_apart : (f : RawFunction) → IsWrittenFunction f → AreLinesApart (function_lines f)
function_apart f is = (
  alone_apart (heading_pieces f) (heading_item f is),
  AllByRecursion-append AreApart (versions_lines f.versions) _ (versions_apart f.versions is.versions)
      (alone_apart end_pieces (key_item _ [] refl nothing_closes no_item), tt),
)

-- functions
functions_apart : (fs : List RawFunction) → AllByRecursion IsWrittenFunction fs → AreLinesApart (functions_lines fs)
functions_apart [] all = tt
functions_apart (f ∷ fs) all =
    AllByRecursion-append AreApart (function_lines f) (functions_lines fs) (function_apart f all.0)
    (functions_apart fs all.1)

-- the law that the pieces of a raw job stand apart
pub pieces_are_apart : PiecesAreApart
pieces_are_apart raw is = functions_apart raw.functions is.functions
