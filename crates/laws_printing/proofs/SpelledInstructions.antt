-- The pieces of literals, expressions, exits and instructions spell them within the limits.
use Rattle.std.proofs.Common.{◌≡◌, ℕ, suc, ◌<◌, ◌≤◌, ◌^◌, ℤ, pos, negsuc, List, [], ◌∷◌, ◌++◌, length, Some, None, decimal, refl, ap, inl, inr, le-leb, arith}
use Rattle.std.specs.Prelude.{FitsSigned}
use Rattle.std.specs.Int.{w64}
use Rattle.std.proofs.lemmas.Fmt.{decimal_is_IsNumeral}
use Rattle.sour_syntax.specs.Name.{IsName}
use Rattle.sour_lexer.specs.Placed.{Word, Digits}
use Rattle.sour_raw.specs.declared.kind.Kind.TheVariants.{Number as in_range, Limit as limit}
use Rattle.sour_raw.specs.declared.raw.RawLiteral.{RawLiteral}
use Rattle.sour_raw.specs.declared.raw.RawLiteral.TheVariants.{Number, Truth, Nil, Function}
use Rattle.sour_raw.specs.declared.raw.RawSimple.{RawSimple}
use Rattle.sour_raw.specs.declared.raw.RawSimple.TheVariants.{Lit, Name}
use Rattle.sour_raw.specs.declared.raw.RawExpr.{RawExpr}
use Rattle.sour_raw.specs.declared.raw.RawExpr.TheVariants.{Plain, Cell, Length, Not, Binary}
use Rattle.sour_raw.specs.declared.raw.RawPlace.{RawPlace}
use Rattle.sour_raw.specs.declared.raw.RawBind.{RawBind}
use Rattle.sour_raw.specs.declared.raw.RawExtra.{RawExtra}
use Rattle.sour_raw.specs.declared.raw.RawExit.{RawExit}
use Rattle.sour_raw.specs.declared.raw.RawInstr.{RawInstr}
use Rattle.sour_raw.specs.declared.raw.RawInstr.TheVariants.{Var, Drop, Assign, ArrayLength, ArrayList, Store, Print, Read, Branch, Goto, Call, Return, Stop, Assume}
use Rattle.sour_raw.specs.Lexemes.{arrow, minus, bang, equal, open_paren, close_paren, open_bracket, close_bracket, dot, ampersand}
use Rattle.sour_raw.specs.Keys.{keyword, op_token, truth_token}
use Rattle.sour_raw.specs.Spelling.{Tokens, ◌·◌, one}
use Rattle.sour_raw.specs.Mentions.{with_name}
use Rattle.sour_raw.specs.Names.{is_short, is_short_if_name, name_of, label_of}
use Rattle.sour_raw.specs.Variables.{with_simple, with_expr, with_exprs, with_bind, with_map, with_extra, with_exit, with_instr, may_mention}
use Rattle.sour_raw.specs.Grammar.{digits_of, is_at_most, name, mention, label, digits, number, literal, simple, expr, exprs, place, bind, map, extra, exit, instr}
use Rattle.sour_raw.specs.Written.{IsLabel, IsWrittenLiteral, IsWrittenSimple, IsWrittenExpr, AreWrittenExprs, IsWrittenPlace, IsWrittenMap, IsWrittenExtra, IsWrittenExit, IsWrittenInstr}
use Rattle.sour_raw.specs.Limits.{IsShortInstr}
use Rattle.laws_printing.specs.Pieces.{Piece, Token, Blank, word_then, number_pieces, literal_pieces, simple_pieces, expr_pieces, others_pieces, listed_pieces, place_pieces, bind_pieces, map_pieces, extra_pieces, exit_pieces, predicates_pieces, instr_pieces}
use Rattle.laws_printing.proofs.Says.{Empty, Says, Within, itself, beside, after_token, ended, joined, word_says, Spells, others_says, listed_says}
use Rattle.laws_printing.proofs.Variables.{name_passes, name_short, label_passes, label_short, AreFew, mention_passes, back_simple, back_expr, back_exprs, back_bind, back_extra, back_extras, back_exit}

-- ---- words and numbers

-- a word that is a name says so
pub says_name : (x : List ℕ) → IsName x → name_of (Word x) ≡ Some x
says_name x is = rw (name_passes x is) refl

-- a name
pub name_says : (x : List ℕ) → IsName x → Within (one (Word x)) (name limit x)
name_says x is = word_says name_of limit is_short x (Word x) (says_name x is) (name_short x is)

-- a word that is a label says so
says_label : (x : List ℕ) → IsLabel x → label_of (Word x) ≡ Some x
says_label x is = rw (label_passes x is) refl

-- a label
label_says : (x : List ℕ) → IsLabel x → Within (one (Word x)) (label limit x)
label_says x is = word_says label_of limit is_short_if_name x (Word x) (says_label x is) (label_short x is)

-- a variable
mention_says : (names : List (List ℕ)) (x : List ℕ) → IsName x → AreFew (with_name names x)
    → Within (one (Word x)) (mention names limit x)
mention_says names x is few =
    word_says name_of limit (may_mention names) x (Word x) (says_name x is) (mention_passes names x is few)

-- digits
digits_say : (most n : ℕ) → n < 2 ^ 64 → n ≤ most → Within (one (Digits (decimal n))) (digits most limit n)
digits_say most n small le =
    word_says digits_of in_range (is_at_most most) n (Digits (decimal n))
    (ap (λ (d : ℕ). Some d) (decimal_is_IsNumeral n small).1) (le-leb n most le)

-- a number
number_says : (n : ℤ) → FitsSigned w64 n → Within (Says (number_pieces n) Empty) (number limit n)
number_says (pos n) fits ts s =
    let le : n ≤ 9223372036854775807 = omega (arith, fits) in
    inl (n, refl, ended (digits_say 9223372036854775807 n (omega (arith, le)) le) ts s)
number_says (negsuc n) fits ts s =
    let le : suc n ≤ 9223372036854775808 = omega (arith, fits) in
    inr (
      suc n,
      refl,
      after_token minus (ended (digits_say 9223372036854775808 (suc n) (omega (arith, le)) le)) ts s,
    )

-- a literal
literal_says : (a : RawLiteral) → IsWrittenLiteral a → Within (Says (literal_pieces a) Empty) (literal limit a)
literal_says (Number n) is = number_says n is
literal_says (Truth b) is = ended (itself (one (truth_token b)))
literal_says Nil is = ended (itself (one (keyword "nil")))
literal_says (Function f) is = after_token ampersand (ended (name_says f is))

-- ---- operands and expressions

-- an operand
simple_says : (names : List (List ℕ)) (a : RawSimple) → IsWrittenSimple a → AreFew (with_simple names a)
    → Within (Says (simple_pieces a) Empty) (simple names limit a)
simple_says names (Lit a) is few = literal_says a is
simple_says names (Name x) is few = ended (mention_says names x is few)

-- a token that ends pieces
last_token : (pieces : List Piece) {A : Tokens} → Within (Says pieces Empty) A
    → Within (Says (pieces ++ Token close_bracket ∷ []) Empty) (A · one close_bracket)
last_token pieces a = joined pieces (Token close_bracket ∷ []) a (ended (itself (one close_bracket)))

-- an expression
expr_says : (names : List (List ℕ)) (e : RawExpr) → IsWrittenExpr e → AreFew (with_expr names e)
    → Within (Says (expr_pieces e) Empty) (expr names limit e)
expr_says names (Plain a) is few = simple_says names a is few
expr_says names (Cell x index) is few =
    beside (mention_says names x is.0 (back_simple (with_name names x) index few))
    (after_token open_bracket (last_token (simple_pieces index) (simple_says (with_name names x) index is.1 few)))
expr_says names (Length a) is few = after_token (keyword "length") (simple_says names a is few)
expr_says names (Not a) is few = after_token bang (simple_says names a is few)
expr_says names (Binary op a b) is few =
    joined (simple_pieces a) (Blank ∷ Token (op_token op) ∷ Blank ∷ simple_pieces b)
    (simple_says names a is.0 (back_simple (with_simple names a) b few))
    (after_token (op_token op) (simple_says (with_simple names a) b is.1 few))

-- so expressions are items
exprs_spell : Spells expr with_expr expr_pieces IsWrittenExpr AreFew
exprs_spell = record { item = expr_says; back = back_expr }

-- expressions with commas between them
exprs_say : (most : ℕ) (names : List (List ℕ)) (es : List RawExpr) → AreWrittenExprs es → length es ≤ most
    → AreFew (with_exprs names es) → Within (Says (listed_pieces expr_pieces es) Empty) (exprs most names limit es)
exprs_say most names es is room few = listed_says exprs_spell (Some most) names es is room few

-- ---- exits

-- a place
place_says : (p : RawPlace) → IsWrittenPlace p → Within (Says (place_pieces p) Empty) (place limit p)
place_says p is =
    beside (name_says p.function is.function) (after_token dot
    (beside (name_says p.version is.version) (after_token dot (ended (label_says p.label is.label)))))

-- a variable of a map and its value
bind_says : (names : List (List ℕ)) (b : RawBind) → IsName b.name × IsWrittenExpr b.value
    → AreFew (with_bind names b) → Within (Says (bind_pieces b) Empty) (bind names limit b)
bind_says names b is few = beside (name_says b.name is.0) (after_token equal (expr_says names b.value is.1 few))

-- so these are items
binds_spell : Spells bind with_bind bind_pieces (λ b. IsName b.name × IsWrittenExpr b.value) AreFew
binds_spell = record { item = bind_says; back = back_bind }

-- a map
map_says : (names : List (List ℕ)) (binds : List RawBind) → IsWrittenMap binds → AreFew (with_map names binds)
    → Within (Says (map_pieces binds) Empty) (map names limit binds)
map_says names binds is few =
    after_token open_bracket (last_token (listed_pieces bind_pieces binds)
    (listed_says binds_spell None names binds is tt few))

-- a further continuation
extra_says : (names : List (List ℕ)) (e : RawExtra) → IsWrittenExtra e → AreFew (with_extra names e)
    → Within (Says (extra_pieces e) Empty) (extra names limit e)
extra_says names e is few =
    joined (place_pieces e.target) (Blank ∷ word_then e.result (Blank ∷ map_pieces e.map))
    (place_says e.target is.target)
    (beside (name_says e.result is.result) (map_says names e.map is.map few))

-- so these are items
extras_spell : Spells extra with_extra extra_pieces IsWrittenExtra AreFew
extras_spell = record { item = extra_says; back = back_extra }

-- an exit
exit_says : (names : List (List ℕ)) (e : RawExit) → IsWrittenExit e → length e.extras ≤ 16
    → AreFew (with_exit names e) → Within (Says (exit_pieces e) Empty) (exit names limit e)
exit_says names e is room few =
    joined (place_pieces e.target) (Blank ∷ (map_pieces e.map ++ others_pieces extra_pieces e.extras))
    (place_says e.target is.target)
    (joined (map_pieces e.map) (others_pieces extra_pieces e.extras)
    (map_says names e.map is.map (back_extras (with_map names e.map) e.extras few))
    (others_says extras_spell (Some 16) (with_map names e.map) e.extras is.extras room few))

-- ---- instructions

-- predicates, and what follows them
predicates_say : (names : List (List ℕ)) (es : List RawExpr) (pieces : List Piece) {B : Tokens} → AreWrittenExprs es
    → length es ≤ 16 → AreFew (with_exprs names es) → Within (Says pieces Empty) B
    → Within (Says (predicates_pieces es pieces) Empty) (exprs 16 names limit es · B)
predicates_say names [] pieces is room few b ts s = ([], ts, refl, refl, b ts s)
predicates_say names (e ∷ es) pieces is room few b ts s =
    joined (listed_pieces expr_pieces (e ∷ es)) (Blank ∷ pieces) (exprs_say 16 names (e ∷ es) is room few) b ts s

-- an instruction
pub instr_says : (names : List (List ℕ)) (i : RawInstr) → IsWrittenInstr i → IsShortInstr i
    → AreFew (with_instr names i) → Within (Says (instr_pieces i) Empty) (instr names limit i)
instr_says names (Var x e) is short few =
    after_token (keyword "var") (beside (mention_says names x is.0 (back_expr (with_name names x) e few))
    (after_token equal (expr_says (with_name names x) e is.1 few)))
instr_says names (Drop x) is short few = after_token (keyword "drop") (ended (mention_says names x is few))
instr_says names (Assign x e) is short few =
    beside (mention_says names x is.0 (back_expr (with_name names x) e few))
    (after_token arrow (expr_says (with_name names x) e is.1 few))
instr_says names (ArrayLength x e) is short few =
    after_token (keyword "array") (beside (mention_says names x is.0 (back_expr (with_name names x) e few))
    (after_token open_bracket (last_token (expr_pieces e) (expr_says (with_name names x) e is.1 few))))
instr_says names (ArrayList x es) is short few =
    after_token (keyword "array") (beside (mention_says names x is.0 (back_exprs (with_name names x) es few))
    (after_token equal (after_token open_bracket
    (last_token (listed_pieces expr_pieces es) (exprs_say 1024 (with_name names x) es is.1 short few)))))
instr_says names (Store x index e) is short few =
    let there = with_name names x in
    let before = back_expr (with_simple there index) e few in
    beside (mention_says names x is.0 (back_simple there index before))
    (after_token open_bracket
    (joined (simple_pieces index) (Token close_bracket ∷ Blank ∷ Token arrow ∷ Blank ∷ expr_pieces e)
    (simple_says there index is.1 before)
    (after_token close_bracket (after_token arrow (expr_says (with_simple there index) e is.2 few)))))
instr_says names (Branch e a b) is short few =
    after_token (keyword "branch")
    (joined (expr_pieces e) (Blank ∷ word_then a (Blank ∷ word_then b [])) (expr_says names e is.0 few)
    (beside (label_says a is.1) (ended (label_says b is.2))))
instr_says names (Goto a) is short few = after_token (keyword "goto") (ended (label_says a is))
instr_says names (Print e) is short few = after_token (keyword "print") (expr_says names e is few)
instr_says names (Read x) is short few = after_token (keyword "read") (ended (mention_says names x is few))
instr_says names (Call x callee es) is short few =
    let there = with_name names x in
    let before = back_exprs (with_simple there callee) es few in
    after_token (keyword "call") (beside (mention_says names x is.0 (back_simple there callee before))
    (after_token equal
    (joined (simple_pieces callee) (Token open_paren ∷ (listed_pieces expr_pieces es ++ Token close_paren ∷ []))
    (simple_says there callee is.1 before)
    (after_token open_paren
    (joined (listed_pieces expr_pieces es) (Token close_paren ∷ [])
    (exprs_say 255 (with_simple there callee) es is.2 short few) (ended (itself (one close_paren))))))))
instr_says names (Return e) is short few = after_token (keyword "return") (expr_says names e is few)
instr_says names Stop is short few = ended (itself (one (keyword "stop")))
instr_says names (Assume es e) is short few =
    after_token (keyword "assume")
    (predicates_say names es (Token (keyword "else") ∷ Blank ∷ exit_pieces e) is.0 short.0
    (back_exit (with_exprs names es) e few)
    (after_token (keyword "else") (exit_says (with_exprs names es) e is.1 short.1 few)))
