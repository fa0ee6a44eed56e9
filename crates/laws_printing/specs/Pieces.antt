-- The pieces of the canonical text: tokens, and one blank where two tokens have one between them: words, operators,
-- `=`, `<-` and `else` from what stands beside them, what follows a comma or the colon of a label, and a map from what
-- it belongs to. The text is a list of lines, and a line is a list of pieces without the line's end.
use Rattle.std.specs.Prelude.{ℕ, suc, ℤ, pos, negsuc, List, [], ◌∷◌, ◌++◌, map, Option, Some, None, decimal}
use Rattle.sour_lexer.specs.Placed.{Lexeme, Word, Digits}
use Rattle.sour_raw.specs.declared.raw.RawLiteral.{RawLiteral}
use Rattle.sour_raw.specs.declared.raw.RawLiteral.TheVariants.{Number, Truth, Nil, Function}
use Rattle.sour_raw.specs.declared.raw.RawSimple.{RawSimple}
use Rattle.sour_raw.specs.declared.raw.RawSimple.TheVariants as operand
use Rattle.sour_raw.specs.declared.raw.RawExpr.{RawExpr}
use Rattle.sour_raw.specs.declared.raw.RawExpr.TheVariants.{Plain, Cell, Length, Not, Binary}
use Rattle.sour_raw.specs.declared.raw.RawPlace.{RawPlace}
use Rattle.sour_raw.specs.declared.raw.RawBind.{RawBind}
use Rattle.sour_raw.specs.declared.raw.RawExtra.{RawExtra}
use Rattle.sour_raw.specs.declared.raw.RawExit.{RawExit}
use Rattle.sour_raw.specs.declared.raw.RawInstr.{RawInstr}
use Rattle.sour_raw.specs.declared.raw.RawInstr.TheVariants.{Var, Drop, Assign, ArrayLength, ArrayList, Store, Print, Read, Branch, Goto, Call, Return, Stop, Assume}
use Rattle.sour_raw.specs.declared.raw.RawLine.{RawLine}
use Rattle.sour_raw.specs.declared.raw.RawVersion.{RawVersion}
use Rattle.sour_raw.specs.declared.raw.RawFunction.{RawFunction}
use Rattle.sour_raw.specs.declared.raw.RawJob.{RawJob}
use Rattle.sour_raw.specs.Lexemes.{arrow, minus, bang, equal, open_paren, close_paren, open_bracket, close_bracket, comma, colon, dot, ampersand}
use Rattle.sour_raw.specs.Keys.{keyword, op_token, truth_token}

-- a token or a blank
pub data Piece : Type 0 where
  Token : Lexeme → Piece
  Blank : Piece

-- a word, and then these
abbrev pub word_then : List ℕ → List Piece → List Piece
word_then x pieces = Token (Word x) ∷ pieces

-- a number: its digits in decimal, with `-` before those of a negative one
abbrev pub number_pieces : ℤ → List Piece
number_pieces (pos n) = Token (Digits (decimal n)) ∷ []
number_pieces (negsuc n) = Token minus ∷ Token (Digits (decimal (suc n))) ∷ []

-- a literal: `-1`, `true`, `nil`, `&f`
abbrev pub literal_pieces : RawLiteral → List Piece
literal_pieces (Number n) = number_pieces n
literal_pieces (Truth b) = Token (truth_token b) ∷ []
literal_pieces Nil = Token (keyword "nil") ∷ []
literal_pieces (Function f) = Token ampersand ∷ word_then f []

-- an operand
abbrev pub simple_pieces : RawSimple → List Piece
simple_pieces (operand.Lit a) = literal_pieces a
simple_pieces (operand.Name x) = word_then x []

-- an expression: `a`, `x[i]`, `length a`, `!a`, `a + b`
abbrev pub expr_pieces : RawExpr → List Piece
expr_pieces (Plain a) = simple_pieces a
expr_pieces (Cell x index) = word_then x (Token open_bracket ∷ (simple_pieces index ++ Token close_bracket ∷ []))
expr_pieces (Length a) = Token (keyword "length") ∷ Blank ∷ simple_pieces a
expr_pieces (Not a) = Token bang ∷ simple_pieces a
expr_pieces (Binary op a b) = simple_pieces a ++ Blank ∷ Token (op_token op) ∷ Blank ∷ simple_pieces b

-- each of these after a comma and a blank
abbrev pub others_pieces : {X : Type 0} → (X → List Piece) → List X → List Piece
others_pieces P [] = []
others_pieces P (x ∷ xs) = Token comma ∷ Blank ∷ (P x ++ others_pieces P xs)

-- these with a comma and a blank between two of them
abbrev pub listed_pieces : {X : Type 0} → (X → List Piece) → List X → List Piece
listed_pieces P [] = []
listed_pieces P (x ∷ xs) = P x ++ others_pieces P xs

-- a place: `f.v.l`
abbrev pub place_pieces : RawPlace → List Piece
place_pieces p = word_then p.function (Token dot ∷ word_then p.version (Token dot ∷ word_then p.label []))

-- a variable of a map and its value: `x = a + 1`
abbrev pub bind_pieces : RawBind → List Piece
bind_pieces b = word_then b.name (Blank ∷ Token equal ∷ Blank ∷ expr_pieces b.value)

-- a map: `[x = 1, y = z]`
abbrev pub map_pieces : List RawBind → List Piece
map_pieces binds = Token open_bracket ∷ (listed_pieces bind_pieces binds ++ Token close_bracket ∷ [])

-- a further continuation: `f.v.l x []`
abbrev pub extra_pieces : RawExtra → List Piece
extra_pieces e = place_pieces e.target ++ Blank ∷ word_then e.result (Blank ∷ map_pieces e.map)

-- an exit: `f.v.l [x = 1], g.w.k y []`
abbrev pub exit_pieces : RawExit → List Piece
exit_pieces e = place_pieces e.target ++ Blank ∷ (map_pieces e.map ++ others_pieces extra_pieces e.extras)

-- predicates with a comma between two of them, and then these, after a blank where there are predicates
abbrev pub predicates_pieces : List RawExpr → List Piece → List Piece
predicates_pieces [] pieces = pieces
predicates_pieces (e ∷ es) pieces = listed_pieces expr_pieces (e ∷ es) ++ Blank ∷ pieces

-- an instruction
abbrev pub instr_pieces : RawInstr → List Piece
instr_pieces (Var x e) = Token (keyword "var") ∷ Blank ∷ word_then x (Blank ∷ Token equal ∷ Blank ∷ expr_pieces e)
instr_pieces (Drop x) = Token (keyword "drop") ∷ Blank ∷ word_then x []
instr_pieces (Assign x e) = word_then x (Blank ∷ Token arrow ∷ Blank ∷ expr_pieces e)
instr_pieces (ArrayLength x e) =
    Token (keyword "array") ∷ Blank ∷ word_then x (Token open_bracket ∷ (expr_pieces e ++ Token close_bracket ∷ []))
instr_pieces (ArrayList x es) =
    Token (keyword "array") ∷ Blank
    ∷ word_then x (Blank ∷ Token equal ∷ Blank
    ∷ Token open_bracket ∷ (listed_pieces expr_pieces es ++ Token close_bracket ∷ []))
instr_pieces (Store x index e) =
    word_then x (Token open_bracket ∷ (simple_pieces index ++ Token close_bracket ∷ Blank ∷ Token arrow ∷ Blank
    ∷ expr_pieces e))
instr_pieces (Branch e a b) =
    Token (keyword "branch") ∷ Blank ∷ (expr_pieces e ++ Blank ∷ word_then a (Blank ∷ word_then b []))
instr_pieces (Goto a) = Token (keyword "goto") ∷ Blank ∷ word_then a []
instr_pieces (Print e) = Token (keyword "print") ∷ Blank ∷ expr_pieces e
instr_pieces (Read x) = Token (keyword "read") ∷ Blank ∷ word_then x []
instr_pieces (Call x callee es) =
    Token (keyword "call") ∷ Blank
    ∷ word_then x (Blank ∷ Token equal ∷ Blank
    ∷ (simple_pieces callee ++ Token open_paren ∷ (listed_pieces expr_pieces es ++ Token close_paren ∷ [])))
instr_pieces (Return e) = Token (keyword "return") ∷ Blank ∷ expr_pieces e
instr_pieces Stop = Token (keyword "stop") ∷ []
instr_pieces (Assume predicates e) =
    Token (keyword "assume") ∷ Blank
    ∷ predicates_pieces predicates (Token (keyword "else") ∷ Blank ∷ exit_pieces e)

-- the label that is written, if one is, and then the rest
abbrev pub labelled_pieces : Option (List ℕ) → List Piece → List Piece
labelled_pieces None pieces = pieces
labelled_pieces (Some label) pieces = word_then label (Token colon ∷ Blank ∷ pieces)

-- an instruction with its label, where one is written
abbrev pub line_pieces : RawLine → List Piece
line_pieces l = labelled_pieces l.label (instr_pieces l.instr)

-- the line with which a version begins: `ver v`
abbrev pub version_pieces : List ℕ → List Piece
version_pieces x = Token (keyword "ver") ∷ Blank ∷ word_then x []

-- the lines of a version: the one with which it begins, and its instructions
abbrev pub version_lines : RawVersion → List (List Piece)
version_lines v = version_pieces v.name ∷ map line_pieces v.lines

-- the lines of versions
abbrev pub versions_lines : List RawVersion → List (List Piece)
versions_lines [] = []
versions_lines (v ∷ vs) = version_lines v ++ versions_lines vs

-- the name of a parameter
abbrev pub parameter_pieces : List ℕ → List Piece
parameter_pieces x = word_then x []

-- the line with which a function begins: `fun f(a, b)`
abbrev pub heading_pieces : RawFunction → List Piece
heading_pieces f =
    Token (keyword "fun") ∷ Blank
    ∷ word_then f.name (Token open_paren ∷ (listed_pieces parameter_pieces f.parameters ++ Token close_paren ∷ []))

-- the line with which a function ends
abbrev pub end_pieces : List Piece
end_pieces = Token (keyword "end") ∷ []

-- the lines of a function: the one with which it begins, its versions and `end`
abbrev pub function_lines : RawFunction → List (List Piece)
function_lines f = heading_pieces f ∷ (versions_lines f.versions ++ end_pieces ∷ [])

-- the lines of functions
abbrev pub functions_lines : List RawFunction → List (List Piece)
functions_lines [] = []
functions_lines (f ∷ fs) = function_lines f ++ functions_lines fs

-- the lines of a text of functions alone
abbrev pub job_lines : RawJob → List (List Piece)
job_lines j = functions_lines j.functions
