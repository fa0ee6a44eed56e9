-- The text of a bundle: its function, and then its bodies by their numbers, each with its function and its lines. A
-- line is written as in the canonical text, but always with its label, and with `%1.l` for the label `l` of the first
-- body. A label or a variable that a pass made is put as a word.
use Rattle.std.specs.Prelude.{ℕ, ◌+◌, List, [], ◌∷◌, ◌++◌, Option, None, Some, map, slice_get, decimal}
use Rattle.sour_lexer.specs.Placed.{Digits}
use Rattle.sour_syntax.specs.declared.literal.FunId.{FunId}
use Rattle.sour_syntax.specs.declared.exit.Code.{Code}
use Rattle.sour_syntax.specs.declared.exit.Code.TheVariants.{Text, Made}
use Rattle.sour_syntax.specs.declared.exit.Target.{Target}
use Rattle.sour_syntax.specs.declared.exit.Extra.{Extra}
use Rattle.sour_syntax.specs.declared.exit.Exit.{Exit}
use Rattle.sour_syntax.specs.declared.instruction.Instr.{Instr}
use Rattle.sour_syntax.specs.declared.instruction.Instr.TheVariants.{Assume}
use Rattle.sour_syntax.specs.declared.instruction.Line.{Line}
use Rattle.sour_syntax.specs.declared.program.Function.{Function}
use Rattle.sour_syntax.specs.BodyView.{BodyView}
use Rattle.sour_syntax.specs.Targets.{made_body}
use Rattle.sour_raw.specs.Lexemes.{dot, percent}
use Rattle.sour_raw.specs.Keys.{keyword}
use Rattle.laws_printing.specs.Pieces.{Piece, Token, Blank, word_then, others_pieces, map_pieces, predicates_pieces, instr_pieces, labelled_pieces, end_pieces}
use Rattle.laws_printing.specs.Named.{variable_name, function_name, name_in_function, code_variables, raw_expr, raw_map, raw_instr}

-- a body of the bundle by its number: `%1`; two empty names, as in the canonical text, where it has no such body
abbrev pub made_pieces : ℕ → Option BodyView → List Piece
made_pieces number None = word_then [] (Token dot ∷ word_then [] [])
made_pieces number (Some body) = Token percent ∷ Token (Digits (decimal number)) ∷ []

-- some code: `f.v` or `%1`
abbrev pub code_pieces : List Function → List BodyView → Code → List Piece
code_pieces functions bodies (Text f version) =
    word_then (function_name functions f)
    (Token dot ∷ word_then (name_in_function (slice_get functions f.0) version) [])
code_pieces functions bodies (Made number) = made_pieces number (made_body bodies number)

-- a target: `f.v.l` or `%1.l`
abbrev pub target_pieces : List Function → List BodyView → Target → List Piece
target_pieces functions bodies target =
    code_pieces functions bodies target.code ++ Token dot ∷ word_then target.label []

-- a further frame, where these are the functions, the bodies of the bundle and the names of the body's variables
abbrev pub made_extra_pieces : List Function → List BodyView → List (List ℕ) → Extra → List Piece
made_extra_pieces functions bodies names extra =
    let others : List (List ℕ) = code_variables functions bodies extra.target.code in
    target_pieces functions bodies extra.target
    ++ Blank ∷ word_then (variable_name others extra.result)
    (Blank ∷ map_pieces (raw_map functions others names extra.map))

-- an exit, in the same way
abbrev pub made_exit_pieces : List Function → List BodyView → List (List ℕ) → Exit → List Piece
made_exit_pieces functions bodies names exit =
    let others : List (List ℕ) = code_variables functions bodies exit.target.code in
    target_pieces functions bodies exit.target
    ++ Blank ∷ (map_pieces (raw_map functions others names exit.map)
    ++ others_pieces (made_extra_pieces functions bodies names) exit.extras)

-- an instruction, in the same way: all but exits are written as in the canonical text
abbrev pub made_instr_pieces : List Function → List BodyView → List (List ℕ) → Instr → List Piece
made_instr_pieces functions bodies names (Assume predicates exit) =
    Token (keyword "assume") ∷ Blank
    ∷ predicates_pieces (map (raw_expr functions names) predicates)
    (Token (keyword "else") ∷ Blank ∷ made_exit_pieces functions bodies names exit)
made_instr_pieces functions bodies names instr = instr_pieces (raw_instr functions names instr)

-- a line, in the same way, with its label
abbrev pub made_line_pieces : List Function → List BodyView → List (List ℕ) → Line → List Piece
made_line_pieces functions bodies names line =
    labelled_pieces (Some line.label) (made_instr_pieces functions bodies names line.instr)

-- the line with which a body begins: `body 1 f`
abbrev pub body_heading_pieces : List Function → ℕ → FunId → List Piece
body_heading_pieces functions number f =
    Token (keyword "body") ∷ Blank
    ∷ Token (Digits (decimal number)) ∷ Blank ∷ word_then (function_name functions f) []

-- the lines of a body of a bundle with these bodies: the one with which it begins, and its instructions
abbrev pub body_lines : List Function → List BodyView → ℕ → BodyView → List (List Piece)
body_lines functions bodies number body =
    body_heading_pieces functions number body.function
    ∷ map (made_line_pieces functions bodies body.variables) body.lines

-- the lines of some of its bodies, the first of which has this number
abbrev pub bodies_lines : List Function → List BodyView → ℕ → List BodyView → List (List Piece)
bodies_lines functions bodies number [] = []
bodies_lines functions bodies number (body ∷ others) =
    body_lines functions bodies number body ++ bodies_lines functions bodies (number + 1) others

-- the line with which a bundle begins: `bundle f`
abbrev pub bundle_heading_pieces : List Function → FunId → List Piece
bundle_heading_pieces functions f = Token (keyword "bundle") ∷ Blank ∷ word_then (function_name functions f) []

-- the lines of the bundle of a function with these bodies: the one with which it begins, its bodies and `end`
abbrev pub bundle_lines : List Function → FunId → List BodyView → List (List Piece)
bundle_lines functions f bodies =
    bundle_heading_pieces functions f ∷ (bodies_lines functions bodies 1 bodies ++ end_pieces ∷ [])
