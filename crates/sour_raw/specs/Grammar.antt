-- The grammar of a job, one equation for each production: at Form as it stands, from Number on within the ranges of
-- numbers, and at Limit within the limits too. The names so far are handed on, so that variables are counted.
use Rattle.std.specs.Prelude.{◌≡◌, ◌⊎◌, ℕ, ℤ, pos, neg_ℤ, Bool, List, [], ◌++◌, Option, None, Some, codes, nat_le}
use Rattle.std.specs.Str.Parse.{digits_value}
use Rattle.sour_syntax.specs.declared.plan.Start.{Start}
use Rattle.sour_lexer.specs.Placed.{Lexeme, Digits, LineEnd}
use Rattle.sour_raw.specs.declared.raw.RawLiteral.{RawLiteral}
use Rattle.sour_raw.specs.declared.raw.RawLiteral.TheVariants.{Number, Truth, Nil, Function}
use Rattle.sour_raw.specs.declared.raw.RawSimple.{RawSimple}
use Rattle.sour_raw.specs.declared.raw.RawSimple.TheVariants as operand
use Rattle.sour_raw.specs.declared.raw.RawExpr.{RawExpr}
use Rattle.sour_raw.specs.declared.raw.RawExpr.TheVariants.{Plain, Cell, Length, Not, Binary}
use Rattle.sour_raw.specs.declared.raw.RawPlace.{RawPlace}
use Rattle.sour_raw.specs.declared.raw.RawBind.{RawBind}
use Rattle.sour_raw.specs.declared.raw.RawExtra.{RawExtra}
use Rattle.sour_raw.specs.declared.raw.RawExit.{RawExit}
use Rattle.sour_raw.specs.declared.raw.RawInstr.{RawInstr}
use Rattle.sour_raw.specs.declared.raw.RawInstr.TheVariants.{Var, Drop, Assign, ArrayLength, ArrayList, Store, Print, Read, Branch, Goto, Call, Return, Stop, Assume}
use Rattle.sour_raw.specs.declared.raw.RawLine.{RawLine}
use Rattle.sour_raw.specs.declared.raw.RawVersion.{RawVersion}
use Rattle.sour_raw.specs.declared.raw.RawFunction.{RawFunction}
use Rattle.sour_raw.specs.declared.raw.RawInput.{RawInput}
use Rattle.sour_raw.specs.declared.raw.RawPlanSimple.{RawPlanSimple}
use Rattle.sour_raw.specs.declared.raw.RawPlanSimple.TheVariants as side
use Rattle.sour_raw.specs.declared.raw.RawPredicate.{RawPredicate}
use Rattle.sour_raw.specs.declared.raw.RawPass.{RawPass}
use Rattle.sour_raw.specs.declared.raw.RawPass.TheVariants.{Inject, Constprop, Unreachable, Inline, Move, Hoist, Compose, Prune}
use Rattle.sour_raw.specs.declared.raw.RawPlanJob.{RawPlanJob}
use Rattle.sour_raw.specs.declared.raw.RawJob.{RawJob}
use Rattle.sour_raw.specs.Spelling.{Tokens, ◌·◌, one, Kind, number as in_range, limit, Language, from_line, each, after_separator, listed, one_or_more, after_all, alone}
use Rattle.sour_raw.specs.Words.{word}
use Rattle.sour_raw.specs.Lexemes.{arrow, equal_equal, minus, slash, percent, bang, equal, open_paren, close_paren, open_bracket, close_bracket, comma, colon, semicolon, dot, ampersand, at_sign}
use Rattle.sour_raw.specs.Keys.{keyword, op_token, truth_token, start_token}
use Rattle.sour_raw.specs.Mentions.{with_name}
use Rattle.sour_raw.specs.Names.{is_short, is_short_if_name, name_of, label_of, part_of}
use Rattle.sour_raw.specs.Variables.{with_simple, with_expr, with_exprs, with_bind, with_map, with_extra, with_line, fits, may_mention}

-- no names so far: the state of lists of which the items don't mention variables
abbrev pub no_names : List (List ℕ)
no_names = []

-- a name, which isn't looked up
abbrev pub name : Language (List ℕ)
name = word name_of limit is_short

-- a variable, where these are the names so far
abbrev pub mention : List (List ℕ) → Language (List ℕ)
mention names = word name_of limit (may_mention names)

-- name | automatic label
abbrev pub label : Language (List ℕ)
label = word label_of limit is_short_if_name

-- the number that digits write
abbrev pub digits_of : Lexeme → Option ℕ
digits_of (Digits bytes) = Some (digits_value 10 bytes)
digits_of other = None

-- whether it is no more than the most
abbrev pub is_at_most : ℕ → ℕ → Bool
is_at_most most n = nat_le n most

-- digits of a number that is no more than the most
abbrev pub digits : ℕ → Language ℕ
digits most = word digits_of in_range (is_at_most most)

-- ["-"] digits
abbrev pub number : Language ℤ
number k n ts =
    ((d : ℕ) × (n ≡ pos d) × digits 9223372036854775807 k d ts)
    ⊎ ((d : ℕ) × (n ≡ neg_ℤ (pos d)) × (one minus · digits 9223372036854775808 k d) ts)

-- ["-"] digits | "true" | "false" | "nil" | "&" name
abbrev pub literal : Language RawLiteral
literal k (Number n) = number k n
literal k (Truth b) = one (truth_token b)
literal k Nil = one (keyword "nil")
literal k (Function f) = one ampersand · name k f

-- literal | name
abbrev pub simple : List (List ℕ) → Language RawSimple
simple names k (operand.Lit a) = literal k a
simple names k (operand.Name x) = mention names k x

-- simple | name "[" simple "]" | "length" simple | "!" simple | simple op simple
abbrev pub expr : List (List ℕ) → Language RawExpr
expr names k (Plain a) = simple names k a
expr names k (Cell x index) =
    mention names k x · one open_bracket · simple (with_name names x) k index · one close_bracket
expr names k (Length a) = one (keyword "length") · simple names k a
expr names k (Not a) = one bang · simple names k a
expr names k (Binary op a b) = simple names k a · one (op_token op) · simple (with_simple names a) k b

-- [expr {"," expr}], at most so many
abbrev pub exprs : ℕ → List (List ℕ) → Language (List RawExpr)
exprs most names = listed comma expr with_expr (Some most) names

-- name "." name "." label
abbrev pub place : Language RawPlace
place k p = name k p.function · one dot · name k p.version · one dot · label k p.label

-- name "=" expr
abbrev pub bind : List (List ℕ) → Language RawBind
bind names k b = name k b.name · one equal · expr names k b.value

-- "[" [name "=" expr {"," name "=" expr}] "]"
abbrev pub map : List (List ℕ) → Language (List RawBind)
map names k binds = one open_bracket · listed comma bind with_bind None names k binds · one close_bracket

-- place name map
abbrev pub extra : List (List ℕ) → Language RawExtra
extra names k e = place k e.target · name k e.result · map names k e.map

-- place map {"," place name map}
abbrev pub exit : List (List ℕ) → Language RawExit
exit names k e =
    place k e.target · map names k e.map
    · each (after_separator comma extra) with_extra (Some 16) (with_map names e.map) k e.extras

-- an instruction
abbrev pub instr : List (List ℕ) → Language RawInstr
instr names k (Var x e) = one (keyword "var") · mention names k x · one equal · expr (with_name names x) k e
instr names k (Drop x) = one (keyword "drop") · mention names k x
instr names k (Assign x e) = mention names k x · one arrow · expr (with_name names x) k e
instr names k (ArrayLength x e) =
    one (keyword "array") · mention names k x · one open_bracket · expr (with_name names x) k e · one close_bracket
instr names k (ArrayList x es) =
    one (keyword "array") · mention names k x · one equal
    · one open_bracket · exprs 1024 (with_name names x) k es · one close_bracket
instr names k (Store x index e) =
    mention names k x · one open_bracket · simple (with_name names x) k index · one close_bracket
    · one arrow · expr (with_simple (with_name names x) index) k e
instr names k (Branch e a b) = one (keyword "branch") · expr names k e · label k a · label k b
instr names k (Goto a) = one (keyword "goto") · label k a
instr names k (Print e) = one (keyword "print") · expr names k e
instr names k (Read x) = one (keyword "read") · mention names k x
instr names k (Call x callee es) =
    one (keyword "call") · mention names k x · one equal · simple (with_name names x) k callee
    · one open_paren · exprs 255 (with_simple (with_name names x) callee) k es · one close_paren
instr names k (Return e) = one (keyword "return") · expr names k e
instr names k Stop = one (keyword "stop")
instr names k (Assume predicates e) =
    one (keyword "assume") · exprs 16 names k predicates
    · one (keyword "else") · exit (with_exprs names predicates) k e

-- [name ":"], and then the rest
abbrev pub labelled : List (List ℕ) → Option (List ℕ) → Kind → Tokens → Tokens
labelled names None k A = A
labelled names (Some x) k A = word name_of limit (fits names) k x · one colon · A

-- [name ":"] instr NL
abbrev pub line : List (List ℕ) → Language RawLine
line names k l = from_line l.line (labelled names l.label k (instr names k l.instr) · one LineEnd)

-- the names so far where a version begins
abbrev pub parameter_names : List (List ℕ) → List (List ℕ)
parameter_names parameters = after_all with_name [] parameters

-- "ver" name NL {[name ":"] instr NL}
abbrev pub version : List (List ℕ) → Language RawVersion
version parameters k v =
    from_line v.line
    (one (keyword "ver") · name k v.name · one LineEnd
    · each line with_line (Some 4096) (parameter_names parameters) k v.lines)

-- [name {"," name}]
abbrev pub parameters : Language (List (List ℕ))
parameters = listed comma (λ names. name) alone (Some 255) no_names

-- "fun" name "(" [name {"," name}] ")" NL version {version} "end" NL
abbrev pub function : Language RawFunction
function k f =
    from_line f.line
    (one (keyword "fun") · name k f.name · one open_paren · parameters k f.parameters · one close_paren · one LineEnd
    · one_or_more (λ names. version f.parameters) alone (Some 16) no_names k f.versions
    · one (keyword "end") · one LineEnd)

-- a path and one more of its parts
abbrev pub with_part : List ℕ → List ℕ → List ℕ
with_part path part = path ++ codes "/" ++ part

-- label | digits, after the first label of a path
abbrev pub part : Language (List ℕ)
part = word part_of limit is_short_if_name

-- label {"/" (label | digits)}; its bytes, without blanks between them
abbrev pub path : Language (List ℕ)
path k bytes ts =
    (first : List ℕ) × (parts : List (List ℕ)) × (bytes ≡ after_all with_part first parts)
    × (label k first · each (after_separator slash (λ names. part)) alone None no_names k parts) ts

-- "@" path
abbrev pub anchor : Language (List ℕ)
anchor k a = one at_sign · path k a

-- literal | path
abbrev pub psimple : Language RawPlanSimple
psimple k (side.Lit a) = literal k a
psimple k (side.Name a) = path k a

-- psimple "==" psimple
abbrev pub pred : Language RawPredicate
pred k p = psimple k p.left · one equal_equal · psimple k p.right

-- "text" | "active"
abbrev pub start : Language Start
start k s = one (start_token s)

-- a pass
abbrev pub pass : Language RawPass
pass k (Inject a p) = one (keyword "inject") · anchor k a · pred k p
pass k Constprop = one (keyword "constprop")
pass k Unreachable = one (keyword "unreachable")
pass k (Inline call s) = one (keyword "inline") · path k call · start k s
pass k (Move a) = one (keyword "move") · anchor k a
pass k (Hoist a b p) = one (keyword "hoist") · anchor k a · anchor k b · pred k p
pass k (Compose a) = one (keyword "compose") · anchor k a
pass k Prune = one (keyword "prune")

-- "job" name "from" ("text" | "active") ":" [pass {";" pass}] NL
abbrev pub plan_job : Language RawPlanJob
plan_job k j =
    from_line j.line
    (one (keyword "job") · name k j.function · one (keyword "from") · start k j.start · one colon
    · listed semicolon (λ names. pass) alone (Some 64) no_names k j.passes · one LineEnd)

-- "%" "plan" NL {plan_job}
abbrev pub plan : Language (List RawPlanJob)
plan k jobs =
    one percent · one (keyword "plan") · one LineEnd · each (λ names. plan_job) alone (Some 1024) no_names k jobs

-- "input" {literal} NL
abbrev pub input : Language RawInput
input k i =
    from_line i.line
    (one (keyword "input") · each (λ names. literal) alone (Some 65536) no_names k i.values · one LineEnd)

-- "%" "inputs" NL {input}
abbrev pub inputs : Language (List RawInput)
inputs k given =
    one percent · one (keyword "inputs") · one LineEnd · each (λ names. input) alone (Some 4096) no_names k given

-- a list that may be left out, and is then empty
abbrev pub optional : {X : Type 0} → Language (List X) → Language (List X)
optional S k xs ts = ((xs ≡ []) × (ts ≡ [])) ⊎ S k xs ts

-- function {function} [plan] [inputs]
abbrev pub job : Language RawJob
job k j =
    one_or_more (λ names. function) alone (Some 256) no_names k j.functions
    · optional plan k j.plan · optional inputs k j.inputs
