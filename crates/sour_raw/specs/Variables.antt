-- The variables of a version so far, while it is read, and which names may still be mentioned.
use Rattle.std.specs.Prelude.{ℕ, Bool, List, length, filter, nat_lt, ◌&&◌, ◌||◌}
use Rattle.std.specs.List.{list_any}
use Rattle.std.specs.Str.{bytes_eq}
use Rattle.sour_raw.specs.declared.raw.RawSimple.{RawSimple}
use Rattle.sour_raw.specs.declared.raw.RawSimple.TheVariants as simple
use Rattle.sour_raw.specs.declared.raw.RawExpr.{RawExpr}
use Rattle.sour_raw.specs.declared.raw.RawExpr.TheVariants as expr
use Rattle.sour_raw.specs.declared.raw.RawBind.{RawBind}
use Rattle.sour_raw.specs.declared.raw.RawExtra.{RawExtra}
use Rattle.sour_raw.specs.declared.raw.RawExit.{RawExit}
use Rattle.sour_raw.specs.declared.raw.RawInstr.{RawInstr}
use Rattle.sour_raw.specs.declared.raw.RawInstr.TheVariants.{Var, Drop, Assign, ArrayLength, ArrayList, Store, Print, Read, Branch, Goto, Call, Return, Stop, Assume}
use Rattle.sour_raw.specs.declared.raw.RawLine.{RawLine}
use Rattle.sour_raw.specs.Spelling.{after_all}
use Rattle.sour_raw.specs.Mentions.{with_name}
use Rattle.sour_raw.specs.Names.{is_name, is_short}

-- the names so far, after an operand
abbrev pub with_simple : List (List ℕ) → RawSimple → List (List ℕ)
with_simple names (simple.Lit literal) = names
with_simple names (simple.Name name) = with_name names name

-- after an expression
abbrev pub with_expr : List (List ℕ) → RawExpr → List (List ℕ)
with_expr names (expr.Plain a) = with_simple names a
with_expr names (expr.Cell x index) = with_simple (with_name names x) index
with_expr names (expr.Length a) = with_simple names a
with_expr names (expr.Not a) = with_simple names a
with_expr names (expr.Binary op a b) = with_simple (with_simple names a) b

-- after expressions
abbrev pub with_exprs : List (List ℕ) → List RawExpr → List (List ℕ)
with_exprs names es = after_all with_expr names es

-- after the value of a name of a map, which itself belongs to another version
abbrev pub with_bind : List (List ℕ) → RawBind → List (List ℕ)
with_bind names bind = with_expr names bind.value

-- after a map
abbrev pub with_map : List (List ℕ) → List RawBind → List (List ℕ)
with_map names binds = after_all with_bind names binds

-- after a further continuation, whose result is a variable of another version
abbrev pub with_extra : List (List ℕ) → RawExtra → List (List ℕ)
with_extra names extra = with_map names extra.map

-- after an exit
abbrev pub with_exit : List (List ℕ) → RawExit → List (List ℕ)
with_exit names exit = after_all with_extra (with_map names exit.map) exit.extras

-- after an instruction
abbrev pub with_instr : List (List ℕ) → RawInstr → List (List ℕ)
with_instr names (Var x e) = with_expr (with_name names x) e
with_instr names (Drop x) = with_name names x
with_instr names (Assign x e) = with_expr (with_name names x) e
with_instr names (ArrayLength x e) = with_expr (with_name names x) e
with_instr names (ArrayList x es) = with_exprs (with_name names x) es
with_instr names (Store x index e) = with_expr (with_simple (with_name names x) index) e
with_instr names (Print e) = with_expr names e
with_instr names (Read x) = with_name names x
with_instr names (Branch e a b) = with_expr names e
with_instr names (Goto a) = names
with_instr names (Call x callee es) = with_exprs (with_simple (with_name names x) callee) es
with_instr names (Return e) = with_expr names e
with_instr names Stop = names
with_instr names (Assume predicates exit) = with_exit (with_exprs names predicates) exit

-- after a line
abbrev pub with_line : List (List ℕ) → RawLine → List (List ℕ)
with_line names line = with_instr names line.instr

-- Within the limits some variable may be mentioned whatever the names so far are, even where no text gives them. So one
-- that is known fits, however long it is, and what isn't a name takes no room. That changes nothing for names that grew
-- while a text was read: each of those is a name, and short.

-- whether it is one of the names so far
abbrev pub is_known : List (List ℕ) → List ℕ → Bool
is_known names x = list_any (bytes_eq x) names

-- whether it is short, or is known
abbrev pub fits : List (List ℕ) → List ℕ → Bool
fits names x = is_short x || is_known names x

-- whether it is known, or there is room for one more variable
abbrev pub has_room : List (List ℕ) → List ℕ → Bool
has_room names x = is_known names x || nat_lt (length (filter is_name names)) 1024

-- whether it may be mentioned as a variable
abbrev pub may_mention : List (List ℕ) → List ℕ → Bool
may_mention names x = fits names x && has_room names x
