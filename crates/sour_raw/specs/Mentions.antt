-- The variables of a version: its parameters, and then the other names that it mentions, by their first mention.
use Rattle.std.specs.Prelude.{ℕ, List, [], ◌∷◌, ◌++◌, if◌then◌else◌}
use Rattle.std.specs.List.{list_any}
use Rattle.std.specs.Str.{bytes_eq}
use Rattle.sour_raw.specs.declared.raw.RawSimple.{RawSimple}
use Rattle.sour_raw.specs.declared.raw.RawSimple.TheVariants as simple
use Rattle.sour_raw.specs.declared.raw.RawExpr.{RawExpr}
use Rattle.sour_raw.specs.declared.raw.RawExpr.TheVariants as expr
use Rattle.sour_raw.specs.declared.raw.RawBind.{RawBind}
use Rattle.sour_raw.specs.declared.raw.RawExtra.{RawExtra}
use Rattle.sour_raw.specs.declared.raw.RawExit.{RawExit}
use Rattle.sour_raw.specs.declared.raw.RawInstr.{RawInstr}
use Rattle.sour_raw.specs.declared.raw.RawInstr.TheVariants.{Var, Drop, Assign, ArrayLength, ArrayList, Store, Print, Read, Branch, Goto, Call, Return, Stop, Assume}
use Rattle.sour_raw.specs.declared.raw.RawLine.{RawLine}

-- the names in an operand
abbrev pub simple_names : RawSimple → List (List ℕ)
simple_names (simple.Lit literal) = []
simple_names (simple.Name name) = name ∷ []

-- the names in an expression, in the order in which they are written
abbrev pub expr_names : RawExpr → List (List ℕ)
expr_names (expr.Plain a) = simple_names a
expr_names (expr.Cell x index) = x ∷ simple_names index
expr_names (expr.Length a) = simple_names a
expr_names (expr.Not a) = simple_names a
expr_names (expr.Binary op a b) = simple_names a ++ simple_names b

-- the names in some expressions, in the order in which they are written
abbrev pub each_names : List RawExpr → List (List ℕ)
each_names [] = []
each_names (e ∷ es) = expr_names e ++ each_names es

-- the names of all of these, as F says which each has
abbrev pub all_names : {X : Type 0} → (X → List (List ℕ)) → List X → List (List ℕ)
all_names {X} F [] = []
all_names {X} F (x ∷ xs) = F x ++ all_names F xs

-- the names in the value that a name is given; the name itself belongs to another version
abbrev pub bind_names : RawBind → List (List ℕ)
bind_names bind = expr_names bind.value

-- the names in the values of a map
abbrev pub map_names : List RawBind → List (List ℕ)
map_names binds = all_names bind_names binds

-- the same of the map of an extra; the variable that gets the result belongs to another version
abbrev pub extra_names : RawExtra → List (List ℕ)
extra_names extra = map_names extra.map

-- the names in the map of an exit, and then in those of its extras
abbrev pub exit_names : RawExit → List (List ℕ)
exit_names exit = map_names exit.map ++ all_names extra_names exit.extras

-- the names of variables in an instruction, in the order in which they are written
abbrev pub instr_names : RawInstr → List (List ℕ)
instr_names (Var x e) = x ∷ expr_names e
instr_names (Drop x) = x ∷ []
instr_names (Assign x e) = x ∷ expr_names e
instr_names (ArrayLength x e) = x ∷ expr_names e
instr_names (ArrayList x es) = x ∷ each_names es
instr_names (Store x index e) = x ∷ simple_names index ++ expr_names e
instr_names (Print e) = expr_names e
instr_names (Read x) = x ∷ []
instr_names (Branch e a b) = expr_names e
instr_names (Goto a) = []
instr_names (Call x callee es) = x ∷ simple_names callee ++ each_names es
instr_names (Return e) = expr_names e
instr_names Stop = []
instr_names (Assume predicates exit) = each_names predicates ++ exit_names exit

-- a name is put after the others where it isn't among them
abbrev pub with_name : List (List ℕ) → List ℕ → List (List ℕ)
with_name names name = if list_any (bytes_eq name) names then names else names ++ name ∷ []

-- each of these names in turn
abbrev pub with_names : List (List ℕ) → List (List ℕ) → List (List ℕ)
with_names names [] = names
with_names names (name ∷ others) = with_names (with_name names name) others

-- the names that lines mention are put after the others
abbrev pub with_lines : List (List ℕ) → List RawLine → List (List ℕ)
with_lines names [] = names
with_lines names (line ∷ lines) = with_lines (with_names names (instr_names line.instr)) lines

-- the variables of a version with these parameters and these lines
abbrev pub variables_of : List (List ℕ) → List RawLine → List (List ℕ)
variables_of parameters lines = with_lines (with_names [] parameters) lines
