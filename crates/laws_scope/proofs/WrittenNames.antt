-- The variables of a version that is written have names.
use Rattle.std.proofs.Common.{ℕ, Bool, true, false, cond, List, [], ◌∷◌, ◌++◌}
use Rattle.std.specs.List.{AllByRecursion, list_any}
use Rattle.std.specs.Str.{bytes_eq}
use Rattle.sour_syntax.specs.Name.{IsName}
use Rattle.sour_syntax.proofs.Everywhere.{AllByRecursion-append}
use Rattle.sour_raw.specs.declared.raw.RawSimple.{RawSimple}
use Rattle.sour_raw.specs.declared.raw.RawSimple.TheVariants as simple
use Rattle.sour_raw.specs.declared.raw.RawExpr.{RawExpr}
use Rattle.sour_raw.specs.declared.raw.RawExpr.TheVariants as expr
use Rattle.sour_raw.specs.declared.raw.RawBind.{RawBind}
use Rattle.sour_raw.specs.declared.raw.RawExtra.{RawExtra}
use Rattle.sour_raw.specs.declared.raw.RawExit.{RawExit}
use Rattle.sour_raw.specs.declared.raw.RawInstr.{RawInstr}
use Rattle.sour_raw.specs.declared.raw.RawInstr.TheVariants.{Var, Drop, Assign, ArrayLength, ArrayList, Store, Print, Read, Branch, Goto, Call, Return, Stop, Assume}
use Rattle.sour_raw.specs.declared.raw.RawLine.{RawLine}
use Rattle.sour_raw.specs.Written.{IsWrittenSimple, IsWrittenExpr, AreWrittenExprs, IsWrittenMap, IsWrittenExtra, IsWrittenExit, IsWrittenInstr, IsWrittenLine}
use Rattle.sour_raw.specs.Mentions.{simple_names, expr_names, each_names, all_names, bind_names, map_names, extra_names, exit_names, instr_names, with_name, with_names, with_lines, variables_of}

-- the name in an operand that is written is one
names_of_simple : (a : RawSimple) → IsWrittenSimple a → AllByRecursion IsName (simple_names a)
names_of_simple (simple.Lit literal) written = tt
names_of_simple (simple.Name name) written = (written, tt)

-- the names in an expression that is written are names
names_of_expr : (e : RawExpr) → IsWrittenExpr e → AllByRecursion IsName (expr_names e)
names_of_expr (expr.Plain a) written = names_of_simple a written
names_of_expr (expr.Cell x index) (name, written) = (name, names_of_simple index written)
names_of_expr (expr.Length a) written = names_of_simple a written
names_of_expr (expr.Not a) written = names_of_simple a written
names_of_expr (expr.Binary op a b) (first, second) =
    AllByRecursion-append IsName (simple_names a) (simple_names b) (names_of_simple a first) (names_of_simple b second)

-- the names in expressions
names_of_each : (es : List RawExpr) → AreWrittenExprs es → AllByRecursion IsName (each_names es)
names_of_each [] written = tt
names_of_each (e ∷ es) (one, others) =
    AllByRecursion-append IsName (expr_names e) (each_names es) (names_of_expr e one) (names_of_each es others)

-- the names in the values of a map
names_of_binds : (binds : List RawBind) → IsWrittenMap binds → AllByRecursion IsName (map_names binds)
names_of_binds [] written = tt
names_of_binds (bind ∷ binds) ((name, one), others) =
    AllByRecursion-append IsName (bind_names bind) (map_names binds) (names_of_expr bind.value one)
    (names_of_binds binds others)

-- the names in the maps of further continuations
names_of_extras : (extras : List RawExtra) → AllByRecursion IsWrittenExtra extras
    → AllByRecursion IsName (all_names extra_names extras)
names_of_extras [] written = tt
names_of_extras (extra ∷ extras) (one, others) =
    AllByRecursion-append IsName (extra_names extra) (all_names extra_names extras) (names_of_binds extra.map one.map)
    (names_of_extras extras others)

-- the names in the maps of an exit
names_of_exit : (exit : RawExit) → IsWrittenExit exit → AllByRecursion IsName (exit_names exit)
names_of_exit exit written =
    AllByRecursion-append IsName (map_names exit.map) (all_names extra_names exit.extras)
    (names_of_binds exit.map written.map) (names_of_extras exit.extras written.extras)

-- the names in an instruction that is written are names
names_of_instr : (instr : RawInstr) → IsWrittenInstr instr → AllByRecursion IsName (instr_names instr)
names_of_instr (Var x e) (name, written) = (name, names_of_expr e written)
names_of_instr (Drop x) written = (written, tt)
names_of_instr (Assign x e) (name, written) = (name, names_of_expr e written)
names_of_instr (ArrayLength x e) (name, written) = (name, names_of_expr e written)
names_of_instr (ArrayList x es) (name, written) = (name, names_of_each es written)
names_of_instr (Store x index e) (name, first, second) = (
  name,
  AllByRecursion-append IsName (simple_names index) (expr_names e) (names_of_simple index first)
      (names_of_expr e second),
)
names_of_instr (Print e) written = names_of_expr e written
names_of_instr (Read x) written = (written, tt)
names_of_instr (Branch e a b) (written, first, second) = names_of_expr e written
names_of_instr (Goto a) written = tt
names_of_instr (Call x callee es) (name, first, second) = (
  name,
  AllByRecursion-append IsName (simple_names callee) (each_names es) (names_of_simple callee first)
      (names_of_each es second),
)
names_of_instr (Return e) written = names_of_expr e written
names_of_instr Stop written = tt
names_of_instr (Assume es exit) (first, second) =
    AllByRecursion-append IsName (each_names es) (exit_names exit) (names_of_each es first) (names_of_exit exit second)

-- one name more or not
with_name-all : (P : List ℕ → Type 0) (names : List (List ℕ)) (name : List ℕ) (test : Bool) → AllByRecursion P names
    → P name
    → AllByRecursion P (cond test names (names ++ name ∷ []))
with_name-all P names name true all holds = all
with_name-all P names name false all holds = AllByRecursion-append P names (name ∷ []) all (holds, tt)

-- what holds of the names and of those that are put behind them holds of all
with_names-all : (P : List ℕ → Type 0) (names others : List (List ℕ)) → AllByRecursion P names → AllByRecursion P others
    → AllByRecursion P (with_names names others)
with_names-all P names [] all more = all
with_names-all P names (name ∷ others) all more =
    with_names-all P (with_name names name) others
    (with_name-all P names name (list_any (bytes_eq name) names) all more.0) more.1

-- the names of the variables of lines that are written are names
with_lines-names : (names : List (List ℕ)) (lines : List RawLine) → AllByRecursion IsWrittenLine lines
    → AllByRecursion IsName names
    → AllByRecursion IsName (with_lines names lines)
with_lines-names names [] written all = all
with_lines-names names (line ∷ lines) (one, others) all =
    with_lines-names (with_names names (instr_names line.instr)) lines others
    (with_names-all IsName names (instr_names line.instr) all (names_of_instr line.instr one.instr))

-- the variables of a version that is written have names
pub named_variables : (parameters : List (List ℕ)) (lines : List RawLine) → AllByRecursion IsName parameters
    → AllByRecursion IsWrittenLine lines → AllByRecursion IsName (variables_of parameters lines)
named_variables parameters lines names written =
    with_lines-names (with_names [] parameters) lines written (with_names-all IsName [] parameters tt names)
