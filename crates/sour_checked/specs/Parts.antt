-- What an instruction, a job of the plan or an input names, and the continuations of an exit.
use Rattle.std.specs.Prelude.{ℕ, Bool, true, false, List, [], ◌∷◌, ◌++◌, Option, None, Some, map}
use Rattle.std.specs.List.{flat_map}
use Rattle.sour_raw.specs.declared.raw.RawLiteral.{RawLiteral}
use Rattle.sour_raw.specs.declared.raw.RawLiteral.TheVariants.{Number, Truth, Nil, Function}
use Rattle.sour_raw.specs.declared.raw.RawSimple.{RawSimple}
use Rattle.sour_raw.specs.declared.raw.RawSimple.TheVariants as simple
use Rattle.sour_raw.specs.declared.raw.RawExpr.{RawExpr}
use Rattle.sour_raw.specs.declared.raw.RawExpr.TheVariants as expr
use Rattle.sour_raw.specs.declared.raw.RawPlace.{RawPlace}
use Rattle.sour_raw.specs.declared.raw.RawBind.{RawBind}
use Rattle.sour_raw.specs.declared.raw.RawExtra.{RawExtra}
use Rattle.sour_raw.specs.declared.raw.RawExit.{RawExit}
use Rattle.sour_raw.specs.declared.raw.RawInstr.{RawInstr}
use Rattle.sour_raw.specs.declared.raw.RawInstr.TheVariants.{Var, Drop, Assign, ArrayLength, ArrayList, Store, Print, Read, Branch, Goto, Call, Return, Stop, Assume}
use Rattle.sour_raw.specs.declared.raw.RawPlanSimple.{RawPlanSimple}
use Rattle.sour_raw.specs.declared.raw.RawPlanSimple.TheVariants as side
use Rattle.sour_raw.specs.declared.raw.RawPredicate.{RawPredicate}
use Rattle.sour_raw.specs.declared.raw.RawPass.{RawPass}
use Rattle.sour_raw.specs.declared.raw.RawPass.TheVariants.{Inject, Constprop, Unreachable, Inline, Move, Hoist, Compose, Prune}
use Rattle.sour_raw.specs.declared.raw.RawPlanJob.{RawPlanJob}
use Rattle.sour_raw.specs.declared.raw.RawInput.{RawInput}

-- the function that a literal names
abbrev pub literal_functions : RawLiteral → List (List ℕ)
literal_functions (Number n) = []
literal_functions (Truth b) = []
literal_functions Nil = []
literal_functions (Function name) = name ∷ []

-- the function that an operand names
abbrev pub simple_functions : RawSimple → List (List ℕ)
simple_functions (simple.Lit literal) = literal_functions literal
simple_functions (simple.Name name) = []

-- the functions that an expression names
abbrev pub expr_functions : RawExpr → List (List ℕ)
expr_functions (expr.Plain a) = simple_functions a
expr_functions (expr.Cell x index) = simple_functions index
expr_functions (expr.Length a) = simple_functions a
expr_functions (expr.Not a) = simple_functions a
expr_functions (expr.Binary op a b) = simple_functions a ++ simple_functions b

-- the functions that some expressions name
abbrev pub each_functions : List RawExpr → List (List ℕ)
each_functions es = flat_map expr_functions es

-- the functions that the values of a map name
abbrev pub map_functions : List RawBind → List (List ℕ)
map_functions binds = flat_map (λ (bind : RawBind). expr_functions bind.value) binds

-- the functions that the values of the maps of an exit name
abbrev pub exit_functions : RawExit → List (List ℕ)
exit_functions exit = map_functions exit.map ++ flat_map (λ (extra : RawExtra). map_functions extra.map) exit.extras

-- the functions that an instruction names as values
abbrev pub instr_functions : RawInstr → List (List ℕ)
instr_functions (Var x e) = expr_functions e
instr_functions (Drop x) = []
instr_functions (Assign x e) = expr_functions e
instr_functions (ArrayLength x e) = expr_functions e
instr_functions (ArrayList x es) = each_functions es
instr_functions (Store x index e) = simple_functions index ++ expr_functions e
instr_functions (Print e) = expr_functions e
instr_functions (Read x) = []
instr_functions (Branch e a b) = expr_functions e
instr_functions (Goto a) = []
instr_functions (Call x callee es) = simple_functions callee ++ each_functions es
instr_functions (Return e) = expr_functions e
instr_functions Stop = []
instr_functions (Assume es exit) = each_functions es ++ exit_functions exit

-- the labels that an instruction goes to
abbrev pub instr_labels : RawInstr → List (List ℕ)
instr_labels (Var x e) = []
instr_labels (Drop x) = []
instr_labels (Assign x e) = []
instr_labels (ArrayLength x e) = []
instr_labels (ArrayList x es) = []
instr_labels (Store x index e) = []
instr_labels (Print e) = []
instr_labels (Read x) = []
instr_labels (Branch e a b) = a ∷ b ∷ []
instr_labels (Goto a) = a ∷ []
instr_labels (Call x callee es) = []
instr_labels (Return e) = []
instr_labels Stop = []
instr_labels (Assume es exit) = []

-- whether an instruction is a terminator
abbrev pub is_terminator : RawInstr → Bool
is_terminator (Var x e) = false
is_terminator (Drop x) = false
is_terminator (Assign x e) = false
is_terminator (ArrayLength x e) = false
is_terminator (ArrayList x es) = false
is_terminator (Store x index e) = false
is_terminator (Print e) = false
is_terminator (Read x) = false
is_terminator (Branch e a b) = true
is_terminator (Goto a) = true
is_terminator (Call x callee es) = false
is_terminator (Return e) = true
is_terminator Stop = true
is_terminator (Assume es exit) = false

-- a continuation as it is written: its target, the names of its map, and the variable that waits for a result, if one
-- does
pub record Leave : Type 0 where
  pub target : RawPlace
  pub names : List (List ℕ)
  pub waits : Option (List ℕ)

-- the names before the `=` of a map
abbrev pub left_names : List RawBind → List (List ℕ)
left_names binds = map (λ (bind : RawBind). bind.name) binds

-- a further continuation
abbrev pub further : RawExtra → Leave
further extra = record { target = extra.target; names = left_names extra.map; waits = Some extra.result }

-- the continuations of an exit in the order written
abbrev pub exit_leaves : RawExit → List Leave
exit_leaves exit = record { target = exit.target; names = left_names exit.map; waits = None } ∷ map further exit.extras

-- the continuations of an instruction
abbrev pub leaves : RawInstr → List Leave
leaves (Var x e) = []
leaves (Drop x) = []
leaves (Assign x e) = []
leaves (ArrayLength x e) = []
leaves (ArrayList x es) = []
leaves (Store x index e) = []
leaves (Print e) = []
leaves (Read x) = []
leaves (Branch e a b) = []
leaves (Goto a) = []
leaves (Call x callee es) = []
leaves (Return e) = []
leaves Stop = []
leaves (Assume es exit) = exit_leaves exit

-- the function that a side of a predicate of the plan names
abbrev pub side_functions : RawPlanSimple → List (List ℕ)
side_functions (side.Lit literal) = literal_functions literal
side_functions (side.Name name) = []

-- the functions that a predicate of the plan names
abbrev pub predicate_functions : RawPredicate → List (List ℕ)
predicate_functions predicate = side_functions predicate.left ++ side_functions predicate.right

-- the functions that a pass names; its labels aren't looked at
abbrev pub pass_functions : RawPass → List (List ℕ)
pass_functions (Inject anchor predicate) = predicate_functions predicate
pass_functions Constprop = []
pass_functions Unreachable = []
pass_functions (Inline call start) = []
pass_functions (Move anchor) = []
pass_functions (Hoist from to predicate) = predicate_functions predicate
pass_functions (Compose anchor) = []
pass_functions Prune = []

-- the functions that a job of the plan names
abbrev pub job_functions : RawPlanJob → List (List ℕ)
job_functions job = job.function ∷ flat_map pass_functions job.passes

-- the functions that an input names
abbrev pub input_functions : RawInput → List (List ℕ)
input_functions input = flat_map literal_functions input.values
