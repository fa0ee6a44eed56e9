-- A job with numbers in place of names: what the code of a text is once its names are known.
use Rattle.std.specs.Prelude.{ℕ, suc, List, [], ◌∷◌, Option, None, Some, length, map}
use Rattle.std.specs.List.{position_or_len}
use Rattle.std.specs.Str.{bytes_eq}
use Rattle.sour_syntax.specs.declared.literal.VarId.{VarId}
use Rattle.sour_syntax.specs.declared.literal.Literal.{Literal}
use Rattle.sour_syntax.specs.declared.literal.Literal.TheVariants as literal
use Rattle.sour_syntax.specs.declared.expression.Simple.{Simple}
use Rattle.sour_syntax.specs.declared.expression.Simple.TheVariants as simple
use Rattle.sour_syntax.specs.declared.expression.Expr.{Expr}
use Rattle.sour_syntax.specs.declared.expression.Expr.TheVariants as expr
use Rattle.sour_syntax.specs.declared.exit.Code.TheVariants.{Text}
use Rattle.sour_syntax.specs.declared.exit.Target.{Target}
use Rattle.sour_syntax.specs.declared.exit.Bind.{Bind}
use Rattle.sour_syntax.specs.declared.exit.Extra.{Extra}
use Rattle.sour_syntax.specs.declared.exit.Exit.{Exit}
use Rattle.sour_syntax.specs.declared.instruction.Instr.{Instr}
use Rattle.sour_syntax.specs.declared.instruction.Instr.TheVariants as instr
use Rattle.sour_syntax.specs.declared.instruction.Line.{Line}
use Rattle.sour_syntax.specs.declared.plan.PlanSimple.{PlanSimple}
use Rattle.sour_syntax.specs.declared.plan.PlanSimple.TheVariants as side
use Rattle.sour_syntax.specs.declared.plan.PlanPredicate.{PlanPredicate}
use Rattle.sour_syntax.specs.declared.plan.Pass.{Pass}
use Rattle.sour_syntax.specs.declared.plan.Pass.TheVariants as pass
use Rattle.sour_syntax.specs.declared.plan.PlanJob.{PlanJob}
use Rattle.sour_syntax.specs.declared.program.Version.{Version}
use Rattle.sour_syntax.specs.declared.program.Function.{Function as Declared}
use Rattle.sour_syntax.specs.BodyView.{BodyView}
use Rattle.sour_syntax.specs.Labels.{automatic_label}
use Rattle.sour_raw.specs.declared.raw.RawLiteral.{RawLiteral}
use Rattle.sour_raw.specs.declared.raw.RawLiteral.TheVariants.{Number, Truth, Nil, Function}
use Rattle.sour_raw.specs.declared.raw.RawSimple.{RawSimple}
use Rattle.sour_raw.specs.declared.raw.RawSimple.TheVariants.{Lit, Name}
use Rattle.sour_raw.specs.declared.raw.RawExpr.{RawExpr}
use Rattle.sour_raw.specs.declared.raw.RawExpr.TheVariants.{Plain, Cell, Length, Not, Binary}
use Rattle.sour_raw.specs.declared.raw.RawPlace.{RawPlace}
use Rattle.sour_raw.specs.declared.raw.RawBind.{RawBind}
use Rattle.sour_raw.specs.declared.raw.RawExtra.{RawExtra}
use Rattle.sour_raw.specs.declared.raw.RawExit.{RawExit}
use Rattle.sour_raw.specs.declared.raw.RawInstr.{RawInstr}
use Rattle.sour_raw.specs.declared.raw.RawInstr.TheVariants.{Var, Drop, Assign, ArrayLength, ArrayList, Store, Print, Read, Branch, Goto, Call, Return, Stop, Assume}
use Rattle.sour_raw.specs.declared.raw.RawLine.{RawLine}
use Rattle.sour_raw.specs.declared.raw.RawVersion.{RawVersion}
use Rattle.sour_raw.specs.declared.raw.RawFunction.{RawFunction}
use Rattle.sour_raw.specs.declared.raw.RawPlanSimple.{RawPlanSimple}
use Rattle.sour_raw.specs.declared.raw.RawPlanSimple.TheVariants as raw_side
use Rattle.sour_raw.specs.declared.raw.RawPredicate.{RawPredicate}
use Rattle.sour_raw.specs.declared.raw.RawPass.{RawPass}
use Rattle.sour_raw.specs.declared.raw.RawPass.TheVariants.{Inject, Constprop, Unreachable, Inline, Move, Hoist, Compose, Prune}
use Rattle.sour_raw.specs.declared.raw.RawPlanJob.{RawPlanJob}
use Rattle.sour_raw.specs.declared.raw.RawInput.{RawInput}
use Rattle.sour_raw.specs.Mentions.{variables_of}
use Rattle.sour_checked.specs.Outline.{FunctionNames}
use Rattle.sour_checked.specs.Outline.{own_names, function_number, place_function, place_version, place_variables}

-- the value that a literal writes, where the functions have these names
abbrev pub literal_of : List (List ℕ) → RawLiteral → Literal
literal_of functions (Number n) = literal.Number n
literal_of functions (Truth b) = literal.Truth b
literal_of functions Nil = literal.Nil
literal_of functions (Function name) = literal.Function (function_number functions name)

-- the number of a variable is the place of its name among the names of the variables
abbrev pub number_of : List (List ℕ) → List ℕ → VarId
number_of names name = record { 0 = position_or_len (bytes_eq name) names }

-- an operand, where the functions and the variables have these names
abbrev pub simple_of : List (List ℕ) → List (List ℕ) → RawSimple → Simple
simple_of functions names (Lit literal) = simple.Lit (literal_of functions literal)
simple_of functions names (Name name) = simple.Var (number_of names name)

-- an expression, in the same way
abbrev pub expr_of : List (List ℕ) → List (List ℕ) → RawExpr → Expr
expr_of functions names (Plain a) = expr.Plain (simple_of functions names a)
expr_of functions names (Cell x index) = expr.Cell (number_of names x) (simple_of functions names index)
expr_of functions names (Length a) = expr.Length (simple_of functions names a)
expr_of functions names (Not a) = expr.Not (simple_of functions names a)
expr_of functions names (Binary op a b) = expr.Binary op (simple_of functions names a) (simple_of functions names b)

-- a place with numbers in place of the names of its function and its version, where these are the names of the text
abbrev pub target_of : List FunctionNames → RawPlace → Target
target_of functions place = record { code = Text (place_function functions place) (place_version functions place); label = place.label }

-- a variable of the target with its value, where the functions, the variables of the target and those of the body have these names
abbrev pub bind_of : List (List ℕ) → List (List ℕ) → List (List ℕ) → RawBind → Bind
bind_of functions others names bind = record { name = number_of others bind.name; value = expr_of functions names bind.value }

-- a map, in the same way
abbrev pub map_of : List (List ℕ) → List (List ℕ) → List (List ℕ) → List RawBind → List Bind
map_of functions others names binds = map (bind_of functions others names) binds

-- a further frame, where these are the names of the text and the variables of the body have these names
abbrev pub extra_of : List FunctionNames → List (List ℕ) → RawExtra → Extra
extra_of functions names extra = record {
  target = target_of functions extra.target;
  result = number_of (place_variables functions extra.target) extra.result;
  map = map_of (own_names functions) (place_variables functions extra.target) names extra.map;
}

-- an exit, in the same way
abbrev pub exit_of : List FunctionNames → List (List ℕ) → RawExit → Exit
exit_of functions names exit = record {
  target = target_of functions exit.target;
  map = map_of (own_names functions) (place_variables functions exit.target) names exit.map;
  extras = map (extra_of functions names) exit.extras;
}

-- an instruction, in the same way
abbrev pub instr_of : List FunctionNames → List (List ℕ) → RawInstr → Instr
instr_of functions names (Var x e) = instr.Var (number_of names x) (expr_of (own_names functions) names e)
instr_of functions names (Drop x) = instr.Drop (number_of names x)
instr_of functions names (Assign x e) = instr.Assign (number_of names x) (expr_of (own_names functions) names e)
instr_of functions names (ArrayLength x e) = instr.ArrayLength (number_of names x) (expr_of (own_names functions) names e)
instr_of functions names (ArrayList x es) = instr.ArrayList (number_of names x) (map (expr_of (own_names functions) names) es)
instr_of functions names (Store x index e) =
    instr.Store (number_of names x) (simple_of (own_names functions) names index) (expr_of (own_names functions) names e)
instr_of functions names (Print e) = instr.Print (expr_of (own_names functions) names e)
instr_of functions names (Read x) = instr.Read (number_of names x)
instr_of functions names (Branch e first second) = instr.Branch (expr_of (own_names functions) names e) first second
instr_of functions names (Goto label) = instr.Goto label
instr_of functions names (Call x callee es) =
    instr.Call (number_of names x) (simple_of (own_names functions) names callee) (map (expr_of (own_names functions) names) es)
instr_of functions names (Return e) = instr.Return (expr_of (own_names functions) names e)
instr_of functions names Stop = instr.Stop
instr_of functions names (Assume es exit) = instr.Assume (map (expr_of (own_names functions) names) es) (exit_of functions names exit)

-- the label of the line at a place: the one that is written, or else the automatic one
abbrev pub label_of : ℕ → Option (List ℕ) → List ℕ
label_of place None = automatic_label place
label_of place (Some label) = label

-- the lines, the first of them at this place
abbrev pub lines_of : List FunctionNames → List (List ℕ) → ℕ → List RawLine → List Line
lines_of functions names place [] = []
lines_of functions names place (line ∷ lines) =
    record { label = label_of place line.label; instr = instr_of functions names line.instr } ∷ lines_of functions names (suc place) lines

-- the body of a version of the function that has this number and these parameters, where these are the names of the text
abbrev pub body_of : List FunctionNames → ℕ → List (List ℕ) → List RawLine → BodyView
body_of functions number parameters lines = record {
  function = record { 0 = number };
  parameters = length parameters;
  variables = variables_of parameters lines;
  lines = lines_of functions (variables_of parameters lines) 0 lines;
}

-- a version of that function
abbrev pub version_of : List FunctionNames → ℕ → List (List ℕ) → RawVersion → Version
version_of functions number parameters version = record {
  name = version.name;
  body = body_of functions number parameters version.lines;
}

-- the function that has this number
abbrev pub function_of : List FunctionNames → ℕ → RawFunction → Declared
function_of functions number function = record {
  name = function.name;
  versions = map (version_of functions number function.parameters) function.versions;
}

-- some of the functions, the first of which has this number
abbrev pub functions_of : List FunctionNames → ℕ → List RawFunction → List Declared
functions_of functions number [] = []
functions_of functions number (function ∷ others) = function_of functions number function ∷ functions_of functions (suc number) others

-- the values of each input
abbrev pub inputs_of : List (List ℕ) → List RawInput → List (List Literal)
inputs_of functions inputs = map (λ (input : RawInput). map (literal_of functions) input.values) inputs

-- a side of a predicate of the plan; a variable keeps its name
abbrev pub side_of : List (List ℕ) → RawPlanSimple → PlanSimple
side_of functions (raw_side.Lit literal) = side.Lit (literal_of functions literal)
side_of functions (raw_side.Name name) = side.Name name

-- a predicate of the plan
abbrev pub predicate_of : List (List ℕ) → RawPredicate → PlanPredicate
predicate_of functions predicate = record { left = side_of functions predicate.left; right = side_of functions predicate.right }

-- a pass, whose labels are kept
abbrev pub pass_of : List (List ℕ) → RawPass → Pass
pass_of functions (Inject anchor predicate) = pass.Inject anchor (predicate_of functions predicate)
pass_of functions Constprop = pass.Constprop
pass_of functions Unreachable = pass.Unreachable
pass_of functions (Inline call start) = pass.Inline call start
pass_of functions (Move anchor) = pass.Move anchor
pass_of functions (Hoist from to predicate) = pass.Hoist from to (predicate_of functions predicate)
pass_of functions (Compose anchor) = pass.Compose anchor
pass_of functions Prune = pass.Prune

-- a job of the plan
abbrev pub plan_job_of : List (List ℕ) → RawPlanJob → PlanJob
plan_job_of functions job = record {
  function = function_number functions job.function;
  start = job.start;
  passes = map (pass_of functions) job.passes;
}

-- the jobs of the plan
abbrev pub plan_of : List (List ℕ) → List RawPlanJob → List PlanJob
plan_of functions plan = map (plan_job_of functions) plan
