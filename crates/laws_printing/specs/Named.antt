-- A program with names in place of numbers, as its canonical text has it.
use Rattle.std.specs.Prelude.{ℕ, suc, ◌+◌, List, [], ◌∷◌, Option, None, Some, map, take, slice_get, if◌then◌else◌}
use Rattle.std.specs.Option.{unwrap_or}
use Rattle.std.specs.Str.{bytes_eq}
use Rattle.sour_syntax.specs.declared.literal.VarId.{VarId}
use Rattle.sour_syntax.specs.declared.literal.FunId.{FunId}
use Rattle.sour_syntax.specs.declared.literal.Literal.{Literal}
use Rattle.sour_syntax.specs.declared.literal.Literal.TheVariants as literal
use Rattle.sour_syntax.specs.declared.expression.Simple.{Simple}
use Rattle.sour_syntax.specs.declared.expression.Simple.TheVariants as simple
use Rattle.sour_syntax.specs.declared.expression.Expr.{Expr}
use Rattle.sour_syntax.specs.declared.expression.Expr.TheVariants as expr
use Rattle.sour_syntax.specs.declared.exit.Code.{Code}
use Rattle.sour_syntax.specs.declared.exit.Code.TheVariants.{Text, Made}
use Rattle.sour_syntax.specs.declared.exit.Target.{Target}
use Rattle.sour_syntax.specs.declared.exit.Bind.{Bind}
use Rattle.sour_syntax.specs.declared.exit.Extra.{Extra}
use Rattle.sour_syntax.specs.declared.exit.Exit.{Exit}
use Rattle.sour_syntax.specs.declared.instruction.Instr.{Instr}
use Rattle.sour_syntax.specs.declared.instruction.Instr.TheVariants as instr
use Rattle.sour_syntax.specs.declared.instruction.Line.{Line}
use Rattle.sour_syntax.specs.declared.program.Version.{Version}
use Rattle.sour_syntax.specs.declared.program.Function.{Function as Declared}
use Rattle.sour_syntax.specs.BodyView.{BodyView}
use Rattle.sour_syntax.specs.Labels.{automatic_label}
use Rattle.sour_syntax.specs.Program.{ProgramView}
use Rattle.sour_syntax.specs.Targets.{named_body}
use Rattle.sour_raw.specs.declared.raw.RawLiteral.{RawLiteral}
use Rattle.sour_raw.specs.declared.raw.RawLiteral.TheVariants.{Number, Truth, Nil, Function}
use Rattle.sour_raw.specs.declared.raw.RawSimple.{RawSimple}
use Rattle.sour_raw.specs.declared.raw.RawSimple.TheVariants.{Lit, Name}
use Rattle.sour_raw.specs.declared.raw.RawExpr.{RawExpr}
use Rattle.sour_raw.specs.declared.raw.RawExpr.TheVariants.{Plain, Cell, Length, Not, Binary}
use Rattle.sour_raw.specs.declared.raw.RawPlace.{RawPlace}
use Rattle.sour_raw.specs.declared.raw.RawBind.{RawBind}
use Rattle.sour_raw.specs.declared.raw.RawExtra.{RawExtra}
use Rattle.sour_raw.specs.declared.raw.RawExit.{RawExit}
use Rattle.sour_raw.specs.declared.raw.RawInstr.{RawInstr}
use Rattle.sour_raw.specs.declared.raw.RawInstr.TheVariants.{Var, Drop, Assign, ArrayLength, ArrayList, Store, Print, Read, Branch, Goto, Call, Return, Stop, Assume}
use Rattle.sour_raw.specs.declared.raw.RawLine.{RawLine}
use Rattle.sour_raw.specs.declared.raw.RawVersion.{RawVersion}
use Rattle.sour_raw.specs.declared.raw.RawFunction.{RawFunction}
use Rattle.sour_raw.specs.declared.raw.RawJob.{RawJob}
use Rattle.laws_printing.specs.Numbered.{version_height, function_height}

-- the name of the variable that has this number; the empty one, which is no name, where none has it
abbrev pub variable_name : List (List ℕ) → VarId → List ℕ
variable_name names x = unwrap_or (slice_get names x.0) []

-- the name of a function; the empty one where there is none
abbrev pub name_of_function : Option Declared → List ℕ
name_of_function None = []
name_of_function (Some function) = function.name

-- the name of the function that has this number
abbrev pub function_name : List Declared → FunId → List ℕ
function_name functions f = name_of_function (slice_get functions f.0)

-- the name of a version; the empty one where there is none
abbrev pub name_of_version : Option Version → List ℕ
name_of_version None = []
name_of_version (Some version) = version.name

-- the name of the version of a function that has this number
abbrev pub name_in_function : Option Declared → ℕ → List ℕ
name_in_function None version = []
name_in_function (Some function) version = name_of_version (slice_get function.versions version)

-- the name of the function that a code names; a body of a bundle has none
abbrev pub code_function : List Declared → Code → List ℕ
code_function functions (Text f version) = function_name functions f
code_function functions (Made number) = []

-- the name of the version that a code names, in the same way
abbrev pub code_version : List Declared → Code → List ℕ
code_version functions (Text f version) = name_in_function (slice_get functions f.0) version
code_version functions (Made number) = []

-- the names of the variables of a body; none where there is no body
abbrev pub body_variables : Option BodyView → List (List ℕ)
body_variables None = []
body_variables (Some body) = body.variables

-- the names of the variables of what a code names among the versions of these functions and these bodies of a bundle;
-- of a program there are no such bodies
abbrev pub code_variables : List Declared → List BodyView → Code → List (List ℕ)
code_variables functions bodies code = body_variables (named_body functions bodies code)

-- a literal, where these are the functions
abbrev pub raw_literal : List Declared → Literal → RawLiteral
raw_literal functions (literal.Number n) = Number n
raw_literal functions (literal.Truth b) = Truth b
raw_literal functions literal.Nil = Nil
raw_literal functions (literal.Function f) = Function (function_name functions f)

-- an operand, where these are the functions and the names of the variables
abbrev pub raw_simple : List Declared → List (List ℕ) → Simple → RawSimple
raw_simple functions names (simple.Lit literal) = Lit (raw_literal functions literal)
raw_simple functions names (simple.Var x) = Name (variable_name names x)

-- an expression, in the same way
abbrev pub raw_expr : List Declared → List (List ℕ) → Expr → RawExpr
raw_expr functions names (expr.Plain a) = Plain (raw_simple functions names a)
raw_expr functions names (expr.Cell x index) = Cell (variable_name names x) (raw_simple functions names index)
raw_expr functions names (expr.Length a) = Length (raw_simple functions names a)
raw_expr functions names (expr.Not a) = Not (raw_simple functions names a)
raw_expr functions names (expr.Binary op a b) = Binary op (raw_simple functions names a) (raw_simple functions names b)

-- a target: the names of its function and of its version, and its label
abbrev pub raw_target : List Declared → Target → RawPlace
raw_target functions target = record {
  function = code_function functions target.code;
  version = code_version functions target.code;
  label = target.label;
}

-- a variable of the target with its value, where these are the functions, the names of the target's variables and those
-- of the body's
abbrev pub raw_bind : List Declared → List (List ℕ) → List (List ℕ) → Bind → RawBind
raw_bind functions others names bind =
    record { name = variable_name others bind.name; value = raw_expr functions names bind.value }

-- a map, in the same way
abbrev pub raw_map : List Declared → List (List ℕ) → List (List ℕ) → List Bind → List RawBind
raw_map functions others names binds = map (raw_bind functions others names) binds

-- a further frame, where these are the functions and the names of the body's variables
abbrev pub raw_extra : List Declared → List (List ℕ) → Extra → RawExtra
raw_extra functions names extra = record {
  target = raw_target functions extra.target;
  result = variable_name (code_variables functions [] extra.target.code) extra.result;
  map = raw_map functions (code_variables functions [] extra.target.code) names extra.map;
}

-- an exit, in the same way
abbrev pub raw_exit : List Declared → List (List ℕ) → Exit → RawExit
raw_exit functions names exit = record {
  target = raw_target functions exit.target;
  map = raw_map functions (code_variables functions [] exit.target.code) names exit.map;
  extras = map (raw_extra functions names) exit.extras;
}

-- an instruction, in the same way
abbrev pub raw_instr : List Declared → List (List ℕ) → Instr → RawInstr
raw_instr functions names (instr.Var x e) = Var (variable_name names x) (raw_expr functions names e)
raw_instr functions names (instr.Drop x) = Drop (variable_name names x)
raw_instr functions names (instr.Assign x e) = Assign (variable_name names x) (raw_expr functions names e)
raw_instr functions names (instr.ArrayLength x e) = ArrayLength (variable_name names x) (raw_expr functions names e)
raw_instr functions names (instr.ArrayList x es) =
    ArrayList (variable_name names x) (map (raw_expr functions names) es)
raw_instr functions names (instr.Store x index e) =
    Store (variable_name names x) (raw_simple functions names index) (raw_expr functions names e)
raw_instr functions names (instr.Print e) = Print (raw_expr functions names e)
raw_instr functions names (instr.Read x) = Read (variable_name names x)
raw_instr functions names (instr.Branch e first second) = Branch (raw_expr functions names e) first second
raw_instr functions names (instr.Goto label) = Goto label
raw_instr functions names (instr.Call x callee es) =
    Call (variable_name names x) (raw_simple functions names callee) (map (raw_expr functions names) es)
raw_instr functions names (instr.Return e) = Return (raw_expr functions names e)
raw_instr functions names instr.Stop = Stop
raw_instr functions names (instr.Assume es exit) =
    Assume (map (raw_expr functions names) es) (raw_exit functions names exit)

-- the label that is written before the line at a place: none where it is the automatic one of the place
abbrev pub raw_label : ℕ → List ℕ → Option (List ℕ)
raw_label place label = if bytes_eq label (automatic_label place) then None else Some label

-- lines, the first of which is written on this line of the text and stands at this place of its version
abbrev pub raw_lines : List Declared → List (List ℕ) → ℕ → ℕ → List Line → List RawLine
raw_lines functions names number place [] = []
raw_lines functions names number place (line ∷ lines) =
    record {
      line = number;
      label = raw_label place line.label;
      instr = raw_instr functions names line.instr;
    } ∷ raw_lines functions names (number + 1) (suc place) lines

-- a version, which begins on this line of the text
abbrev pub raw_version : List Declared → ℕ → Version → RawVersion
raw_version functions number version = record {
  line = number;
  name = version.name;
  lines = raw_lines functions version.body.variables (number + 1) 0 version.body.lines;
}

-- versions, the first of which begins on this line
abbrev pub raw_versions : List Declared → ℕ → List Version → List RawVersion
raw_versions functions number [] = []
raw_versions functions number (version ∷ versions) =
    raw_version functions number version
    ∷ raw_versions functions (number + version_height (raw_version functions number version)) versions

-- the names of the parameters that versions have: those of the first
abbrev pub parameter_names : List Version → List (List ℕ)
parameter_names [] = []
parameter_names (version ∷ versions) = take version.body.parameters version.body.variables

-- a function, which begins on this line
abbrev pub raw_function : List Declared → ℕ → Declared → RawFunction
raw_function functions number function = record {
  line = number;
  name = function.name;
  parameters = parameter_names function.versions;
  versions = raw_versions functions (number + 1) function.versions;
}

-- some of the functions, the first of which begins on this line
abbrev pub raw_functions : List Declared → ℕ → List Declared → List RawFunction
raw_functions functions number [] = []
raw_functions functions number (function ∷ others) =
    raw_function functions number function
    ∷ raw_functions functions (number + function_height (raw_function functions number function)) others

-- a program
abbrev pub raw_of : ProgramView → RawJob
raw_of program = record { functions = raw_functions program.functions 1 program.functions; plan = []; inputs = [] }
