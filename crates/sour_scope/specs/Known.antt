-- That each name in a part of a text is there: functions, the variables of a version and its labels, and what a
-- continuation names of its target.
use Rattle.std.specs.Prelude.{◌≡◌, ℕ, true, List, Option, None, Some, ⊤}
use Rattle.std.specs.List.{AllByRecursion}
use Rattle.sour_raw.specs.declared.raw.RawLiteral.{RawLiteral}
use Rattle.sour_raw.specs.declared.raw.RawLiteral.TheVariants.{Number, Truth, Nil, Function}
use Rattle.sour_raw.specs.declared.raw.RawSimple.{RawSimple}
use Rattle.sour_raw.specs.declared.raw.RawSimple.TheVariants as simple
use Rattle.sour_raw.specs.declared.raw.RawExpr.{RawExpr}
use Rattle.sour_raw.specs.declared.raw.RawExpr.TheVariants as expr
use Rattle.sour_raw.specs.declared.raw.RawBind.{RawBind}
use Rattle.sour_raw.specs.declared.raw.RawExtra.{RawExtra}
use Rattle.sour_raw.specs.declared.raw.RawExit.{RawExit}
use Rattle.sour_raw.specs.declared.raw.RawInstr.{RawInstr}
use Rattle.sour_raw.specs.declared.raw.RawInstr.TheVariants.{Var, Drop, Assign, ArrayLength, ArrayList, Store, Print, Read, Branch, Goto, Call, Return, Stop, Assume}
use Rattle.sour_raw.specs.declared.raw.RawPlanSimple.{RawPlanSimple}
use Rattle.sour_raw.specs.declared.raw.RawPlanSimple.TheVariants as side
use Rattle.sour_raw.specs.declared.raw.RawPredicate.{RawPredicate}
use Rattle.sour_raw.specs.declared.raw.RawPass.{RawPass}
use Rattle.sour_raw.specs.declared.raw.RawPass.TheVariants.{Inject, Constprop, Unreachable, Inline, Move, Hoist, Compose, Prune}
use Rattle.sour_raw.specs.declared.raw.RawPlanJob.{RawPlanJob}
use Rattle.sour_checked.specs.Names.{is_among}
use Rattle.sour_scope.specs.declared.version_outline.VersionOutline.{VersionOutline}
use Rattle.sour_scope.specs.Outlined.{function_names, version_at}
use Rattle.sour_scope.specs.OutlinedFunction.{OutlinedFunction}

-- a name is one of these
abbrev pub IsAmong : List (List ℕ) → List ℕ → Type 0
IsAmong names name = is_among names name ≡ true

-- the function that a literal names is one of these
abbrev pub IsKnownLiteral : List (List ℕ) → RawLiteral → Type 0
IsKnownLiteral functions (Number n) = ⊤
IsKnownLiteral functions (Truth b) = ⊤
IsKnownLiteral functions Nil = ⊤
IsKnownLiteral functions (Function name) = IsAmong functions name

-- what an operand names is one of these functions and variables
abbrev pub IsKnownSimple : List (List ℕ) → List (List ℕ) → RawSimple → Type 0
IsKnownSimple functions variables (simple.Lit literal) = IsKnownLiteral functions literal
IsKnownSimple functions variables (simple.Name name) = IsAmong variables name

-- the same of an expression
abbrev pub IsKnownExpr : List (List ℕ) → List (List ℕ) → RawExpr → Type 0
IsKnownExpr functions variables (expr.Plain a) = IsKnownSimple functions variables a
IsKnownExpr functions variables (expr.Cell x index) = IsAmong variables x × IsKnownSimple functions variables index
IsKnownExpr functions variables (expr.Length a) = IsKnownSimple functions variables a
IsKnownExpr functions variables (expr.Not a) = IsKnownSimple functions variables a
IsKnownExpr functions variables (expr.Binary op a b) =
    IsKnownSimple functions variables a × IsKnownSimple functions variables b

-- the same of expressions
abbrev pub AreKnownExprs : List (List ℕ) → List (List ℕ) → List RawExpr → Type 0
AreKnownExprs functions variables es = AllByRecursion (IsKnownExpr functions variables) es

-- each name of a map is a variable of its target, and what the values name is known
abbrev pub IsKnownMap : List (List ℕ) → List (List ℕ) → List (List ℕ) → List RawBind → Type 0
IsKnownMap functions variables others binds =
    AllByRecursion (λ (bind : RawBind). IsAmong others bind.name × IsKnownExpr functions variables bind.value) binds

-- the version that was found has this label, and the variables that the map names
abbrev pub IsKnownTarget : List (List ℕ) → List (List ℕ) → Option VersionOutline → List ℕ → List RawBind → Type 0
IsKnownTarget functions variables None label binds = ⊥
IsKnownTarget functions variables (Some version) label binds =
    IsAmong version.labels label × IsKnownMap functions variables version.variables binds

-- and the variable that waits
abbrev pub IsKnownResult : Option VersionOutline → List ℕ → Type 0
IsKnownResult None name = ⊥
IsKnownResult (Some version) name = IsAmong version.variables name

-- what a further continuation names is there
abbrev pub IsKnownExtra : List OutlinedFunction → List (List ℕ) → RawExtra → Type 0
IsKnownExtra outline variables extra =
    IsKnownTarget (function_names outline) variables (version_at outline extra.target) extra.target.label extra.map
    × IsKnownResult (version_at outline extra.target) extra.result

-- the same of an exit
abbrev pub IsKnownExit : List OutlinedFunction → List (List ℕ) → RawExit → Type 0
IsKnownExit outline variables exit =
    IsKnownTarget (function_names outline) variables (version_at outline exit.target) exit.target.label exit.map
    × AllByRecursion (IsKnownExtra outline variables) exit.extras

-- the same of an instruction of a version
abbrev pub IsKnownInstr : List OutlinedFunction → VersionOutline → RawInstr → Type 0
IsKnownInstr outline version (Var x e) = IsAmong version.variables x × IsKnownExpr (function_names outline) version.variables e
IsKnownInstr outline version (Drop x) = IsAmong version.variables x
IsKnownInstr outline version (Assign x e) =
    IsAmong version.variables x × IsKnownExpr (function_names outline) version.variables e
IsKnownInstr outline version (ArrayLength x e) =
    IsAmong version.variables x × IsKnownExpr (function_names outline) version.variables e
IsKnownInstr outline version (ArrayList x es) =
    IsAmong version.variables x × AreKnownExprs (function_names outline) version.variables es
IsKnownInstr outline version (Store x index e) =
    IsAmong version.variables x × IsKnownSimple (function_names outline) version.variables index
    × IsKnownExpr (function_names outline) version.variables e
IsKnownInstr outline version (Print e) = IsKnownExpr (function_names outline) version.variables e
IsKnownInstr outline version (Read x) = IsAmong version.variables x
IsKnownInstr outline version (Branch e a b) =
    IsKnownExpr (function_names outline) version.variables e × IsAmong version.labels a × IsAmong version.labels b
IsKnownInstr outline version (Goto a) = IsAmong version.labels a
IsKnownInstr outline version (Call x callee es) =
    IsAmong version.variables x × IsKnownSimple (function_names outline) version.variables callee
    × AreKnownExprs (function_names outline) version.variables es
IsKnownInstr outline version (Return e) = IsKnownExpr (function_names outline) version.variables e
IsKnownInstr outline version Stop = ⊤
IsKnownInstr outline version (Assume es exit) =
    AreKnownExprs (function_names outline) version.variables es × IsKnownExit outline version.variables exit

-- the function that a side of a predicate of the plan names is one of these
abbrev pub IsKnownSide : List (List ℕ) → RawPlanSimple → Type 0
IsKnownSide functions (side.Lit literal) = IsKnownLiteral functions literal
IsKnownSide functions (side.Name name) = ⊤

-- the same of both sides
abbrev pub IsKnownPredicate : List (List ℕ) → RawPredicate → Type 0
IsKnownPredicate functions predicate = IsKnownSide functions predicate.left × IsKnownSide functions predicate.right

-- the same of a pass, whose labels aren't looked at
abbrev pub IsKnownPass : List (List ℕ) → RawPass → Type 0
IsKnownPass functions (Inject anchor predicate) = IsKnownPredicate functions predicate
IsKnownPass functions Constprop = ⊤
IsKnownPass functions Unreachable = ⊤
IsKnownPass functions (Inline call start) = ⊤
IsKnownPass functions (Move anchor) = ⊤
IsKnownPass functions (Hoist from to predicate) = IsKnownPredicate functions predicate
IsKnownPass functions (Compose anchor) = ⊤
IsKnownPass functions Prune = ⊤

-- the same of a job of the plan: its function, and what its passes name
abbrev pub IsKnownJob : List (List ℕ) → RawPlanJob → Type 0
IsKnownJob functions job = IsAmong functions job.function × AllByRecursion (IsKnownPass functions) job.passes
