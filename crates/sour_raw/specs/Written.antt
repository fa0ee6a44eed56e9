-- What follows for a raw job that some text reads as: it is made of names, labels, paths, and numbers of 64 bits.
use Rattle.std.specs.Prelude.{◌≡◌, ◌⊎◌, ℕ, List, [], ◌∷◌, Option, None, Some, FitsSigned, ⊤}
use Rattle.std.specs.List.{AllByRecursion}
use Rattle.std.specs.Int.{w64}
use Rattle.sour_tokens.specs.Token.{IsDigits}
use Rattle.sour_syntax.specs.Name.{IsName}
use Rattle.sour_raw.specs.declared.raw.RawLiteral.{RawLiteral}
use Rattle.sour_raw.specs.declared.raw.RawLiteral.TheVariants.{Number, Truth, Nil, Function}
use Rattle.sour_raw.specs.declared.raw.RawSimple.{RawSimple}
use Rattle.sour_raw.specs.declared.raw.RawSimple.TheVariants as operand
use Rattle.sour_raw.specs.declared.raw.RawExpr.{RawExpr}
use Rattle.sour_raw.specs.declared.raw.RawExpr.TheVariants.{Plain, Cell, Length, Not, Binary}
use Rattle.sour_raw.specs.declared.raw.RawPlace.{RawPlace}
use Rattle.sour_raw.specs.declared.raw.RawBind.{RawBind}
use Rattle.sour_raw.specs.declared.raw.RawExtra.{RawExtra}
use Rattle.sour_raw.specs.declared.raw.RawExit.{RawExit}
use Rattle.sour_raw.specs.declared.raw.RawInstr.{RawInstr}
use Rattle.sour_raw.specs.declared.raw.RawInstr.TheVariants.{Var, Drop, Assign, ArrayLength, ArrayList, Store, Print, Read, Branch, Goto, Call, Return, Stop, Assume}
use Rattle.sour_raw.specs.declared.raw.RawLine.{RawLine}
use Rattle.sour_raw.specs.declared.raw.RawVersion.{RawVersion}
use Rattle.sour_raw.specs.declared.raw.RawFunction.{RawFunction}
use Rattle.sour_raw.specs.declared.raw.RawInput.{RawInput}
use Rattle.sour_raw.specs.declared.raw.RawPlanSimple.{RawPlanSimple}
use Rattle.sour_raw.specs.declared.raw.RawPlanSimple.TheVariants as side
use Rattle.sour_raw.specs.declared.raw.RawPredicate.{RawPredicate}
use Rattle.sour_raw.specs.declared.raw.RawPass.{RawPass}
use Rattle.sour_raw.specs.declared.raw.RawPass.TheVariants.{Inject, Constprop, Unreachable, Inline, Move, Hoist, Compose, Prune}
use Rattle.sour_raw.specs.declared.raw.RawPlanJob.{RawPlanJob}
use Rattle.sour_raw.specs.declared.raw.RawJob.{RawJob}
use Rattle.sour_raw.specs.Spelling.{after_all}
use Rattle.sour_raw.specs.Grammar.{with_part}

-- a decimal number without leading zeros
abbrev pub IsDecimal : List ℕ → Type 0
IsDecimal [] = ⊥
IsDecimal (digit ∷ []) = IsDigits (digit ∷ [])
IsDecimal (digit ∷ other ∷ digits) = ¬ (digit ≡ 48) × IsDigits (digit ∷ other ∷ digits)

-- `_` and a decimal number
abbrev pub IsAutomaticLabel : List ℕ → Type 0
IsAutomaticLabel bytes = (digits : List ℕ) × (bytes ≡ 95 ∷ digits) × IsDecimal digits

-- a label where an instruction goes to it: a name, or one that no text gives
abbrev pub IsLabel : List ℕ → Type 0
IsLabel bytes = IsName bytes ⊎ IsAutomaticLabel bytes

-- a label, and then labels and digits, with `/` between them
pub record IsPath (bytes : List ℕ) : Type 0 where
  pub first : List ℕ
  pub parts : List (List ℕ)
  pub whole : bytes ≡ after_all with_part first parts
  pub label : IsLabel first
  pub each : AllByRecursion (λ part. IsLabel part ⊎ IsDigits part) parts

-- its number fits 64 bits, or its function is a name
abbrev pub IsWrittenLiteral : RawLiteral → Type 0
IsWrittenLiteral (Number n) = FitsSigned w64 n
IsWrittenLiteral (Truth b) = ⊤
IsWrittenLiteral Nil = ⊤
IsWrittenLiteral (Function f) = IsName f

-- the same of an operand, whose variable is a name
abbrev pub IsWrittenSimple : RawSimple → Type 0
IsWrittenSimple (operand.Lit a) = IsWrittenLiteral a
IsWrittenSimple (operand.Name x) = IsName x

-- the same of an expression
abbrev pub IsWrittenExpr : RawExpr → Type 0
IsWrittenExpr (Plain a) = IsWrittenSimple a
IsWrittenExpr (Cell x index) = IsName x × IsWrittenSimple index
IsWrittenExpr (Length a) = IsWrittenSimple a
IsWrittenExpr (Not a) = IsWrittenSimple a
IsWrittenExpr (Binary op a b) = IsWrittenSimple a × IsWrittenSimple b

-- the same of expressions
abbrev pub AreWrittenExprs : List RawExpr → Type 0
AreWrittenExprs es = AllByRecursion IsWrittenExpr es

-- a function, a version and a label
pub record IsWrittenPlace (place : RawPlace) : Type 0 where
  pub function : IsName place.function
  pub version : IsName place.version
  pub label : IsLabel place.label

-- each name of a map is one, and each value is written so
abbrev pub IsWrittenMap : List RawBind → Type 0
IsWrittenMap binds = AllByRecursion (λ (bind : RawBind). IsName bind.name × IsWrittenExpr bind.value) binds

-- the same of a further continuation
pub record IsWrittenExtra (extra : RawExtra) : Type 0 where
  pub target : IsWrittenPlace extra.target
  pub result : IsName extra.result
  pub map : IsWrittenMap extra.map

-- the same of an exit
pub record IsWrittenExit (exit : RawExit) : Type 0 where
  pub target : IsWrittenPlace exit.target
  pub map : IsWrittenMap exit.map
  pub extras : AllByRecursion IsWrittenExtra exit.extras

-- the same of an instruction
abbrev pub IsWrittenInstr : RawInstr → Type 0
IsWrittenInstr (Var x e) = IsName x × IsWrittenExpr e
IsWrittenInstr (Drop x) = IsName x
IsWrittenInstr (Assign x e) = IsName x × IsWrittenExpr e
IsWrittenInstr (ArrayLength x e) = IsName x × IsWrittenExpr e
IsWrittenInstr (ArrayList x es) = IsName x × AreWrittenExprs es
IsWrittenInstr (Store x index e) = IsName x × IsWrittenSimple index × IsWrittenExpr e
IsWrittenInstr (Branch e a b) = IsWrittenExpr e × IsLabel a × IsLabel b
IsWrittenInstr (Goto a) = IsLabel a
IsWrittenInstr (Print e) = IsWrittenExpr e
IsWrittenInstr (Read x) = IsName x
IsWrittenInstr (Call x callee es) = IsName x × IsWrittenSimple callee × AreWrittenExprs es
IsWrittenInstr (Return e) = IsWrittenExpr e
IsWrittenInstr Stop = ⊤
IsWrittenInstr (Assume es exit) = AreWrittenExprs es × IsWrittenExit exit

-- a label that is written before an instruction is a name
abbrev pub IsWrittenLabel : Option (List ℕ) → Type 0
IsWrittenLabel None = ⊤
IsWrittenLabel (Some label) = IsName label

-- the same of a line
pub record IsWrittenLine (line : RawLine) : Type 0 where
  pub label : IsWrittenLabel line.label
  pub instr : IsWrittenInstr line.instr

-- the same of a version
pub record IsWrittenVersion (version : RawVersion) : Type 0 where
  pub name : IsName version.name
  pub lines : AllByRecursion IsWrittenLine version.lines

-- the same of a function, which has a version
pub record IsWrittenFunction (function : RawFunction) : Type 0 where
  pub name : IsName function.name
  pub parameters : AllByRecursion IsName function.parameters
  pub some : ¬ (function.versions ≡ [])
  pub versions : AllByRecursion IsWrittenVersion function.versions

-- a side of a predicate of the plan is a literal that is written so, or a path
abbrev pub IsWrittenSide : RawPlanSimple → Type 0
IsWrittenSide (side.Lit a) = IsWrittenLiteral a
IsWrittenSide (side.Name a) = IsPath a

-- the same of both sides
abbrev pub IsWrittenPredicate : RawPredicate → Type 0
IsWrittenPredicate predicate = IsWrittenSide predicate.left × IsWrittenSide predicate.right

-- the labels of a pass are paths
abbrev pub IsWrittenPass : RawPass → Type 0
IsWrittenPass (Inject anchor predicate) = IsPath anchor × IsWrittenPredicate predicate
IsWrittenPass Constprop = ⊤
IsWrittenPass Unreachable = ⊤
IsWrittenPass (Inline call start) = IsPath call
IsWrittenPass (Move anchor) = IsPath anchor
IsWrittenPass (Hoist from to predicate) = IsPath from × IsPath to × IsWrittenPredicate predicate
IsWrittenPass (Compose anchor) = IsPath anchor
IsWrittenPass Prune = ⊤

-- the same of a job of the plan
pub record IsWrittenJob (job : RawPlanJob) : Type 0 where
  pub function : IsName job.function
  pub passes : AllByRecursion IsWrittenPass job.passes

-- the same of an input
abbrev pub IsWrittenInput : RawInput → Type 0
IsWrittenInput input = AllByRecursion IsWrittenLiteral input.values

-- the same of a whole text, which has a function
pub record IsWritten (raw : RawJob) : Type 0 where
  pub some : ¬ (raw.functions ≡ [])
  pub functions : AllByRecursion IsWrittenFunction raw.functions
  pub plan : AllByRecursion IsWrittenJob raw.plan
  pub inputs : AllByRecursion IsWrittenInput raw.inputs
