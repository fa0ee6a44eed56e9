-- How a pass carries an instruction over: each part of it is mapped.
use Rattle.std.specs.Prelude.{ℕ, List, map}
use Rattle.sour_syntax.specs.declared.literal.VarId.{VarId}
use Rattle.sour_syntax.specs.declared.expression.Simple.{Simple}
use Rattle.sour_syntax.specs.declared.expression.Simple.TheVariants as simple
use Rattle.sour_syntax.specs.declared.expression.Expr.{Expr}
use Rattle.sour_syntax.specs.declared.expression.Expr.TheVariants as expr
use Rattle.sour_syntax.specs.declared.exit.Code.{Code}
use Rattle.sour_syntax.specs.declared.exit.Target.{Target}
use Rattle.sour_syntax.specs.declared.exit.Bind.{Bind}
use Rattle.sour_syntax.specs.declared.exit.Extra.{Extra}
use Rattle.sour_syntax.specs.declared.exit.Exit.{Exit}
use Rattle.sour_syntax.specs.declared.instruction.Instr.{Instr}
use Rattle.sour_syntax.specs.declared.instruction.Instr.TheVariants.{Var, Drop, Assign, ArrayLength, ArrayList, Store, Print, Read, Branch, Goto, Call, Return, Stop, Assume}
use Rattle.sour_syntax.specs.Exits.{Continuation}

-- a variable gives way to an operand, and a literal stays
abbrev pub mapped_simple : (VarId → Simple) → Simple → Simple
mapped_simple operands (simple.Lit literal) = simple.Lit literal
mapped_simple operands (simple.Var x) = operands x

-- the operands of an expression are mapped; an array of which a cell is read stays a variable
abbrev pub mapped_expr : (VarId → VarId) → (Simple → Simple) → Expr → Expr
mapped_expr variables operands (expr.Plain a) = expr.Plain (operands a)
mapped_expr variables operands (expr.Cell x index) = expr.Cell (variables x) (operands index)
mapped_expr variables operands (expr.Length a) = expr.Length (operands a)
mapped_expr variables operands (expr.Not a) = expr.Not (operands a)
mapped_expr variables operands (expr.Binary operator a b) = expr.Binary operator (operands a) (operands b)

-- a label of a target belongs to the target's body, and stays
abbrev pub mapped_target : (Code → Code) → Target → Target
mapped_target codes target = record { code = codes target.code; label = target.label }

-- so does the name of a variable of the target
abbrev pub mapped_bind : (Expr → Expr) → Bind → Bind
mapped_bind values bind = record { name = bind.name; value = values bind.value }

-- a further frame of an exit, and all of them
abbrev pub mapped_extra : (Code → Code) → (Expr → Expr) → Extra → Extra
mapped_extra codes values extra = record {
  target = mapped_target codes extra.target;
  result = extra.result;
  map = map (mapped_bind values) extra.map;
}

abbrev pub mapped_exit : (Code → Code) → (Expr → Expr) → Exit → Exit
mapped_exit codes values exit = record {
  target = mapped_target codes exit.target;
  map = map (mapped_bind values) exit.map;
  extras = map (mapped_extra codes values) exit.extras;
}

-- a frame that an exit makes
abbrev pub mapped_continuation : (Code → Code) → (Expr → Expr) → Continuation → Continuation
mapped_continuation codes values continuation = record {
  target = mapped_target codes continuation.target;
  binds = map (mapped_bind values) continuation.binds;
  waits = continuation.waits;
}

-- what becomes of each part of an instruction
pub record Mapping : Type 0 where
  -- the labels to which it jumps
  pub labels : List ℕ → List ℕ
  -- a variable that is declared, dropped, assigned or read into, that waits for a result, or whose array is written
  pub variables : VarId → VarId
  -- the index of a cell that is written, and the function that is called
  pub operands : Simple → Simple
  -- an expression that is evaluated, and several: the elements of an array, or arguments
  pub values : Expr → Expr
  pub each : List Expr → List Expr
  -- the predicates of an assume, and its exit
  pub predicates : List Expr → List Expr
  pub exits : Exit → Exit

-- each part stays
abbrev pub same : Mapping
same = record {
  labels = λ label. label;
  variables = λ x. x;
  operands = λ a. a;
  values = λ e. e;
  each = λ es. es;
  predicates = λ es. es;
  exits = λ exit. exit;
}

-- first the one mapping, then the other
abbrev pub both : Mapping → Mapping → Mapping
both first second = record {
  labels = λ label. second.labels (first.labels label);
  variables = λ x. second.variables (first.variables x);
  operands = λ a. second.operands (first.operands a);
  values = λ e. second.values (first.values e);
  each = λ es. second.each (first.each es);
  predicates = λ es. second.predicates (first.predicates es);
  exits = λ exit. second.exits (first.exits exit);
}

-- an instruction with its parts mapped
abbrev pub mapped : Mapping → Instr → Instr
mapped by (Var x e) = Var (by.variables x) (by.values e)
mapped by (Drop x) = Drop (by.variables x)
mapped by (Assign x e) = Assign (by.variables x) (by.values e)
mapped by (ArrayLength x e) = ArrayLength (by.variables x) (by.values e)
mapped by (ArrayList x es) = ArrayList (by.variables x) (by.each es)
mapped by (Store x index e) = Store (by.variables x) (by.operands index) (by.values e)
mapped by (Print e) = Print (by.values e)
mapped by (Read x) = Read (by.variables x)
mapped by (Branch e a b) = Branch (by.values e) (by.labels a) (by.labels b)
mapped by (Goto a) = Goto (by.labels a)
mapped by (Call x callee es) = Call (by.variables x) (by.operands callee) (by.each es)
mapped by (Return e) = Return (by.values e)
mapped by Stop = Stop
mapped by (Assume es exit) = Assume (by.predicates es) (by.exits exit)
