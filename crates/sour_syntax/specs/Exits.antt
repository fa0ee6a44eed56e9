-- Where an instruction leaves for.
use Rattle.std.specs.Prelude.{ℕ, List, [], ◌∷◌, ◌++◌, Option, None, Some, map}
use Rattle.sour_syntax.specs.declared.literal.VarId.{VarId}
use Rattle.sour_syntax.specs.declared.expression.Expr.{Expr}
use Rattle.sour_syntax.specs.declared.exit.Target.{Target}
use Rattle.sour_syntax.specs.declared.exit.Bind.{Bind}
use Rattle.sour_syntax.specs.declared.exit.Extra.{Extra}
use Rattle.sour_syntax.specs.declared.exit.Exit.{Exit}
use Rattle.sour_syntax.specs.declared.instruction.Instr.{Instr}
use Rattle.sour_syntax.specs.declared.instruction.Instr.TheVariants.{Var, Drop, Assign, ArrayLength, ArrayList, Store, Print, Read, Branch, Goto, Call, Return, Stop, Assume}

-- a frame that an exit makes: where it stands, what its variables get, and the variable that waits for a result, if one does
pub record Continuation : Type 0 where
  pub target : Target
  pub binds : List Bind
  pub waits : Option ℕ

-- the top frame waits for nothing
abbrev pub top_continuation : Exit → Continuation
top_continuation exit = record { target = exit.target; binds = exit.map; waits = None }

-- each further frame waits for the result of the one above it
abbrev pub extra_continuation : Extra → Continuation
extra_continuation extra = record { target = extra.target; binds = extra.map; waits = Some extra.result.0 }

-- the frames that an exit makes, the top one first
abbrev pub continuations : Exit → List Continuation
continuations exit = top_continuation exit ∷ map extra_continuation exit.extras

-- the frames that an instruction may make by leaving
abbrev pub continuations_of : Instr → List Continuation
continuations_of (Var x e) = []
continuations_of (Drop x) = []
continuations_of (Assign x e) = []
continuations_of (ArrayLength x e) = []
continuations_of (ArrayList x es) = []
continuations_of (Store x index e) = []
continuations_of (Print e) = []
continuations_of (Read x) = []
continuations_of (Branch e a b) = []
continuations_of (Goto a) = []
continuations_of (Call x callee es) = []
continuations_of (Return e) = []
continuations_of Stop = []
continuations_of (Assume es exit) = continuations exit

-- the variables of the target that get values
abbrev pub bound_names : List Bind → List VarId
bound_names binds = map (λ (bind : Bind). bind.name) binds

-- the values that they get
abbrev pub bound_values : List Bind → List Expr
bound_values binds = map (λ (bind : Bind). bind.value) binds

-- the values in the maps of further frames, in order
abbrev pub extras_values : List Extra → List Expr
extras_values [] = []
extras_values (extra ∷ extras) = bound_values extra.map ++ extras_values extras

-- the values in the maps of an exit, in the order in which they are written
abbrev pub exit_values : Exit → List Expr
exit_values exit = bound_values exit.map ++ extras_values exit.extras
