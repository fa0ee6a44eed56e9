-- The values of several expressions, as far as they are known.
use Rattle.std.proofs.Common.{◌≡◌, ℕ, List, ◌++◌, Result, Ok, Err, map, drop}
use Rattle.sour_syntax.specs.declared.expression.Expr.{Expr}
use Rattle.sour_syntax.specs.declared.literal.Value.{Value}
use Rattle.sour_syntax.specs.declared.trap.Trap.{Trap}
use Rattle.sour_semantics.specs.State.{Environment, Heap}
use Rattle.sour_semantics.specs.Evaluation.{eval_each}

-- what is made of each value, behind what was made of the values before; or the first trap
abbrev pub behind : {A : Type 0} → (Value → A) → List A → Result (List Value) Trap → Result (List A) Trap
behind make done (Ok values) = Ok (done ++ map make values)
behind make done (Err trap) = Err trap

-- what is known so far, and the values from this place on, are the whole
abbrev pub IsBehind : {A : Type 0} → (Value → A) → Environment → Heap → List Expr → Result (List A) Trap → List A → ℕ → Type 0
IsBehind make environment heap es whole done place = whole ≡ behind make done (eval_each environment heap (drop place es))
