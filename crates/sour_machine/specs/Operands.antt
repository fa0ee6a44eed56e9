-- What is made of the values of operands and of several expressions.
use Rattle.std.specs.Prelude.{Bool, List, Some, Result, Ok, Err, map}
use Rattle.sour_syntax.specs.declared.literal.Value.{Value}
use Rattle.sour_syntax.specs.declared.trap.Trap.{Trap}
use Rattle.sour_semantics.specs.State.{Environment}
use Rattle.sour_semantics.specs.Evaluation.{truth}

-- what an operator gives on two truth values, if there are two
abbrev pub with_truths : (Bool → Bool → Bool) → Result (Bool × Bool) Trap → Result Value Trap
with_truths f (Ok both) = truth (f both.0 both.1)
with_truths f (Err trap) = Err trap

-- a row that has the values of some expressions, or their first trap
abbrev pub row_of : Result (List Value) Trap → Result Environment Trap
row_of (Ok values) = Ok (map Some values)
row_of (Err trap) = Err trap
