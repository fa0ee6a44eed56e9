-- The value of an expression. Numbers are whole numbers here: nothing wraps.
use Rattle.std.specs.Prelude.{ℤ, pos, negsuc, ◌+ℤ◌, ◌-ℤ◌, ◌*ℤ◌, Bool, true, false, not, ◌&&◌, ◌||◌, List, [], ◌∷◌, Option, None, Some, Result, Ok, Err, length, nat_eq, int_lt, int_le, int_div, slice_get, if◌then◌else◌}
use Rattle.std.specs.Ordering.{int_eq}
use Rattle.sour_syntax.specs.declared.literal.FunId.{FunId}
use Rattle.sour_syntax.specs.declared.literal.Literal.{Literal}
use Rattle.sour_syntax.specs.declared.literal.Literal.TheVariants.{Number, Truth, Nil, Function}
use Rattle.sour_syntax.specs.declared.literal.Value.{Value}
use Rattle.sour_syntax.specs.declared.literal.Value.TheVariants.{Plain, Array}
use Rattle.sour_syntax.specs.declared.expression.Op.{Op}
use Rattle.sour_syntax.specs.declared.expression.Op.TheVariants as op
use Rattle.sour_syntax.specs.declared.expression.Simple.{Simple}
use Rattle.sour_syntax.specs.declared.expression.Simple.TheVariants.{Lit, Var}
use Rattle.sour_syntax.specs.declared.expression.Expr.{Expr}
use Rattle.sour_syntax.specs.declared.expression.Expr.TheVariants as expr
use Rattle.sour_syntax.specs.declared.trap.Trap.{Trap}
use Rattle.sour_syntax.specs.declared.trap.Trap.TheVariants.{BadType, Overflow, ZeroDivisor, Bounds}
use Rattle.sour_syntax.specs.Literals.{is_i64}
use Rattle.sour_semantics.specs.State.{Environment, Heap}

-- the number that a value is, if it is one
abbrev pub number_in : Value → Option ℤ
number_in (Plain (Number n)) = Some n
number_in (Plain (Truth b)) = None
number_in (Plain Nil) = None
number_in (Plain (Function f)) = None
number_in (Array a) = None

-- the truth value that a value is, if it is one
abbrev pub truth_in : Value → Option Bool
truth_in (Plain (Number n)) = None
truth_in (Plain (Truth b)) = Some b
truth_in (Plain Nil) = None
truth_in (Plain (Function f)) = None
truth_in (Array a) = None

-- the function to which a value refers, if it refers to one
abbrev pub function_in : Value → Option FunId
function_in (Plain (Number n)) = None
function_in (Plain (Truth b)) = None
function_in (Plain Nil) = None
function_in (Plain (Function f)) = Some f
function_in (Array a) = None

-- the cells of the array to which a value refers, if it refers to one
abbrev pub cells_of : Heap → Value → Option (List Value)
cells_of heap (Plain literal) = None
cells_of heap (Array a) = slice_get heap a.0

-- a truth value
abbrev pub truth : Bool → Result Value Trap
truth b = Ok (Plain (Truth b))

-- a number that must lie in i64
abbrev pub number : ℤ → Result Value Trap
number z = if is_i64 z then Ok (Plain (Number z)) else Err Overflow

-- by a divisor that isn't 0
abbrev pub divided : ℤ → ℤ → Result Value Trap
divided b z = if int_eq b (pos 0) then Err ZeroDivisor else number z

-- same kind and same content; functions are the same by their number
abbrev pub is_same_literal : Literal → Literal → Bool
is_same_literal (Number a) (Number b) = int_eq a b
is_same_literal (Number a) (Truth b) = false
is_same_literal (Number a) Nil = false
is_same_literal (Number a) (Function b) = false
is_same_literal (Truth a) (Number b) = false
is_same_literal (Truth true) (Truth b) = b
is_same_literal (Truth false) (Truth b) = not b
is_same_literal (Truth a) Nil = false
is_same_literal (Truth a) (Function b) = false
is_same_literal Nil (Number b) = false
is_same_literal Nil (Truth b) = false
is_same_literal Nil Nil = true
is_same_literal Nil (Function b) = false
is_same_literal (Function a) (Number b) = false
is_same_literal (Function a) (Truth b) = false
is_same_literal (Function a) Nil = false
is_same_literal (Function a) (Function b) = nat_eq a.0 b.0

-- arrays are the same by reference, whatever their cells
abbrev pub is_same : Value → Value → Bool
is_same (Plain a) (Plain b) = is_same_literal a b
is_same (Plain a) (Array b) = false
is_same (Array a) (Plain b) = false
is_same (Array a) (Array b) = nat_eq a.0 b.0

-- an operation that needs two numbers
abbrev pub on_numbers : (ℤ → ℤ → Result Value Trap) → Option ℤ → Option ℤ → Result Value Trap
on_numbers f None b = Err BadType
on_numbers f (Some a) None = Err BadType
on_numbers f (Some a) (Some b) = f a b

-- an operation that needs two truth values
abbrev pub on_truths : (Bool → Bool → Bool) → Option Bool → Option Bool → Result Value Trap
on_truths f None b = Err BadType
on_truths f (Some a) None = Err BadType
on_truths f (Some a) (Some b) = truth (f a b)

-- the other truth value
abbrev pub negated : Option Bool → Result Value Trap
negated None = Err BadType
negated (Some b) = truth (not b)

-- what an operator gives on two values
abbrev pub applied : Op → Value → Value → Result Value Trap
applied op.Add a b = on_numbers (λ x y. number (x +ℤ y)) (number_in a) (number_in b)
applied op.Sub a b = on_numbers (λ x y. number (x -ℤ y)) (number_in a) (number_in b)
applied op.Mul a b = on_numbers (λ x y. number (x *ℤ y)) (number_in a) (number_in b)
applied op.Div a b = on_numbers (λ x y. divided y (int_div x y)) (number_in a) (number_in b)
applied op.Rem a b = on_numbers (λ x y. divided y (x -ℤ (y *ℤ int_div x y))) (number_in a) (number_in b)
applied op.Eq a b = truth (is_same a b)
applied op.Ne a b = truth (not (is_same a b))
applied op.Lt a b = on_numbers (λ x y. truth (int_lt x y)) (number_in a) (number_in b)
applied op.Le a b = on_numbers (λ x y. truth (int_le x y)) (number_in a) (number_in b)
applied op.Gt a b = on_numbers (λ x y. truth (int_lt y x)) (number_in a) (number_in b)
applied op.Ge a b = on_numbers (λ x y. truth (int_le y x)) (number_in a) (number_in b)
applied op.And a b = on_truths (λ x y. x && y) (truth_in a) (truth_in b)
applied op.Or a b = on_truths (λ x y. x || y) (truth_in a) (truth_in b)

-- the cell at an index that counts from 0, if there is one
abbrev pub cell_at : List Value → ℤ → Option Value
cell_at cells (pos place) = slice_get cells place
cell_at cells (negsuc n) = None

-- a cell that must be there
abbrev pub within_bounds : Option Value → Result Value Trap
within_bounds None = Err Bounds
within_bounds (Some value) = Ok value

-- the cell at an index of an array
abbrev pub cell : Option (List Value) → Option ℤ → Result Value Trap
cell None index = Err BadType
cell (Some cells) None = Err BadType
cell (Some cells) (Some index) = within_bounds (cell_at cells index)

-- how many cells an array has
abbrev pub length_of : Option (List Value) → Result Value Trap
length_of None = Err BadType
length_of (Some cells) = Ok (Plain (Number (pos (length cells))))

-- what is kept for a variable; one that has no value counts as nil
abbrev pub value_or_nil : Option (Option Value) → Value
value_or_nil None = Plain Nil
value_or_nil (Some None) = Plain Nil
value_or_nil (Some (Some kept)) = kept

-- the value of an operand
abbrev pub operand : Environment → Simple → Value
operand environment (Lit literal) = Plain literal
operand environment (Var x) = value_or_nil (slice_get environment x.0)

-- the value or the trap of an expression
abbrev pub eval : Environment → Heap → Expr → Result Value Trap
eval environment heap (expr.Plain a) = Ok (operand environment a)
eval environment heap (expr.Cell x index) =
    cell (cells_of heap (operand environment (Var x))) (number_in (operand environment index))
eval environment heap (expr.Length a) = length_of (cells_of heap (operand environment a))
eval environment heap (expr.Not a) = negated (truth_in (operand environment a))
eval environment heap (expr.Binary operator a b) = applied operator (operand environment a) (operand environment b)

-- what was made in front of others, if neither is a trap; else the first trap
abbrev pub in_front : {A : Type 0} → Result A Trap → Result (List A) Trap → Result (List A) Trap
in_front (Err trap) others = Err trap
in_front (Ok first) (Err trap) = Err trap
in_front (Ok first) (Ok others) = Ok (first ∷ others)

-- the values of some expressions from left to right, or the first trap
abbrev pub eval_each : Environment → Heap → List Expr → Result (List Value) Trap
eval_each environment heap [] = Ok []
eval_each environment heap (e ∷ es) = in_front (eval environment heap e) (eval_each environment heap es)

-- whether all hold, by the truth value of the first and what the others say; the others count only where the first is true
abbrev pub and_then : Option Bool → Result Bool Trap → Result Bool Trap
and_then None others = Err BadType
and_then (Some false) others = Ok false
and_then (Some true) others = others

-- the same, where the first may trap
abbrev pub holds_before : Result Value Trap → Result Bool Trap → Result Bool Trap
holds_before (Err trap) others = Err trap
holds_before (Ok value) others = and_then (truth_in value) others

-- whether all of some predicates hold: they are evaluated from left to right up to the first that is false or traps
abbrev pub holds_each : Environment → Heap → List Expr → Result Bool Trap
holds_each environment heap [] = Ok true
holds_each environment heap (e ∷ es) = holds_before (eval environment heap e) (holds_each environment heap es)
