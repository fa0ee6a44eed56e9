-- The value of an expression is a value of the run.
use Rattle.std.proofs.Common.{◌≡◌, ◌≤◌, ◌^◌, ℕ, zero, suc, List, [], ◌∷◌, length, Bool, true, false, cond, Option, None, Some, Result, Ok, Err, refl, arith}
use Rattle.std.specs.Prelude.{ℤ, pos, negsuc, ◌+ℤ◌, ◌-ℤ◌, ◌*ℤ◌, int_div, IfOk, IfSome}
use Rattle.std.specs.List.{AllByRecursion, slice_get}
use Rattle.std.specs.Ordering.{int_eq}
use Rattle.std.proofs.lemmas.Bool.{lt-ltb}
use Rattle.sour_syntax.specs.declared.literal.Literal.{Literal}
use Rattle.sour_syntax.specs.declared.literal.Literal.TheVariants.{Number}
use Rattle.sour_syntax.specs.declared.literal.Value.{Value}
use Rattle.sour_syntax.specs.declared.literal.Value.TheVariants.{Plain, Array}
use Rattle.sour_syntax.specs.declared.expression.Op.{Op}
use Rattle.sour_syntax.specs.declared.expression.Op.TheVariants as op
use Rattle.sour_syntax.specs.declared.expression.Simple.{Simple}
use Rattle.sour_syntax.specs.declared.expression.Simple.TheVariants.{Lit, Var}
use Rattle.sour_syntax.specs.declared.expression.Expr.{Expr}
use Rattle.sour_syntax.specs.declared.expression.Expr.TheVariants as expr
use Rattle.sour_syntax.specs.declared.trap.Trap.{Trap}
use Rattle.sour_syntax.specs.declared.trap.Trap.TheVariants.{Overflow, ZeroDivisor}
use Rattle.sour_syntax.specs.Literals.{is_i64, IsLiteral, simple_literals, literals_of_expr, literals_of_each}
use Rattle.sour_syntax.specs.Program.{ProgramView}
use Rattle.sour_syntax.proofs.Everywhere.{AllByRecursion-parts, IfSome-slice_get}
use Rattle.sour_semantics.specs.State.{Environment, Heap}
use Rattle.sour_semantics.specs.Evaluation.{number_in, truth_in, cells_of, number, divided, on_numbers, on_truths, negated, applied, cell_at, within_bounds, cell, length_of, value_or_nil, operand, eval, in_front, eval_each}
use Rattle.sour_semantics.specs.Step.{count_heap, cell_limit}
use Rattle.sour_semantics.specs.Validity.{IsValue, IsKept, IsValidHeap}

-- a value of a run of this program over this heap
abbrev pub IsValueOf : ProgramView → Heap → Value → Type 0
IsValueOf program heap = IsValue (length program.functions) (length heap)

-- what is kept for a variable in such a run
abbrev pub IsKeptOf : ProgramView → Heap → Option Value → Type 0
IsKeptOf program heap = IsKept (length program.functions) (length heap)

-- a literal of this program
abbrev pub IsLiteralOf : ProgramView → Literal → Type 0
IsLiteralOf program = IsLiteral (length program.functions)

-- a value stays one when there are more arrays
pub IsValue-more : (functions few many : ℕ) → few ≤ many → (value : Value) → IsValue functions few value → IsValue functions many value
IsValue-more functions few many less (Plain literal) is = is
IsValue-more functions few many less (Array a) is = omega (arith, less, is)

-- so does what is kept for a variable
pub IsKept-more : (functions few many : ℕ) → few ≤ many → (kept : Option Value) → IsKept functions few kept → IsKept functions many kept
IsKept-more functions few many less None is = tt
IsKept-more functions few many less (Some value) is = IsValue-more functions few many less value is

-- a number that passes the test lies in i64
tested : (functions arrays : ℕ) (z : ℤ) (test : Bool) → is_i64 z ≡ test
    → IfOk (cond test (Ok (Plain (Number z))) (Err Overflow)) (IsValue functions arrays)
tested functions arrays z true is = is
tested functions arrays z false is = tt

-- a number is tested
IfOk-number : (functions arrays : ℕ) (z : ℤ) → IfOk (number z) (IsValue functions arrays)
IfOk-number functions arrays z = tested functions arrays z (is_i64 z) refl

-- a division whose divisor was tested
by_divisor : (functions arrays : ℕ) (test : Bool) (z : ℤ) → IfOk (cond test (Err ZeroDivisor) (number z)) (IsValue functions arrays)
by_divisor functions arrays true z = tt
by_divisor functions arrays false z = IfOk-number functions arrays z

-- what a division gives
IfOk-divided : (functions arrays : ℕ) (b z : ℤ) → IfOk (divided b z) (IsValue functions arrays)
IfOk-divided functions arrays b z = by_divisor functions arrays (int_eq b (pos 0)) z

-- an operation on numbers
IfOk-on_numbers : (functions arrays : ℕ) (f : ℤ → ℤ → Result Value Trap) (a b : Option ℤ)
    → ((x y : ℤ) → IfOk (f x y) (IsValue functions arrays)) → IfOk (on_numbers f a b) (IsValue functions arrays)
IfOk-on_numbers functions arrays f None b fine = tt
IfOk-on_numbers functions arrays f (Some a) None fine = tt
IfOk-on_numbers functions arrays f (Some a) (Some b) fine = fine a b

-- an operation on truth values
IfOk-on_truths : (functions arrays : ℕ) (f : Bool → Bool → Bool) (a b : Option Bool) → IfOk (on_truths f a b) (IsValue functions arrays)
IfOk-on_truths functions arrays f None b = tt
IfOk-on_truths functions arrays f (Some a) None = tt
IfOk-on_truths functions arrays f (Some a) (Some b) = tt

-- the other truth value
IfOk-negated : (functions arrays : ℕ) (a : Option Bool) → IfOk (negated a) (IsValue functions arrays)
IfOk-negated functions arrays None = tt
IfOk-negated functions arrays (Some b) = tt

-- what an operator gives, whatever the two values
IfOk-applied : (functions arrays : ℕ) (operator : Op) (a b : Value) → IfOk (applied operator a b) (IsValue functions arrays)
IfOk-applied functions arrays op.Add a b =
    IfOk-on_numbers functions arrays _ (number_in a) (number_in b) (λ x y. IfOk-number functions arrays (x +ℤ y))
IfOk-applied functions arrays op.Sub a b =
    IfOk-on_numbers functions arrays _ (number_in a) (number_in b) (λ x y. IfOk-number functions arrays (x -ℤ y))
IfOk-applied functions arrays op.Mul a b =
    IfOk-on_numbers functions arrays _ (number_in a) (number_in b) (λ x y. IfOk-number functions arrays (x *ℤ y))
IfOk-applied functions arrays op.Div a b =
    IfOk-on_numbers functions arrays _ (number_in a) (number_in b) (λ x y. IfOk-divided functions arrays y (int_div x y))
IfOk-applied functions arrays op.Rem a b =
    IfOk-on_numbers functions arrays _ (number_in a) (number_in b) (λ x y. IfOk-divided functions arrays y (x -ℤ (y *ℤ int_div x y)))
IfOk-applied functions arrays op.Eq a b = tt
IfOk-applied functions arrays op.Ne a b = tt
IfOk-applied functions arrays op.Lt a b = IfOk-on_numbers functions arrays _ (number_in a) (number_in b) (λ x y. tt)
IfOk-applied functions arrays op.Le a b = IfOk-on_numbers functions arrays _ (number_in a) (number_in b) (λ x y. tt)
IfOk-applied functions arrays op.Gt a b = IfOk-on_numbers functions arrays _ (number_in a) (number_in b) (λ x y. tt)
IfOk-applied functions arrays op.Ge a b = IfOk-on_numbers functions arrays _ (number_in a) (number_in b) (λ x y. tt)
IfOk-applied functions arrays op.And a b = IfOk-on_truths functions arrays _ (truth_in a) (truth_in b)
IfOk-applied functions arrays op.Or a b = IfOk-on_truths functions arrays _ (truth_in a) (truth_in b)

-- a cell at an index
IfSome-cell_at : (P : Value → Type 0) (cells : List Value) (index : ℤ) → AllByRecursion P cells → IfSome (cell_at cells index) P
IfSome-cell_at P cells (pos place) all = IfSome-slice_get P cells place all
IfSome-cell_at P cells (negsuc n) all = tt

-- a cell that must be there
IfOk-within_bounds : (P : Value → Type 0) (found : Option Value) → IfSome found P → IfOk (within_bounds found) P
IfOk-within_bounds P None is = tt
IfOk-within_bounds P (Some value) is = is

-- a cell of an array
IfOk-cell : (P : Value → Type 0) (cells : Option (List Value)) (index : Option ℤ) → IfSome cells (AllByRecursion P)
    → IfOk (cell cells index) P
IfOk-cell P None index all = tt
IfOk-cell P (Some cells) None all = tt
IfOk-cell P (Some cells) (Some index) all = IfOk-within_bounds P (cell_at cells index) (IfSome-cell_at P cells index all)

-- the cells of an array of the heap
IfSome-cells_of : (P : List Value → Type 0) (heap : Heap) (value : Value) → AllByRecursion P heap → IfSome (cells_of heap value) P
IfSome-cells_of P heap (Plain literal) all = tt
IfSome-cells_of P heap (Array a) all = IfSome-slice_get P heap a.0 all

-- no array has more cells than a bound on the cells of all
few_each : (heap : Heap) (limit : ℕ) → count_heap heap ≤ limit → AllByRecursion (λ (cells : List Value). length cells ≤ limit) heap
few_each [] limit within = tt
few_each (cells ∷ heap) limit within = (omega (arith, within), few_each heap limit (omega (arith, within)))

-- a length is a number of i64
IfOk-length_of : (functions arrays : ℕ) (cells : Option (List Value)) → IfSome cells (λ cells. length cells ≤ cell_limit)
    → IfOk (length_of cells) (IsValue functions arrays)
IfOk-length_of functions arrays None few = tt
IfOk-length_of functions arrays (Some cells) few = lt-ltb (length cells) (2 ^ 63) (omega (arith, few))

-- what is kept for a variable
IsValue-value_or_nil : (functions arrays : ℕ) (environment : Environment) (place : ℕ)
    → AllByRecursion (IsKept functions arrays) environment → IsValue functions arrays (value_or_nil (slice_get environment place))
IsValue-value_or_nil functions arrays [] place all = tt
IsValue-value_or_nil functions arrays (None ∷ environment) zero all = tt
IsValue-value_or_nil functions arrays (Some kept ∷ environment) zero all = all.0
IsValue-value_or_nil functions arrays (kept ∷ environment) (suc place) all =
    IsValue-value_or_nil functions arrays environment place all.1

-- the value of an operand
IsValue-operand : (functions arrays : ℕ) (environment : Environment) (a : Simple)
    → AllByRecursion (IsKept functions arrays) environment → AllByRecursion (IsLiteral functions) (simple_literals a)
    → IsValue functions arrays (operand environment a)
IsValue-operand functions arrays environment (Lit literal) all literals = literals.0
IsValue-operand functions arrays environment (Var x) all literals = IsValue-value_or_nil functions arrays environment x.0 all

-- the value of an expression
pub IfOk-eval : (program : ProgramView) (environment : Environment) (heap : Heap) (e : Expr) → IsValidHeap program heap
    → AllByRecursion (IsKeptOf program heap) environment → AllByRecursion (IsLiteralOf program) (literals_of_expr e)
    → IfOk (eval environment heap e) (IsValueOf program heap)
IfOk-eval program environment heap (expr.Plain a) valid all literals =
    IsValue-operand (length program.functions) (length heap) environment a all literals
IfOk-eval program environment heap (expr.Cell x index) valid all literals =
    IfOk-cell (IsValueOf program heap) (cells_of heap (operand environment (Var x))) (number_in (operand environment index))
    (IfSome-cells_of (AllByRecursion (IsValueOf program heap)) heap (operand environment (Var x)) valid.values)
IfOk-eval program environment heap (expr.Length a) valid all literals =
    IfOk-length_of (length program.functions) (length heap) (cells_of heap (operand environment a))
    (IfSome-cells_of (λ cells. length cells ≤ cell_limit) heap (operand environment a) (few_each heap cell_limit valid.cells))
IfOk-eval program environment heap (expr.Not a) valid all literals =
    IfOk-negated (length program.functions) (length heap) (truth_in (operand environment a))
IfOk-eval program environment heap (expr.Binary operator a b) valid all literals =
    IfOk-applied (length program.functions) (length heap) operator (operand environment a) (operand environment b)

-- what holds of what was evaluated as the one and as the other holds as both
pub IfOk-both : {A : Type 0} (P Q : A → Type 0) (r : Result A Trap) → IfOk r P → IfOk r Q → IfOk r (λ (x : A). P x × Q x)
IfOk-both P Q (Ok x) p q = (p, q)
IfOk-both P Q (Err trap) p q = tt

-- nothing is asked of what was evaluated
pub IfOk-any : {A : Type 0} (r : Result A Trap) → IfOk r (λ (x : A). Unit {0})
IfOk-any (Ok x) = tt
IfOk-any (Err trap) = tt

-- what comes in front of others, by what holds of the one, of the others and of all
pub IfOk-in_front : {A : Type 0} (P : A → Type 0) (Q R : List A → Type 0) (first : Result A Trap) (others : Result (List A) Trap)
    → ((x : A) (xs : List A) → P x → Q xs → R (x ∷ xs)) → IfOk first P → IfOk others Q → IfOk (in_front first others) R
IfOk-in_front P Q R (Err trap) others join p q = tt
IfOk-in_front P Q R (Ok x) (Err trap) join p q = tt
IfOk-in_front P Q R (Ok x) (Ok xs) join p q = join x xs p q

-- the values of some expressions
pub IfOk-eval_each : (program : ProgramView) (environment : Environment) (heap : Heap) (es : List Expr) → IsValidHeap program heap
    → AllByRecursion (IsKeptOf program heap) environment → AllByRecursion (IsLiteralOf program) (literals_of_each es)
    → IfOk (eval_each environment heap es) (AllByRecursion (IsValueOf program heap))
IfOk-eval_each program environment heap [] valid all literals = tt
IfOk-eval_each program environment heap (e ∷ es) valid all literals =
    let parts = AllByRecursion-parts (IsLiteralOf program) (literals_of_expr e) (literals_of_each es) literals in
    IfOk-in_front (IsValueOf program heap) (AllByRecursion (IsValueOf program heap)) (AllByRecursion (IsValueOf program heap))
    (eval environment heap e) (eval_each environment heap es) (λ value values is are. (is, are))
    (IfOk-eval program environment heap e valid all parts.0) (IfOk-eval_each program environment heap es valid all parts.1)
