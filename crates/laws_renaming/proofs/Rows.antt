-- Values over rows that have the same at some variables, and over one row after another.
use Rattle.std.proofs.Common.{◌≡◌, ◌<◌, ◌+◌, ℕ, zero, suc, List, [], ◌∷◌, ◌++◌, Ok, length, refl, ap, ◌∙◌, slice_get, slice_set, arith}
use Rattle.sour_syntax.specs.declared.expression.Simple.{Simple}
use Rattle.sour_syntax.specs.declared.expression.Simple.TheVariants as simple
use Rattle.sour_syntax.specs.declared.expression.Expr.{Expr}
use Rattle.sour_syntax.specs.declared.expression.Expr.TheVariants as expr
use Rattle.sour_syntax.specs.declared.literal.VarId.{VarId}
use Rattle.sour_syntax.specs.Scopes.{simple_variables, variables_of_expr, variables_of_each}
use Rattle.sour_syntax.proofs.Everywhere.{AllByRecursion-parts}
use Rattle.sour_semantics.specs.State.{Environment, Heap}
use Rattle.sour_semantics.specs.Evaluation.{value_or_nil, operand, eval, eval_each, holds_each, in_front, holds_before, cell, cells_of, number_in, length_of, negated, truth_in, applied}
use Rattle.laws_renaming.specs.Laws.{IsAlike, HasAlike, RowsAlike, RowsBefore, RowsBehind, ScopesBehind, Moves}
use Rattle.laws_renaming.specs.Renaming.{Renaming, renamed_simple}

-- an element of a list that another list comes after
pub get-before : {A : Type 0} (xs ys : List A) (place : ℕ) → place < length xs
    → slice_get (xs ++ ys) place ≡ slice_get xs place
get-before [] ys place less = absurd (omega (arith, less))
get-before (x ∷ xs) ys zero less = refl
get-before (x ∷ xs) ys (suc place) less = get-before xs ys place (omega (arith, less))

-- one of the list that comes after it
pub get-behind : {A : Type 0} (xs ys : List A) (place : ℕ)
    → slice_get (xs ++ ys) (length xs + place) ≡ slice_get ys place
get-behind [] ys place = ap (slice_get ys) (omega arith)
get-behind (x ∷ xs) ys place =
    let next : suc (length xs) + place ≡ suc (length xs + place) = omega arith in
    ap (slice_get (x ∷ xs ++ ys)) next ∙ get-behind xs ys place

-- the one is set
pub set-before : {A : Type 0} (xs ys : List A) (place : ℕ) (x : A) → place < length xs
    → slice_set (xs ++ ys) place x ≡ slice_set xs place x ++ ys
set-before [] ys place x less = absurd (omega (arith, less))
set-before (first ∷ xs) ys zero x less = refl
set-before (first ∷ xs) ys (suc place) x less = ap (λ zs. first ∷ zs) (set-before xs ys place x (omega (arith, less)))

-- or the other
pub set-behind : {A : Type 0} (xs ys : List A) (place : ℕ) (x : A)
    → slice_set (xs ++ ys) (length xs + place) x ≡ xs ++ slice_set ys place x
set-behind [] ys place x = ap (λ k. slice_set ys k x) (omega arith)
set-behind (first ∷ xs) ys place x =
    let next : suc (length xs) + place ≡ suc (length xs + place) = omega arith in
    ap (λ k. slice_set (first ∷ xs ++ ys) k x) next ∙ ap (λ zs. first ∷ zs) (set-behind xs ys place x)

module _ (row other : Environment) (heap : Heap) where
  -- an operand has the same value where its variables have
  operand-alike : (a : Simple) → HasAlike row other (simple_variables a) → operand row a ≡ operand other a
  operand-alike (simple.Lit literal) all = refl
  operand-alike (simple.Var x) all = all.0

  -- so has an expression
  eval-alike : (e : Expr) → HasAlike row other (variables_of_expr e) → eval row heap e ≡ eval other heap e
  eval-alike (expr.Plain a) all = λ i. Ok (operand-alike a all i)
  eval-alike (expr.Cell x index) all = λ i. cell (cells_of heap (all.0 i)) (number_in (operand-alike index all.1 i))
  eval-alike (expr.Length a) all = λ i. length_of (cells_of heap (operand-alike a all i))
  eval-alike (expr.Not a) all = λ i. negated (truth_in (operand-alike a all i))
  eval-alike (expr.Binary operator a b) all =
      let parts : HasAlike row other (simple_variables a) × HasAlike row other (simple_variables b) =
      AllByRecursion-parts (IsAlike row other) (simple_variables a) (simple_variables b) all in
      λ i. applied operator (operand-alike a parts.0 i) (operand-alike b parts.1 i)

  -- so have several expressions
  eval_each-alike : (es : List Expr) → HasAlike row other (variables_of_each es)
      → eval_each row heap es ≡ eval_each other heap es
  eval_each-alike [] all = refl
  eval_each-alike (e ∷ es) all =
      let parts : HasAlike row other (variables_of_expr e) × HasAlike row other (variables_of_each es) =
      AllByRecursion-parts (IsAlike row other) (variables_of_expr e) (variables_of_each es) all in
      λ i. in_front (eval-alike e parts.0 i) (eval_each-alike es parts.1 i)

  -- and predicates hold alike
  holds_each-alike : (es : List Expr) → HasAlike row other (variables_of_each es)
      → holds_each row heap es ≡ holds_each other heap es
  holds_each-alike [] all = refl
  holds_each-alike (e ∷ es) all =
      let parts : HasAlike row other (variables_of_expr e) × HasAlike row other (variables_of_each es) =
      AllByRecursion-parts (IsAlike row other) (variables_of_expr e) (variables_of_each es) all in
      λ i. holds_before (eval-alike e parts.0 i) (holds_each-alike es parts.1 i)

-- rows that have the same at the variables that are mentioned give the same
pub rows_alike : RowsAlike
rows_alike row other heap = record {
  operands = operand-alike row other heap;
  values = eval-alike row other heap;
  each = eval_each-alike row other heap;
  hold = holds_each-alike row other heap;
}

-- a row that comes after another changes nothing of the variables of that one
pub rows_before : RowsBefore
rows_before row more x less = record {
  alike = ap value_or_nil (get-before row more x.0 less);
  sets = λ value. set-before row more x.0 value less;
}

module _ {A : Type 0} (by : Renaming) (xs ys : List A) (moves : Moves by (length xs)) where
  -- an element behind others is found under the moved number
  get-moved : (x : VarId) → slice_get (xs ++ ys) (by.variables x).0 ≡ slice_get ys x.0
  get-moved x = ap (λ (y : VarId). slice_get (xs ++ ys) y.0) (moves x) ∙ get-behind xs ys x.0

  -- and set there
  set-moved : (x : VarId) (value : A) → slice_set (xs ++ ys) (by.variables x).0 value ≡ xs ++ slice_set ys x.0 value
  set-moved x value = ap (λ (y : VarId). slice_set (xs ++ ys) y.0 value) (moves x) ∙ set-behind xs ys x.0 value

-- the variables of a row that comes after another are moved
pub rows_behind : RowsBehind
rows_behind by row more moves =
    record { variables = one; operands = of_operand; sets = set-moved by row more moves }
  where
    one : (x : VarId) → operand (row ++ more) (simple.Var (by.variables x)) ≡ operand more (simple.Var x)
    one x = ap value_or_nil (get-moved by row more moves x)

    of_operand : (a : Simple) → operand (row ++ more) (renamed_simple by a) ≡ operand more a
    of_operand (simple.Lit literal) = refl
    of_operand (simple.Var x) = one x

-- so are those of a scope
pub scopes_behind : ScopesBehind
scopes_behind by scope more moves = record {
  within = λ x is. get-moved by scope more moves x ∙ is;
  out = λ x is. get-moved by scope more moves x ∙ is;
  sets = set-moved by scope more moves;
}
