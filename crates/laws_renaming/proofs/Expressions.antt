-- What is the same of expressions, predicates and exits whose operands or values are mapped.
use Rattle.std.proofs.Common.{◌≡◌, List, [], ◌∷◌, ◌++◌, Ok, map, refl, sym, ◌∙◌}
use Rattle.std.specs.List.{AllByRecursion}
use Rattle.std.proofs.lemmas.List.{map-append}
use Rattle.sour_syntax.specs.declared.literal.Literal.{Literal}
use Rattle.sour_syntax.specs.declared.literal.VarId.{VarId}
use Rattle.sour_syntax.specs.declared.expression.Simple.{Simple}
use Rattle.sour_syntax.specs.declared.expression.Simple.TheVariants as simple
use Rattle.sour_syntax.specs.declared.expression.Expr.{Expr}
use Rattle.sour_syntax.specs.declared.expression.Expr.TheVariants as expr
use Rattle.sour_syntax.specs.declared.exit.Bind.{Bind}
use Rattle.sour_syntax.specs.declared.exit.Code.{Code}
use Rattle.sour_syntax.specs.declared.exit.Extra.{Extra}
use Rattle.sour_syntax.specs.declared.exit.Exit.{Exit}
use Rattle.sour_syntax.specs.Exits.{continuations, extra_continuation, top_continuation, bound_names, bound_values, extras_values, exit_values}
use Rattle.sour_syntax.specs.Literals.{simple_literals, literals_of_expr, literals_of_each}
use Rattle.sour_syntax.specs.Scopes.{simple_variables, variables_of_expr, variables_of_each}
use Rattle.sour_syntax.proofs.Everywhere.{AllByRecursion-append, AllByRecursion-parts}
use Rattle.sour_semantics.specs.State.{Environment, Heap}
use Rattle.sour_semantics.specs.Evaluation.{operand, eval, eval_each, holds_each, in_front, holds_before, cell, cells_of, number_in, length_of, negated, truth_in, applied}
use Rattle.sour_semantics.specs.Shape.{IsEqualityTest, IsOperand}
use Rattle.laws_renaming.specs.Keeps.{Keeps}
use Rattle.laws_renaming.specs.Laws.{MapsExits, KeepsValues}
use Rattle.laws_renaming.specs.Mapping.{mapped_expr, mapped_bind, mapped_extra, mapped_exit, mapped_continuation}

-- what holds of each element holds of each mapped one, if each keeps it
pub all-mapped : {A B : Type 0} (P : A → Type 0) (Q : B → Type 0) (f : A → B) → ((x : A) → P x → Q (f x))
    → (xs : List A) → Keeps P Q xs (map f xs)
all-mapped P Q f keeps [] all = tt
all-mapped P Q f keeps (x ∷ xs) all = (keeps x all.0, all-mapped P Q f keeps xs all.1)

-- two parts, one after the other
pub both-parts : {A B : Type 0} (P : A → Type 0) (Q : B → Type 0) (xs ys : List A) (zs ws : List B)
    → (Keeps P Q xs zs) → (Keeps P Q ys ws)
    → Keeps P Q (xs ++ ys) (zs ++ ws)
both-parts P Q xs ys zs ws first second all =
    let parts : AllByRecursion P xs × AllByRecursion P ys = AllByRecursion-parts P xs ys all in
    AllByRecursion-append Q zs ws (first parts.0) (second parts.1)

-- what holds of the variables of operands holds of those of expressions of them
module _ (P Q : VarId → Type 0) (variables : VarId → VarId) (operands : Simple → Simple)
    (keeps : (x : VarId) → P x → Q (variables x))
    (operand_keeps : (a : Simple) → Keeps P Q (simple_variables a) (simple_variables (operands a))) where
  pub variables-mapped : (e : Expr)
      → Keeps P Q (variables_of_expr e) (variables_of_expr (mapped_expr variables operands e))
  variables-mapped (expr.Plain a) all = operand_keeps a all
  variables-mapped (expr.Cell x index) all = (keeps x all.0, operand_keeps index all.1)
  variables-mapped (expr.Length a) all = operand_keeps a all
  variables-mapped (expr.Not a) all = operand_keeps a all
  variables-mapped (expr.Binary operator a b) all =
      both-parts P Q (simple_variables a) _ _ _ (operand_keeps a) (operand_keeps b) all

-- so it does for literals
module _ (P Q : Literal → Type 0) (variables : VarId → VarId) (operands : Simple → Simple)
    (operand_keeps : (a : Simple) → Keeps P Q (simple_literals a) (simple_literals (operands a))) where
  pub literals-mapped : (e : Expr)
      → Keeps P Q (literals_of_expr e) (literals_of_expr (mapped_expr variables operands e))
  literals-mapped (expr.Plain a) all = operand_keeps a all
  literals-mapped (expr.Cell x index) all = operand_keeps index all
  literals-mapped (expr.Length a) all = operand_keeps a all
  literals-mapped (expr.Not a) all = operand_keeps a all
  literals-mapped (expr.Binary operator a b) all =
      both-parts P Q (simple_literals a) _ _ _ (operand_keeps a) (operand_keeps b) all

-- what holds of the variables of each expression holds of those of several
module _ (P Q : VarId → Type 0) (f : Expr → Expr)
    (keeps : (e : Expr) → Keeps P Q (variables_of_expr e) (variables_of_expr (f e))) where
  pub each-variables : (es : List Expr) → Keeps P Q (variables_of_each es) (variables_of_each (map f es))
  each-variables [] all = tt
  each-variables (e ∷ es) all =
      both-parts P Q (variables_of_expr e) _ _ _ (keeps e) (each-variables es) all

-- and of their literals
module _ (P Q : Literal → Type 0) (f : Expr → Expr)
    (keeps : (e : Expr) → Keeps P Q (literals_of_expr e) (literals_of_expr (f e))) where
  pub each-literals : (es : List Expr) → Keeps P Q (literals_of_each es) (literals_of_each (map f es))
  each-literals [] all = tt
  each-literals (e ∷ es) all =
      both-parts P Q (literals_of_expr e) _ _ _ (keeps e) (each-literals es) all

module _ (variables : VarId → VarId) (operands : Simple → Simple) where
  -- a test of equality stays one
  pub equality-mapped : (e : Expr) → IsEqualityTest e → IsEqualityTest (mapped_expr variables operands e)
  equality-mapped (expr.Plain a) is = is
  equality-mapped (expr.Cell x index) is = is
  equality-mapped (expr.Length a) is = is
  equality-mapped (expr.Not a) is = is
  equality-mapped (expr.Binary operator a b) is = is

  -- and an operand
  pub operand-mapped : (e : Expr) → IsOperand e → IsOperand (mapped_expr variables operands e)
  operand-mapped (expr.Plain a) is = is
  operand-mapped (expr.Cell x index) is = is
  operand-mapped (expr.Length a) is = is
  operand-mapped (expr.Not a) is = is
  operand-mapped (expr.Binary operator a b) is = is

-- where each operand has the same value, so has each expression
module _ (row other : Environment) (heap : Heap) (variables : VarId → VarId) (operands : Simple → Simple)
    (xs : (x : VarId) → operand row (simple.Var (variables x)) ≡ operand other (simple.Var x))
    (operands_same : (a : Simple) → operand row (operands a) ≡ operand other a) where
  pub eval-mapped : (e : Expr) → eval row heap (mapped_expr variables operands e) ≡ eval other heap e
  eval-mapped (expr.Plain a) = λ i. Ok (operands_same a i)
  eval-mapped (expr.Cell x index) = λ i. cell (cells_of heap (xs x i)) (number_in (operands_same index i))
  eval-mapped (expr.Length a) = λ i. length_of (cells_of heap (operands_same a i))
  eval-mapped (expr.Not a) = λ i. negated (truth_in (operands_same a i))
  eval-mapped (expr.Binary operator a b) = λ i. applied operator (operands_same a i) (operands_same b i)

-- where each expression has the same value, so have several, and predicates hold alike
module _ (row other : Environment) (heap : Heap) (f : Expr → Expr)
    (same : (e : Expr) → eval row heap (f e) ≡ eval other heap e) where
  pub eval_each-mapped : (es : List Expr) → eval_each row heap (map f es) ≡ eval_each other heap es
  eval_each-mapped [] = refl
  eval_each-mapped (e ∷ es) = λ i. in_front (same e i) (eval_each-mapped es i)

  pub holds_each-mapped : (es : List Expr) → holds_each row heap (map f es) ≡ holds_each other heap es
  holds_each-mapped [] = refl
  holds_each-mapped (e ∷ es) = λ i. holds_before (same e i) (holds_each-mapped es i)

module _ (values : Expr → Expr) where
  -- a map names the same variables
  pub names-mapped : (binds : List Bind) → bound_names (map (mapped_bind values) binds) ≡ bound_names binds
  names-mapped [] = refl
  names-mapped (bind ∷ binds) = λ i. bind.name ∷ names-mapped binds i

  -- and gives them the mapped values
  pub binds-mapped : (binds : List Bind)
      → bound_values (map (mapped_bind values) binds) ≡ map values (bound_values binds)
  binds-mapped [] = refl
  binds-mapped (bind ∷ binds) = λ i. values bind.value ∷ binds-mapped binds i

  module _ (codes : Code → Code) where
    -- so do the maps of further frames
    extras-mapped : (extras : List Extra)
        → extras_values (map (mapped_extra codes values) extras) ≡ map values (extras_values extras)
    extras-mapped [] = refl
    extras-mapped (extra ∷ extras) =
        (λ i. binds-mapped extra.map i ++ extras-mapped extras i)
        ∙ sym (map-append values (bound_values extra.map) (extras_values extras))

    -- and all maps of an exit
    pub exit-mapped : (exit : Exit) → exit_values (mapped_exit codes values exit) ≡ map values (exit_values exit)
    exit-mapped exit =
        (λ i. binds-mapped exit.map i ++ extras-mapped exit.extras i)
        ∙ sym (map-append values (bound_values exit.map) (extras_values exit.extras))

    -- the further frames that an exit may make
    extras-continued : (extras : List Extra) → map extra_continuation (map (mapped_extra codes values) extras)
        ≡ map (mapped_continuation codes values) (map extra_continuation extras)
    extras-continued [] = refl
    extras-continued (extra ∷ extras) =
        λ i. mapped_continuation codes values (extra_continuation extra) ∷ extras-continued extras i

    -- and all of its frames
    pub continuations-mapped : (exit : Exit)
        → continuations (mapped_exit codes values exit) ≡ map (mapped_continuation codes values) (continuations exit)
    continuations-mapped exit =
        λ i. mapped_continuation codes values (top_continuation exit) ∷ extras-continued exit.extras i

-- where each operand has the same value, so have expressions, one by one and several, and predicates
pub values-mapped : KeepsValues
values-mapped row other heap variables operands xs operands_same =
    let one : (e : Expr) → eval row heap (mapped_expr variables operands e) ≡ eval other heap e =
    eval-mapped row other heap variables operands xs operands_same in
    record {
      one = one;
      each = eval_each-mapped row other heap (mapped_expr variables operands) one;
      hold = holds_each-mapped row other heap (mapped_expr variables operands) one;
    }

-- the values of all maps of an exit are mapped, and the frames that it may make
pub exits-mapped : MapsExits
exits-mapped codes values exit =
    record { each = exit-mapped values codes exit; frames = continuations-mapped values codes exit }
