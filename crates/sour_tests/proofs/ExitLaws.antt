-- The exits of the tests.
use Rattle.std.proofs.Common.{◌≡◌, ℕ, zero, suc, ◌<◌, List, [], ◌∷◌, true, Option, None, Some, length, Contains, refl, sym, ◌∙◌, subst, eqb-true, arith}
use Rattle.std.specs.Prelude.{IsTrue, nat_eq, slice_get, IfSome}
use Rattle.std.specs.List.{AllByRecursion}
use Rattle.sour_syntax.specs.declared.exit.Exit.{Exit}
use Rattle.sour_syntax.specs.declared.expression.Expr.{Expr}
use Rattle.sour_syntax.specs.declared.literal.VarId.{VarId}
use Rattle.sour_syntax.specs.declared.program.Function.{Function}
use Rattle.sour_syntax.specs.BodyView.{BodyView}
use Rattle.sour_syntax.specs.Exits.{continuations, exit_values}
use Rattle.sour_syntax.specs.Labels.{labels_of, IsPlaceOf}
use Rattle.sour_syntax.specs.Scopes.{Scope, IsInScope, variables_of_expr, variables_of_each}
use Rattle.sour_syntax.specs.Targets.{named_body, IsNamed}
use Rattle.sour_syntax.proofs.Everywhere.{AllByRecursion-append, Contains-slice_get}
use Rattle.sour_tests.specs.MainExits.{main_start}
use Rattle.sour_tests.specs.MainExits.{main_target, main_exit, HasStart, IsOfTwo}

-- a body that has the line
pub HasStart-body : (functions : List Function) (body : BodyView) (start : List ℕ) (place count : ℕ) → Some body ≡ named_body functions [] main_target.code → start ≡ main_start → IsPlaceOf body.lines start place
    → count ≡ length body.variables → IsTrue (nat_eq count 2) → HasStart functions
HasStart-body functions body start place count found is at counts two =
    let In : List ℕ → Type 0 = λ label. Contains (labels_of body.lines) label in
    record {
      body = body;
      found = sym found;
      label = subst In is (Contains-slice_get (labels_of body.lines) place start at);
      variables = sym counts ∙ eqb-true count 2 two;
    }

-- a frame made at that line, where one of both variables gets a value and one may wait, names what is there
named_there : (functions : List Function) (start : HasStart functions) (x : VarId) (value : Expr) (waits : Option ℕ) → x.0 < 2 → IfSome waits (λ x. x < 2)
    → IsNamed functions [] (record { target = main_target; binds = record { name = x; value = value } ∷ []; waits = waits })
named_there functions start x value waits within result =
    let Within : ℕ → Type 0 = λ count. IfSome waits (λ x. x < count) in
    record {
      body = start.body;
      found = start.found;
      label = start.label;
      names = (omega (arith, start.variables), tt {0});
      differ = (tt {0}, tt {0});
      result = subst Within (sym start.variables) result;
    }

-- the exit names what is there
pub named-main_exit : (functions : List Function) (start : HasStart functions) (first second third : Expr) → AllByRecursion (IsNamed functions []) (continuations (main_exit first second third))
named-main_exit functions start first second third = (
  named_there functions start (record { 0 = 1 }) first None (omega arith) (tt {0}),
  (
    named_there functions start (record { 0 = 1 }) second (Some 0) (omega arith) (omega arith),
    (named_there functions start (record { 0 = 0 }) third (Some 1) (omega arith) (omega arith), tt {0}),
  ),
)

-- each of two variables is in the scope that has both
in_scope : (x : ℕ) → x < 2 → slice_get (true ∷ true ∷ []) x ≡ Some true
in_scope zero within = refl
in_scope (suc zero) within = refl
in_scope (suc (suc x)) within = absurd (omega arith)

-- and so is each of a list of such variables
all_in_scope : (xs : List VarId) → AllByRecursion (λ x. x.0 < 2) xs → AllByRecursion (IsInScope (true ∷ true ∷ [])) xs
all_in_scope [] all = tt {0}
all_in_scope (x ∷ xs) all = (in_scope x.0 all.0, all_in_scope xs all.1)

-- where both variables have values, so have those of the exit
pub values-main_exit : (scope : Scope) (first second third : Expr) → scope ≡ true ∷ true ∷ [] → IsOfTwo first → IsOfTwo second → IsOfTwo third
    → AllByRecursion (IsInScope scope) (variables_of_each (exit_values (main_exit first second third)))
values-main_exit scope first second third is one two three =
    let P : VarId → Type 0 = λ x. x.0 < 2 in
    let own : List VarId = variables_of_each (exit_values (main_exit first second third)) in
    let all : AllByRecursion P own =
    AllByRecursion-append P (variables_of_expr first) _ one (AllByRecursion-append P (variables_of_expr second) _ two (AllByRecursion-append P (variables_of_expr third) [] three (tt {0}))) in
    let Each : Scope → Type 0 = λ scope. AllByRecursion (IsInScope scope) own in
    subst Each (sym is) (all_in_scope own all)

-- the same of an exit that is this one
pub named-exit : (functions : List Function) (start : HasStart functions) (exit : Exit) (first second third : Expr) → exit ≡ main_exit first second third → AllByRecursion (IsNamed functions []) (continuations exit)
named-exit functions start exit first second third is =
    let Named : Exit → Type 0 = λ exit. AllByRecursion (IsNamed functions []) (continuations exit) in
    subst Named (sym is) (named-main_exit functions start first second third)

-- and where both variables have values, so have those of an exit that is this one
pub values-exit : (scope : Scope) (exit : Exit) (first second third : Expr) → exit ≡ main_exit first second third → scope ≡ true ∷ true ∷ [] → IsOfTwo first → IsOfTwo second → IsOfTwo third
    → AllByRecursion (IsInScope scope) (variables_of_each (exit_values exit))
values-exit scope exit first second third is both one two three =
    let Has : Exit → Type 0 = λ exit. AllByRecursion (IsInScope scope) (variables_of_each (exit_values exit)) in
    subst Has (sym is) (values-main_exit scope first second third both one two three)
