-- What is found of a continuation, by what is found of its target.
use Rattle.std.proofs.Common.{◌≡◌, ℕ, Bool, true, false, ◌&&◌, List, [], Option, None, Some, length, refl, sym, ap, ◌∙◌}
use Rattle.std.specs.Prelude.{if◌then◌else◌}
use Rattle.sour_syntax.specs.declared.literal.VarId.{VarId}
use Rattle.sour_syntax.specs.declared.program.Function.{Function}
use Rattle.sour_syntax.specs.BodyView.{BodyView}
use Rattle.sour_syntax.specs.Exits.{Continuation, bound_names}
use Rattle.sour_syntax.specs.Scopes.{Scope}
use Rattle.sour_syntax.specs.Taking.{same_scope, scope_names}
use Rattle.sour_syntax.specs.Targets.{named_body, scope_of_names}
use Rattle.sour_syntax.proofs.ScopeTests.{same_scope-Decides}
use Rattle.sour_checked.specs.Fault.{Fault, nameless, unknown, map_differs}
use Rattle.sour_checked.specs.Landing.{has_result, scope_without, fits, fit_fault}
use Rattle.sour_scope.specs.Landings.{names_of, label_scope, IsReached, target_fault, continuation_fault}
use Rattle.sour_scope.proofs.MaskLaws.{scope_of-members}

-- two tests of which one fails
one_fails : (first second : Bool) → (first ≡ true → second ≡ true → ⊥) → (first && second) ≡ false
one_fails true true not = absurd (not refl refl)
one_fails true false not = refl
one_fails false second not = refl

module _ (functions : List Function) (line : ℕ) (continuation : Continuation) (body : BodyView)
    (found : named_body functions [] continuation.target.code ≡ Some body) where
  -- the fault by the scope of the label there
  abbrev by_scope : Option Scope → Option Fault
  by_scope scope =
      fit_fault line body.variables continuation.waits (names_of body.variables (bound_names continuation.binds))
      (scope_of_names (length body.variables) (bound_names continuation.binds)) scope

  is_by_scope : (scope : Option Scope) → label_scope body continuation.target.label ≡ scope
      → continuation_fault functions line continuation ≡ by_scope scope
  is_by_scope scope at = ap (target_fault line continuation) found ∙ ap by_scope at

  -- the label has no scope
  pub without_scope : label_scope body continuation.target.label ≡ None
      → continuation_fault functions line continuation ≡ Some (nameless unknown line)
  without_scope none = is_by_scope None none

  -- the label has a scope, in which these variables are
  module _ (variables : List VarId) (reached : IsReached body (label_scope body continuation.target.label) variables)
      (count : ℕ) (counted : count ≡ length body.variables) (mapped whole wanted : Scope)
      (mapped_is : mapped ≡ scope_of_names count (bound_names continuation.binds))
      (whole_is : whole ≡ scope_of_names count variables)
      (wanted_is : wanted ≡ scope_without continuation.waits whole) where
    -- the scope
    scope_is : whole ≡ reached.scope
    scope_is =
        whole_is ∙ ap (λ n. scope_of_names n variables) counted
        ∙ ap (scope_of_names (length body.variables)) reached.are
        ∙ scope_of-members (length body.variables) reached.scope reached.long

    -- the scope that the map must have
    without_is : wanted ≡ scope_without continuation.waits reached.scope
    without_is = wanted_is ∙ ap (scope_without continuation.waits) scope_is

    -- the fault of a map that doesn't fit
    abbrev differing : Scope → Fault
    differing scope = record {
      kind = map_differs;
      line = line;
      first = scope_names body.variables scope;
      second = names_of body.variables (bound_names continuation.binds);
    }

    -- what is found, by the test whether the map fits
    by_test : (test : Bool) → (has_result continuation.waits whole && same_scope mapped wanted) ≡ test
        → continuation_fault functions line continuation ≡ (if test then None else Some (differing wanted))
    by_test test is =
        let tested : Bool → Scope → Option Fault = λ t scope. if t then None else Some (differing scope) in
        let same : scope_of_names (length body.variables) (bound_names continuation.binds) ≡ mapped =
        sym (mapped_is ∙ ap (λ n. scope_of_names n (bound_names continuation.binds)) counted) in
        let test_is : fits continuation.waits (scope_of_names (length body.variables) (bound_names continuation.binds)) reached.scope ≡ test =
        ap (λ (scope : Scope). fits continuation.waits scope reached.scope) same
        ∙ ap (λ (scope : Scope). has_result continuation.waits scope && same_scope mapped (scope_without continuation.waits reached.scope)) (sym scope_is)
        ∙ ap (λ (scope : Scope). has_result continuation.waits whole && same_scope mapped scope) (sym without_is) ∙ is in
        is_by_scope (Some reached.scope) reached.is
        ∙ ap (λ t. tested t (scope_without continuation.waits reached.scope)) test_is ∙ ap (tested test) (sym without_is)

    -- the map fits
    pub where_fits : has_result continuation.waits whole ≡ true → mapped ≡ wanted
        → continuation_fault functions line continuation ≡ None
    where_fits has same =
        by_test true (ap (λ (t : Bool). t && same_scope mapped wanted) has ∙ (same_scope-Decides mapped wanted).1 same)

    -- it doesn't
    pub where_differs : (first second : List (List ℕ)) → first ≡ scope_names body.variables wanted
        → second ≡ names_of body.variables (bound_names continuation.binds)
        → (has_result continuation.waits whole ≡ true → mapped ≡ wanted → ⊥)
        → continuation_fault functions line continuation
        ≡ Some (record { kind = map_differs; line = line; first = first; second = second })
    where_differs first second first_is second_is not =
        let made : List (List ℕ) → List (List ℕ) → Option Fault =
        λ a b. Some (record { kind = map_differs; line = line; first = a; second = b }) in
        by_test false (one_fails _ _ (λ has same. not has ((same_scope-Decides mapped wanted).0 same)))
        ∙ ap (λ a. made a (names_of body.variables (bound_names continuation.binds))) (sym first_is)
        ∙ ap (made first) (sym second_is)
