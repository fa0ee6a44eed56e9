use Rattle.std.proofs.Common.{◌≡◌, ◌+◌, ◌++◌, ◌∷◌, [], true, false, List, Option, Some, None, ℕ, take, slice_get, refl, sym, ap, ◌∙◌}
use Rattle.std.proofs.lemmas.List.{append-nil}
use Rattle.sour_syntax.specs.Taking.{scope_names}
use Rattle.sour_syntax.proofs.ScopeLists.{name_if, name_if-false, scope_names-nil, scope_names_more}
use Rattle.sour_syntax.proofs.scope_lists.names_of.Goals as goal
use Rattle.sour_syntax.proofs.scope_lists.names_of.Goals.{in-Some+in_ok-from_slice+in_ok-push, in_default}

pub loop-number-init : goal.loop-number-init
loop-number-init c = c.new-list.ensures ∙ sym (scope_names-nil c.args.names.now)

pub loop-number-preserved-then-not-is_in : goal.loop-number-preserved-then-not-is_in
loop-number-preserved-then-not-is_in c =
    let names = c.args.names.now in
    let before = scope_names names (take c.loop-number.number c.args.scope.now) in
    c.loop-number.invariant ∙ sym (append-nil before)
    ∙ ap (λ name. before ++ name) (sym (name_if-false (slice_get names c.loop-number.number)))
    ∙ sym (scope_names_more names c.args.scope.now c.loop-number.number false _ c.loop-number-test.true
    c.if-not-is_in.true refl)

pub loop-number-preserved : goal.loop-number-preserved
loop-number-preserved c =
    let names = c.args.names.now in
    let before = scope_names names (take c.loop-number.number c.args.scope.now) in
    let more : (name : Option (List ℕ)) → slice_get names c.loop-number.number ≡ name
    → c.loop-number.list ++ name_if true name ≡ scope_names names (take (c.loop-number.number + 1) c.args.scope.now) =
    λ name at. ap (λ (list : List (List ℕ)). list ++ name_if true name) c.loop-number.invariant
    ∙ sym (scope_names_more names c.args.scope.now c.loop-number.number true name c.loop-number-test.true
    c.if-not-is_in.false at) in
    elim c.match-get.branch [
      | in-Some+in_ok-from_slice+in_ok-push w ↦
          let name : w.from_bytes.result ≡ w.in-Some.name.now = w.from_bytes.ensures
          ∙ w.in_ok-from_slice.ensures.items in
          w.list-is ∙ w.in_ok-push.ensures.ok ∙ ap (λ name. c.loop-number.list ++ name ∷ []) name
          ∙ more (Some w.in-Some.name.now) (sym w.in-Some.ensures)
      | in_default w ↦ w.list-is ∙ sym (append-nil c.loop-number.list) ∙ more None (sym w.in_default.ensures)
    ]
