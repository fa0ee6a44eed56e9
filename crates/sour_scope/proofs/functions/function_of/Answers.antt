use Rattle.std.proofs.Common.{◌≡◌, ℕ, List, Some, slice_get, sym, ap, ◌∙◌, subst}
use Rattle.std.proofs.lemmas.Bool.{false≢true}
use Rattle.std.proofs.lemmas.Result.{err_from_is_err_and}
use Rattle.sour_syntax.specs.Program.{NamesDiffer}
use Rattle.sour_raw.specs.declared.raw.RawFunction.{RawFunction}
use Rattle.sour_checked.specs.Names.{Broken}
use Rattle.laws_scope.specs.TextOrder.{first_broken}
use Rattle.sour_scope.specs.Told.{Tells}
use Rattle.sour_scope.proofs.WalkLaws.{found_there, found_is, function_before, function_at, function_twice, function_versions-broken}
use Rattle.sour_scope.proofs.functions.function_of.Goals as goal
use Rattle.sour_scope.proofs.functions.function_of.Goals.{then-stands_before-via-then-stands_before, then-stands_before-via-else-stands_before+in_ok-are_distinct+then-not-branch}

pub returns-then-stands_before-clause-fault : goal.returns-then-stands_before-clause-fault
returns-then-stands_before-clause-fault g c =
    let P : List (List ℕ) → Type 0 = NamesDiffer in
    rw (sym c.requires.1.0, sym c.requires.1.1.0, c.nameless.ensures)
    (function_twice g.within.functions c.args.number c.args.raw (λ new differ.
    elim c.then-stands_before.branch [
      | then-stands_before-via-then-stands_before w ↦
          absurd (false≢true (sym new
          ∙ sym (function_before g.within.functions c.args.outline.now c.requires.0 c.args.raw.name c.args.number)
          ∙ sym c.stands_before.ensures ∙ w.if-stands_before.true))
      | then-stands_before-via-else-stands_before+in_ok-are_distinct+then-not-branch w ↦
          absurd (false≢true (sym w.if-not-branch.true
          ∙ w.in_ok-are_distinct.ensures.1 (subst P (sym w.as_slice.ensures) differ)))
    ]))

pub unwrap-own-requires : goal.unwrap-own-requires
unwrap-own-requires g c =
    found_there c.get.result _ (c.get.ensures ∙ ap (slice_get c.args.outline.now) c.requires.1.1.0
    ∙ function_at g.within.functions c.args.outline.now c.requires.0 g.within.number g.within.function
    c.requires.1.1.1.0)

pub versions_of-requires : goal.versions_of-requires
versions_of-requires g c =
    let own = found_is c.get.result c.unwrap-own.result _ (c.get.ensures
    ∙ ap (slice_get c.args.outline.now) c.requires.1.1.0
    ∙ function_at g.within.functions c.args.outline.now c.requires.0 g.within.number g.within.function
    c.requires.1.1.1.0)
    c.unwrap-own.ensures in
    (c.requires.0, (own, (ap (λ (function : RawFunction). function.versions) c.requires.1.0, c.requires.1.1.1.1)))

pub returns-clause-none : goal.returns-clause-none
returns-clause-none g c =
    let P : List (List ℕ) → Type 0 = NamesDiffer in
    let new = sym (function_before g.within.functions c.args.outline.now c.requires.0 c.args.raw.name c.args.number)
    ∙ sym c.stands_before.ensures ∙ c.if-stands_before.false in
    let differ = subst P c.as_slice.ensures (c.in_ok-are_distinct.ensures.0 c.if-not-branch.false) in
    (rw (sym c.requires.1.0, sym c.requires.1.1.0)
    (function_versions-broken g.within.functions c.args.number c.args.raw new differ)) ∙ c.in_ok-versions.ensures.none

pub returns-in_err-versions-clause-fault : goal.returns-in_err-versions-clause-fault
returns-in_err-versions-clause-fault g c =
    let P : List (List ℕ) → Type 0 = NamesDiffer in
    let new = sym (function_before g.within.functions c.args.outline.now c.requires.0 c.args.raw.name c.args.number)
    ∙ sym c.stands_before.ensures ∙ c.if-stands_before.false in
    let differ = subst P c.as_slice.ensures (c.in_ok-are_distinct.ensures.0 c.if-not-branch.false) in
    let told = err_from_is_err_and c.from_residual-in_err-versions.result c.from_residual-in_err-versions.ensures.1 in
    rw (told.1, told.2)
    (subst (λ (all : List Broken). Tells (λ fault. first_broken all ≡ Some fault) c.in_err-versions.field-0.0)
    (sym (rw (sym c.requires.1.0, sym c.requires.1.1.0)
    (function_versions-broken g.within.functions c.args.number c.args.raw new differ)))
    c.in_err-versions.ensures.fault)
