use Rattle.std.proofs.Common.{◌≡◌, List, [], Some, length, sym, ap, ◌∙◌, subst}
use Rattle.std.specs.Result.{IfErr, OnOk}
use Rattle.sour_raw.specs.declared.raw.RawVersion.{RawVersion}
use Rattle.sour_checked.specs.Names.{Broken}
use Rattle.laws_scope.specs.TextOrder.{first_broken}
use Rattle.sour_scope.specs.Told.{Tells}
use Rattle.sour_scope.proofs.WalkLaws.{found_there, found_is, version_before, version_at, version_twice, version_empty, version_lines-broken}
use Rattle.sour_scope.proofs.functions.version_of.Goals as goal

pub returns-then-stands_before-clause-fault : goal.returns-then-stands_before-clause-fault
returns-then-stands_before-clause-fault g c =
    let within = g.within in
    let before = sym (version_before within.function c.args.own.now c.requires.1.0 c.args.raw.name c.args.place)
    ∙ sym c.stands_before.ensures ∙ c.if-stands_before.true in
    rw (sym c.requires.1.1.0, c.nameless.ensures)
    (version_twice within.functions within.number within.function c.args.place c.args.raw before)

pub returns-then-len-eq0-clause-fault : goal.returns-then-len-eq0-clause-fault
returns-then-len-eq0-clause-fault g c =
    let within = g.within in
    let new = sym (version_before within.function c.args.own.now c.requires.1.0 c.args.raw.name c.args.place)
    ∙ sym c.stands_before.ensures ∙ c.if-stands_before.false in
    rw (sym c.requires.1.1.0, c.nameless-then-len-eq0.ensures)
    (version_empty within.functions within.number within.function c.args.place c.args.raw new
    (sym c.len.ensures ∙ c.if-len-eq0.true))

pub unwrap-version-requires : goal.unwrap-version-requires
unwrap-version-requires g c =
    found_there c.get.result _ (c.get.ensures
    ∙ version_at g.within.function c.args.own.now c.requires.1.0 c.args.place g.within.version c.requires.1.1.1.0)

pub lines_of-requires : goal.lines_of-requires
lines_of-requires g c =
    let own = found_is c.get.result c.unwrap-version.result _ (c.get.ensures
    ∙ version_at g.within.function c.args.own.now c.requires.1.0 c.args.place g.within.version c.requires.1.1.1.0)
    c.unwrap-version.ensures in
    (c.requires.0, (own, (ap (λ (version : RawVersion). version.lines) c.requires.1.1.0, c.requires.1.1.1.1)))

pub returns-clause-none : goal.returns-clause-none
returns-clause-none g c =
    let within = g.within in
    let new = sym (version_before within.function c.args.own.now c.requires.1.0 c.args.raw.name c.args.place)
    ∙ sym c.stands_before.ensures ∙ c.if-stands_before.false in
    let some = λ (empty : length c.args.raw.lines ≡ 0). c.if-len-eq0.false (c.len.ensures ∙ empty) in
    subst (λ (all : List Broken). OnOk c.lines_of.result (all ≡ []))
    (sym (rw (sym c.requires.1.1.0)
    (version_lines-broken within.functions within.number within.function c.args.place c.args.raw new some)))
    c.lines_of.ensures.none

pub returns-clause-fault : goal.returns-clause-fault
returns-clause-fault g c =
    let within = g.within in
    let new = sym (version_before within.function c.args.own.now c.requires.1.0 c.args.raw.name c.args.place)
    ∙ sym c.stands_before.ensures ∙ c.if-stands_before.false in
    let some = λ (empty : length c.args.raw.lines ≡ 0). c.if-len-eq0.false (c.len.ensures ∙ empty) in
    subst (λ (all : List Broken). IfErr c.lines_of.result (Tells (λ fault. first_broken all ≡ Some fault)))
    (sym (rw (sym c.requires.1.1.0)
    (version_lines-broken within.functions within.number within.function c.args.place c.args.raw new some)))
    c.lines_of.ensures.fault
