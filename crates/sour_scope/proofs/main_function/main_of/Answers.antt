use Rattle.std.proofs.Common.{codes, refl, arith}
use Rattle.std.proofs.lemmas.Option.{slice_get_read}
use Rattle.sour_scope.proofs.MainLaws.{main_unknown, main_number, main_missing, main_wrong, main_right}
use Rattle.sour_scope.proofs.main_function.main_of.Goals as goal

pub returns-in_default-clause-fault : goal.returns-in_default-clause-fault
returns-in_default-clause-fault c =
    rw c.nameless.ensures
    (main_unknown c.args.outline.now c.args.raw.now c.requires.outline (codes "main") c.in_default.ensures.unknown)

pub returns-in_default-get-clause-fault : goal.returns-in_default-get-clause-fault
returns-in_default-get-clause-fault c =
    rw c.nameless-in_default-get.ensures
    (main_missing c.args.outline.now c.args.raw.now c.requires.outline (codes "main") c.in-Ok.number
    c.in-Ok.ensures.ok c.in_default-get.ensures.lookup.3)

pub returns-then-len-gt0-clause-fault : goal.returns-then-len-gt0-clause-fault
returns-then-len-gt0-clause-fault c =
    let lookup = c.in-Some.ensures.lookup in
    let there = slice_get_read c.args.raw.now _ c.in-Ok.number.0 c.in-Some.function.now refl lookup.3.0 lookup.1 in
    rw c.nameless-then-len-gt0.ensures
    (main_wrong c.args.outline.now c.args.raw.now c.requires.outline (codes "main") c.in-Ok.number
    c.in-Ok.ensures.ok c.in-Some.function.now there (omega arith))

pub returns-clause-number : goal.returns-clause-number
returns-clause-number c =
    main_number c.args.outline.now c.args.raw.now c.requires.outline (codes "main") c.in-Ok.number c.in-Ok.ensures.ok

pub returns-clause-none : goal.returns-clause-none
returns-clause-none c =
    let lookup = c.in-Some.ensures.lookup in
    let there = slice_get_read c.args.raw.now _ c.in-Ok.number.0 c.in-Some.function.now refl lookup.3.0 lookup.1 in
    main_right c.args.outline.now c.args.raw.now c.requires.outline (codes "main") c.in-Ok.number c.in-Ok.ensures.ok
    c.in-Some.function.now there (omega arith)
