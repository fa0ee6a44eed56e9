use Rattle.std.proofs.Common.{ℕ, List, map, refl, sym, ap, ◌∙◌, subst, arith}
use Rattle.std.proofs.lemmas.Bool.{false≢true}
use Rattle.std.proofs.lemmas.List.{map-id, take_all}
use Rattle.sour_syntax.specs.Program.{NamesDiffer}
use Rattle.sour_scope.proofs.RepeatLaws.{seen_more, seen_twice}
use Rattle.sour_scope.proofs.repeats.are_distinct.Goals as goal

-- a name itself
abbrev named : List ℕ → List ℕ
named name = name

pub returns-then-not-branch : goal.returns-then-not-branch
returns-then-not-branch c =
    let P : List (List ℕ) → Type 0 = NamesDiffer in (
      λ wrong. absurd (false≢true wrong),
      λ differ. absurd (seen_twice named c.args.names.now c.loop-name.name-index c.name-item.result c.loop-name.seen c.as_bytes.result.now
          c.in_ok-add.field-0 c.loop-name.invariant.seen_are c.loop-name-test.true c.name-item.is c.as_bytes.ensures c.if-not-branch.true
          c.in_ok-add.ensures.whether (subst P (sym (map-id c.args.names.now)) differ)),
    )

pub loop-name-preserved : goal.loop-name-preserved
loop-name-preserved c =
    let more = seen_more named c.args.names.now c.loop-name.name-index c.name-item.result c.loop-name.seen c.as_bytes.result.now
    c.in_ok-add.field-0 c.add.new.self c.loop-name.invariant.seen_are c.loop-name.invariant.differ c.loop-name-test.true c.name-item.is
    c.as_bytes.ensures c.if-not-branch.false c.in_ok-add.ensures.whether c.in_ok-add.ensures.put in
    record { seen_are = more.0; differ = more.1 }

pub returns : goal.returns
returns c =
    let P : List (List ℕ) → Type 0 = NamesDiffer in
    let all = take_all c.loop-name.name-index c.args.names.now (omega arith) in
    let is = ap (map named) all ∙ map-id c.args.names.now in
    ((λ _. subst P is c.loop-name.invariant.differ), λ _. refl)
