use Rattle.std.proofs.Common.{◌≡◌, ◌+◌, true, false, Err, Some, ap, sym, ◌∙◌, arith}
use Rattle.std.specs.List.{AllByRecursion}
use Rattle.std.proofs.lemmas.Option.{slice_get_within}
use Rattle.sour_syntax.specs.Program.{NamesDiffer}
use Rattle.sour_checked.specs.Fault.{nameless, twice}
use Rattle.sour_checked.specs.Numbered.{label_of}
use Rattle.sour_checked.specs.Parts.{Leave, leaves}
use Rattle.sour_checked.specs.Texts.{labels}
use Rattle.laws_scope.specs.TextOrder.{first_broken, line_in_order, stands_before}
use Rattle.sour_scope.specs.declared.version_outline.VersionOutline.{VersionOutline}
use Rattle.sour_scope.specs.InText.{text_of}
use Rattle.sour_scope.proofs.LineRules.{label_at, own_variables, line_is, known_is, label_first, map_first, unknown_first, end_first, nothing_wrong, ends_wrong, ends_right}
use Rattle.sour_scope.proofs.lines.line_of.Goals.{then-stands_before-via-then-stands_before, then-stands_before-via-else-stands_before+in_ok-has_distinct_maps+then-not-branch, else-place-count-via-then-place-count+else-not-ends, else-place-count-via-else-place-count}
use Rattle.sour_scope.proofs.lines.line_of.Goals as goal

pub stands_before-requires : goal.stands_before-requires
stands_before-requires g c =
    let lines = g.within.version.lines in (
      ap (λ (version : VersionOutline). version.labels) c.requires.1.0,
      (
        label_at 0 c.args.place lines c.args.raw c.args.place (omega arith) c.requires.1.1.0 ∙ ap Some (sym c.in_ok-label.ensures),
        c.requires.1.1.1.0,
      ),
    )

pub returns-then-stands_before-clause-fault : goal.returns-then-stands_before-clause-fault
returns-then-stands_before-clause-fault g c =
    let text = text_of g.within in
    let fault : first_broken (line_in_order g.within.functions text c.args.place c.args.raw) ≡ Some (nameless twice c.args.raw.line) =
    elim c.then-stands_before.branch [
      | then-stands_before-via-then-stands_before w ↦
          label_first g.within.functions text c.args.place c.args.raw
          (ap (λ label. stands_before (labels text) label c.args.place) (sym c.in_ok-label.ensures)
          ∙ sym c.stands_before.ensures ∙ w.if-stands_before.true)
      | then-stands_before-via-else-stands_before+in_ok-has_distinct_maps+then-not-branch w ↦
          map_first g.within.functions text c.args.place c.args.raw
          (λ all. let yes = w.in_ok-has_distinct_maps.ensures.1 all in let no = w.if-not-branch.true in absurd (cc))
    ] in
    rw c.nameless.ensures fault

pub returns-in-Err-Unknown-clause-fault : goal.returns-in-Err-Unknown-clause-fault
returns-in-Err-Unknown-clause-fault g c =
    let text = text_of g.within in
    let before : stands_before (labels text) (label_of c.args.place c.args.raw.label) c.args.place ≡ false =
    ap (λ label. stands_before (labels text) label c.args.place) (sym c.in_ok-label.ensures)
    ∙ sym c.stands_before.ensures ∙ c.if-stands_before.false in
    let maps : AllByRecursion (λ (leave : Leave). NamesDiffer leave.names) (leaves c.args.raw.instr) =
    c.in_ok-has_distinct_maps.ensures.0 c.if-not-branch.false in
    let own = own_variables text c.args.place c.args.raw c.requires.1.1.0 in
    let known = known_is g.within.functions text c.args.raw.instr c.args.outline.now c.args.own.now c.requires.0 c.requires.1.0 in
    let unknown = c.in-Err-Unknown.ensures.unknown (ap Err c.in-Err-Unknown.field-0-is) in
    rw c.nameless-in-Err-Unknown.ensures
    (unknown_first g.within.functions text c.args.place c.args.raw before maps own (λ there. unknown (known.1 there)))

pub overflow_add-place : goal.overflow_add-place
overflow_add-place g c =
    let within = slice_get_within g.within.version.lines c.args.place c.args.raw c.requires.1.1.0 in
    omega (arith, within, c.requires.1.1.1.1.0, c.requires.1.1.1.1.1)

pub returns-then-not-ends-clause-fault : goal.returns-then-not-ends-clause-fault
returns-then-not-ends-clause-fault g c =
    let text = text_of g.within in
    let before : stands_before (labels text) (label_of c.args.place c.args.raw.label) c.args.place ≡ false =
    ap (λ label. stands_before (labels text) label c.args.place) (sym c.in_ok-label.ensures)
    ∙ sym c.stands_before.ensures ∙ c.if-stands_before.false in
    let maps : AllByRecursion (λ (leave : Leave). NamesDiffer leave.names) (leaves c.args.raw.instr) =
    c.in_ok-has_distinct_maps.ensures.0 c.if-not-branch.false in
    let own = own_variables text c.args.place c.args.raw c.requires.1.1.0 in
    let known = known_is g.within.functions text c.args.raw.instr c.args.outline.now c.args.own.now c.requires.0 c.requires.1.0 in
    rw c.nameless-then-not-ends.ensures
    (end_first g.within.functions text c.args.place c.args.raw before maps own (known.0 c.in-Ok.ensures.known)
    (ends_wrong _ _ _ _ _ c.if-place-count.true c.requires.1.1.1.1.0 c.is_terminator-ends.ensures c.if-not-ends.true))

pub returns-clause-ok : goal.returns-clause-ok
returns-clause-ok g c =
    line_is g.within.functions (text_of g.within) c.args.place c.args.raw c.in_ok-label.label c.in-Ok.instr c.args.outline.now c.args.own.now
    c.requires.0 c.requires.1.0 c.in_ok-label.ensures c.in-Ok.ensures.ok

pub returns-clause-none : goal.returns-clause-none
returns-clause-none g c =
    let text = text_of g.within in
    let before : stands_before (labels text) (label_of c.args.place c.args.raw.label) c.args.place ≡ false =
    ap (λ label. stands_before (labels text) label c.args.place) (sym c.in_ok-label.ensures)
    ∙ sym c.stands_before.ensures ∙ c.if-stands_before.false in
    let maps : AllByRecursion (λ (leave : Leave). NamesDiffer leave.names) (leaves c.args.raw.instr) =
    c.in_ok-has_distinct_maps.ensures.0 c.if-not-branch.false in
    let own = own_variables text c.args.place c.args.raw c.requires.1.1.0 in
    let known = known_is g.within.functions text c.args.raw.instr c.args.outline.now c.args.own.now c.requires.0 c.requires.1.0 in
    let right : c.args.place + 1 ≡ c.args.count → c.is_terminator-ends.result ≡ true =
    elim c.else-place-count.branch [
      | else-place-count-via-then-place-count+else-not-ends w ↦ λ last. w.if-not-ends.false
      | else-place-count-via-else-place-count w ↦ λ last. absurd (omega (arith, last, w.if-place-count.false))
    ] in
    nothing_wrong g.within.functions text c.args.place c.args.raw before maps own (known.0 c.in-Ok.ensures.known)
    (ends_right _ _ _ _ _ right c.requires.1.1.1.1.0 c.is_terminator-ends.ensures)
