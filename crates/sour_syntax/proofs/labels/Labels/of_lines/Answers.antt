use Rattle.std.proofs.Common.{◌≡◌, ◌≢◌, ◌++◌, ◌∷◌, [], List, ℕ, take, refl, sym, ap, ◌∙◌, subst}
use Rattle.std.specs.Bool.{OnTrue}
use Rattle.std.specs.List.{AllByRecursion}
use Rattle.std.proofs.lemmas.Option.{slice_get_read}
use Rattle.sour_syntax.specs.Labels.{labels_of}
use Rattle.sour_syntax.proofs.LabelSets.{differ_before, labels_more}
use Rattle.sour_syntax.proofs.labels.Labels.of_lines.Goals as goal

pub loop-line-preserved : goal.loop-line-preserved
loop-line-preserved c =
    let lines = c.args.lines.now in
    let count = c.loop-line.line-index in
    let line = c.line-item.result in
    let label : c.in_ok-label.label.items ≡ line.label = c.in_ok-label.ensures.items ∙ c.as_bytes.ensures in
    let at = slice_get_read lines _ count line refl c.loop-line-test.true c.line-item.is in
    let before = subst (AllByRecursion (λ other. other ≢ line.label)) (sym c.loop-line.invariant)
    (differ_before lines count line c.requires at) in
    let new = c.in_ok-add.ensures.whether.1 (subst (λ name. AllByRecursion (λ other. other ≢ name) c.loop-line.labels)
    (sym label) before) in
    let put = subst (λ is_new. OnTrue is_new (c.add.new.self ≡ c.loop-line.labels ++ c.in_ok-label.label.items ∷ []))
    new c.in_ok-add.ensures.put in
    put ∙ ap (λ (labels : List (List ℕ)). labels ++ c.in_ok-label.label.items ∷ []) c.loop-line.invariant
    ∙ ap (λ name. labels_of (take count lines) ++ name ∷ []) label
    ∙ sym (labels_more lines count line c.loop-line-test.true c.line-item.is)
