use Rattle.std.proofs.Common.{rules, append_assoc, map, sym, ap, ◌∙◌}
use Rattle.std.specs.Prelude.{nat_eq}
use Rattle.std.proofs.lemmas.List.{length-map}
use Rattle.std.proofs.lemmas.Result.{IfOk-equal}
use Rattle.laws_printing.specs.Named.{raw_expr}
use Rattle.sour_printing.proofs.Lists.{predicates_bytes}
use Rattle.sour_printing.proofs.instructions.put_predicates.Goals as goal

pub returns : goal.returns
returns c =
    let raw = map (raw_expr c.args.functions.now c.args.names.now) c.args.predicates.now in
    let count =
    ap (λ n. nat_eq n 0) (length-map c.args.predicates.now (raw_expr c.args.functions.now c.args.names.now)) in
    rw (predicates_bytes raw (count ∙ sym c.is_empty.ensures ∙ c.if-is_empty.false))
    (search (rules, IfOk-equal, append_assoc))
