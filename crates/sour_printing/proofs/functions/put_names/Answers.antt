use Rattle.std.proofs.Common.{ap, ◌∙◌, ◌++◌, arith}
use Rattle.sour_syntax.specs.declared.literal.VarId.{VarId}
use Rattle.laws_printing.proofs.ProgramParts.{variable_there}
use Rattle.sour_printing.proofs.Lists.{names_more}
use Rattle.sour_printing.proofs.functions.put_names.Goals as goal

pub loop-x-preserved : goal.loop-x-preserved
loop-x-preserved c =
    let x : VarId = record { 0 = c.loop-x.x } in
    names_more c.args.names.now c.loop-x.x _ c.args.text.now.items c.loop-x.text.items
    c.extend_from_slice-in-loop-x.new.self.items _ (omega (arith, c.loop-x.auto.x))
    (variable_there c.args.names.now x (omega arith)) c.loop-x.invariant c.in_ok-extend_from_slice-2.ensures.items
    (c.in_ok-extend_from_slice-3.ensures.items
    ∙ ap (λ bytes. c.extend_from_slice-in-loop-x.new.self.items ++ bytes) c.variable_name-in-loop-x.ensures)
