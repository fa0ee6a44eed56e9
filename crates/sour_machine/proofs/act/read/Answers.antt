use Rattle.std.proofs.Common.{◌+◌, [], ◌∷◌, Some, refl, arith}
use Rattle.sour_syntax.specs.declared.instruction.Instr.TheVariants.{Read}
use Rattle.sour_syntax.specs.declared.literal.Value.TheVariants.{Plain}
use Rattle.sour_machine.proofs.Scopes.{scope_of-set, row-set, ComesTo-going}
use Rattle.sour_machine.proofs.act.read.Goals as goal

pub returns-in-Some-clause-comes : goal.returns-in-Some-clause-comes
returns-in-Some-clause-comes c =
    let old = c.args.moment.now in
    let value = Some (Plain c.in-Some.literal.now) in
    ComesTo-going (Read c.args.x) ((old.frame.place + 1) ∷ []) old.frame.env _ old.end c.requires.going (record {
      place = (0, omega arith, refl);
      scope = scope_of-set old.frame.env c.set.new.self c.args.x.0 value c.set.ensures;
      row = row-set old.frame.env c.set.new.self c.args.x.0 value c.set.ensures;
    })
