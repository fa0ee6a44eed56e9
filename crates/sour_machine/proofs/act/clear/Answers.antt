use Rattle.std.proofs.Common.{◌+◌, [], ◌∷◌, None, refl, arith}
use Rattle.sour_syntax.specs.declared.instruction.Instr.TheVariants.{Drop}
use Rattle.sour_machine.proofs.Scopes.{scope_of-set, row-set, ComesTo-going}
use Rattle.sour_machine.proofs.act.clear.Goals as goal

pub returns-clause-comes : goal.returns-clause-comes
returns-clause-comes c =
    let old = c.args.moment.now in
    ComesTo-going (Drop c.args.x) ((old.frame.place + 1) ∷ []) old.frame.env (record old { frame = record old.frame { place = old.frame.place + 1; env = c.clear.new.self } }) old.end c.requires.going (record {
      place = (0, omega arith, refl);
      scope = scope_of-set old.frame.env c.clear.new.self c.args.x.0 None c.clear.ensures;
      row = row-set old.frame.env c.clear.new.self c.args.x.0 None c.clear.ensures;
    })
