use Rattle.std.proofs.Common.{◌+◌, [], Some, refl, ◌∙◌, ◌∷◌, arith}
use Rattle.sour_syntax.specs.declared.instruction.Instr.TheVariants.{Var, Assign}
use Rattle.sour_syntax.proofs.NamedScopes.{set-same}
use Rattle.sour_semantics.specs.Validity.{scope_of}
use Rattle.sour_machine.proofs.Scopes.{scope_of-set, row-set, ComesTo-going}
use Rattle.sour_machine.proofs.act.set.Goals as goal

pub returns-in-Ok-clause-declares : goal.returns-in-Ok-clause-declares
returns-in-Ok-clause-declares c =
    let old = c.args.moment.now in
    ComesTo-going (Var c.args.x c.args.expr.now) ((old.frame.place + 1) ∷ []) old.frame.env (record old { frame = record old.frame { place = old.frame.place + 1; env = c.set.new.self } }) old.end c.requires.going (record {
      place = (0, omega arith, refl);
      scope = scope_of-set old.frame.env c.set.new.self c.args.x.0 (Some c.in-Ok.value) c.set.ensures;
      row = row-set old.frame.env c.set.new.self c.args.x.0 (Some c.in-Ok.value) c.set.ensures;
    })

pub returns-in-Ok-clause-assigns : goal.returns-in-Ok-clause-assigns
returns-in-Ok-clause-assigns c = λ there.
    let old = c.args.moment.now in
    ComesTo-going (Assign c.args.x c.args.expr.now) ((old.frame.place + 1) ∷ []) old.frame.env (record old { frame = record old.frame { place = old.frame.place + 1; env = c.set.new.self } }) old.end c.requires.going (record {
      place = (0, omega arith, refl);
      scope = scope_of-set old.frame.env c.set.new.self c.args.x.0 (Some c.in-Ok.value) c.set.ensures ∙ set-same (scope_of old.frame.env) c.args.x.0 there;
      row = row-set old.frame.env c.set.new.self c.args.x.0 (Some c.in-Ok.value) c.set.ensures;
    })
