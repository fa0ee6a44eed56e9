use Rattle.std.proofs.Common.{◌≡◌, List, [], ◌∷◌, ◌++◌, None, Some, length, refl, sym, ap, ◌∙◌, subst, length-append, arith}
use Rattle.std.specs.Prelude.{slice_set}
use Rattle.std.specs.List.{AllByRecursion}
use Rattle.sour_syntax.proofs.Everywhere.{AllByRecursion-parts}
use Rattle.sour_machine.specs.declared.activation.Activation.{Activation}
use Rattle.sour_machine.specs.declared.activation.Waiting.{Waiting}
use Rattle.sour_machine.specs.Frame.{StandsAtLine, StandsWaiting}
use Rattle.sour_machine.proofs.FrameLaws.{StandsAtLine-resumed}
use Rattle.sour_machine.proofs.calls.resume.Goals as goal

pub returns-in-Some-clause-leaves : goal.returns-in-Some-clause-leaves
returns-in-Some-clause-leaves c = λ program.
    let waiting = c.in-Some.waiting in
    let rest = c.pop.new.self in
    let split : c.args.moment.now.below ≡ rest ++ waiting ∷ [] = c.in-Some.ensures.some in
    let frame : c.replace-ended.new.dest ≡ waiting.frame = c.replace-ended.ensures.after in
    let Each : List Waiting → Type 0 = AllByRecursion (StandsWaiting program) in
    let Stands : Activation → Type 0 = λ frame. StandsAtLine program (record frame { env = c.set.new.self }) None in
    record {
      top = λ all going. subst Stands (sym frame) (StandsAtLine-resumed program waiting c.set.new.self c.args.value
          (c.set.ensures ∙ ap (λ (frame : Activation). slice_set frame.env waiting.result.0 (Some c.args.value)) frame)
          (AllByRecursion-parts (StandsWaiting program) rest (waiting ∷ []) (subst Each split all)).1.0);
      below = λ all. (AllByRecursion-parts (StandsWaiting program) rest (waiting ∷ []) (subst Each split all)).0;
      fewer = omega (arith, ap length split, length-append rest (waiting ∷ []));
      calls = refl;
    }
