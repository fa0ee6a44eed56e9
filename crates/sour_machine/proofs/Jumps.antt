-- Where a run goes on: the places of labels, and the lines that may follow one.
use Rattle.std.proofs.Common.{◌≡◌, ◌∙◌, ℕ, ◌+◌, List, Contains, map, sym, ap, subst, arith}
use Rattle.std.proofs.lemmas.List.{get_or-map, length-map}
use Rattle.sour_syntax.specs.declared.instruction.Instr.{Instr}
use Rattle.sour_syntax.specs.declared.instruction.Line.{Line}
use Rattle.sour_syntax.specs.declared.jump.Jump.{Jump}
use Rattle.sour_syntax.specs.declared.literal.Literal.{Literal}
use Rattle.sour_syntax.specs.Jumps.{GoesTo}
use Rattle.sour_syntax.specs.Labels.{label_at, IsPlaceOf}
use Rattle.sour_syntax.specs.Program.{ProgramView}
use Rattle.sour_syntax.specs.Scopes.{following_labels}
use Rattle.sour_syntax.specs.Spread.{following}
use Rattle.sour_syntax.proofs.Following.{label_at-IsPlaceOf, following_labels_are}
use Rattle.sour_semantics.specs.Step.{goes_to}
use Rattle.sour_machine.specs.declared.moment.Moment.{Moment}
use Rattle.sour_machine.specs.Frame.{frame_lines}
use Rattle.sour_machine.specs.Moment.{state_at}

-- a run that stands at the place of a label has gone to that label
pub state_at_place : (program : ProgramView) (input : List Literal) (moment : Moment) (label : List ℕ) (place : ℕ) → IsPlaceOf (frame_lines program moment.frame) label place
    → state_at program input (record moment { frame = record moment.frame { place = place } }) ≡ goes_to label (state_at program input moment)
state_at_place program input moment label place at =
    ap (λ (label : List ℕ). goes_to label (state_at program input moment)) (label_at-IsPlaceOf (frame_lines program moment.frame) label place at)

-- where a list has an element, what is made of it is among what is made of each
Contains-map : {X Y : Type 0} (f : X → Y) (xs : List X) (x : X) → Contains xs x → Contains (map f xs) (f x)
Contains-map f xs x at = (at.0, omega (arith, at.1, length-map xs f), get_or-map f xs at.0 x (f x) at.1 ∙ ap f at.2)

-- where a run goes on, there is a label that may follow the instruction
pub Contains-following_labels : (lines : List Line) (instr : Instr) (jump : Jump) (place next : ℕ) → GoesTo lines instr jump → Contains (following instr jump (place + 1)) next
    → Contains (following_labels instr (label_at lines (place + 1))) (label_at lines next)
Contains-following_labels lines instr jump place next goes at =
    let Follows : List (List ℕ) → Type 0 = λ labels. Contains labels (label_at lines next) in
    subst Follows (sym (following_labels_are lines instr jump (place + 1) goes)) (Contains-map (label_at lines) (following instr jump (place + 1)) next at)
