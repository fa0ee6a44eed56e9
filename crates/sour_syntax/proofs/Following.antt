-- The places that may follow an instruction, and their labels.
use Rattle.std.proofs.Common.{◌≡◌, ℕ, zero, suc, ◌+◌, ◌<◌, List, [], ◌∷◌, Some, Contains, length, map, drop, slice_get, refl, sym, ap, ◌∙◌, subst, arith}
use Rattle.std.specs.List.{AllByRecursion}
use Rattle.std.proofs.lemmas.List.{length-map, length-drop}
use Rattle.std.proofs.lemmas.List.Elements.{Contains-append_right}
use Rattle.std.proofs.lemmas.Option.{slice_get_within}
use Rattle.sour_syntax.specs.declared.instruction.Instr.{Instr}
use Rattle.sour_syntax.specs.declared.instruction.Instr.TheVariants.{Branch, Goto, Return, Stop}
use Rattle.sour_syntax.specs.declared.instruction.Line.{Line}
use Rattle.sour_syntax.specs.declared.jump.Jump.{Jump}
use Rattle.sour_syntax.specs.Labels.{LabelsDiffer, labels_of, first_label, label_at, from_label, IsPlaceOf}
use Rattle.sour_syntax.specs.Terminator.{IsTerminator, EndsInTerminator}
use Rattle.sour_syntax.specs.Jumps.{named_labels, NamesItsLabels, GoesTo}
use Rattle.sour_syntax.specs.Scopes.{following_labels}
use Rattle.sour_syntax.specs.Spread.{following}
use Rattle.sour_syntax.proofs.Everywhere.{AllByRecursion-found}
use Rattle.sour_syntax.proofs.LabelPlaces.{from_label-first_label-drop}

-- the label of the line at a place
pub label_at-IsPlaceOf : (lines : List Line) (label : List ℕ) (place : ℕ) → IsPlaceOf lines label place
    → label_at lines place ≡ label
label_at-IsPlaceOf [] label place at = cc
label_at-IsPlaceOf (line ∷ lines) label zero at = let same : line.label ≡ label = cc in same
label_at-IsPlaceOf (line ∷ lines) label (suc place) at = label_at-IsPlaceOf lines label place at

-- the place of a label lies within the lines
pub IsPlaceOf-within : (lines : List Line) (label : List ℕ) (place : ℕ) → IsPlaceOf lines label place
    → place < length lines
IsPlaceOf-within lines label place at =
    let within : place < length (labels_of lines) = slice_get_within (labels_of lines) place label at in
    subst (λ count. place < count) (length-map lines (λ (line : Line). line.label)) within

-- lines with the same label stand at the same place
pub same_place : (lines : List Line) (place other : ℕ) → LabelsDiffer lines → place < length lines
    → other < length lines → label_at lines place ≡ label_at lines other → place ≡ other
same_place lines place other differ within other_within same =
    let from : drop place lines ≡ drop other lines =
    sym (from_label-first_label-drop lines place differ within) ∙ ap (λ label. from_label label lines) same
    ∙ from_label-first_label-drop lines other differ other_within in
    let counts : length (drop place lines) ≡ length (drop other lines) = ap length from in
    omega (arith, counts, length-drop place lines, length-drop other lines)

-- the labels that may follow are those of the places that may follow
pub following_labels_are : (lines : List Line) (instr : Instr) (jump : Jump) (next : ℕ) → GoesTo lines instr jump
    → following_labels instr (label_at lines next) ≡ map (label_at lines) (following instr jump next)
following_labels_are lines (Branch e a b) jump next goes =
    let first : label_at lines jump.first ≡ a = label_at-IsPlaceOf lines a jump.first goes.0 in
    let second : label_at lines jump.second ≡ b = label_at-IsPlaceOf lines b jump.second goes.1 in cc
following_labels_are lines (Goto a) jump next goes =
    let first : label_at lines jump.first ≡ a = label_at-IsPlaceOf lines a jump.first goes in cc
following_labels_are lines instr jump next goes = refl

-- behind a line that is no terminator there is a line
pub next_within : (lines : List Line) (place : ℕ) (line : Line) → EndsInTerminator lines
    → slice_get lines place ≡ Some line → (IsTerminator line.instr → ⊥) → place + 1 < length lines
next_within [] place line end at going = absurd end
next_within (first ∷ []) zero line end at going =
    let same : first ≡ line = cc in absurd (going (subst (λ (it : Line). IsTerminator it.instr) same end))
next_within (first ∷ []) (suc place) line end at going = cc
next_within (first ∷ second ∷ lines) zero line end at going = omega arith
next_within (first ∷ second ∷ lines) (suc place) line end at going =
    let inner : place + 1 < length (second ∷ lines) = next_within
    (second ∷ lines) place line end at going in omega arith

-- each place that may follow is that of a line, if the next one is or the instruction is a terminator
follow_within : (lines : List Line) (instr : Instr) (jump : Jump) (next : ℕ)
    → ((IsTerminator instr → ⊥) → next < length lines) → GoesTo lines instr jump
    → AllByRecursion (λ place. place < length lines) (following instr jump next)
follow_within lines (Branch e a b) jump next on goes = (
  IsPlaceOf-within lines a jump.first goes.0,
  (IsPlaceOf-within lines b jump.second goes.1, tt),
)
follow_within lines (Goto a) jump next on goes = (IsPlaceOf-within lines a jump.first goes, tt)
follow_within lines (Return e) jump next on goes = tt
follow_within lines Stop jump next on goes = tt
follow_within lines instr jump next on goes = (on (λ no. no), tt)

-- each place that may follow is that of a line
pub following_within : (lines : List Line) (place : ℕ) (line : Line) (jump : Jump) → EndsInTerminator lines
    → slice_get lines place ≡ Some line → GoesTo lines line.instr jump
    → AllByRecursion (λ other. other < length lines) (following line.instr jump (place + 1))
following_within lines place line jump end at goes = follow_within lines line.instr jump (place + 1)
    (next_within lines place line end at) goes

-- the label of the line at a place is one of the labels
label_at-there : (lines : List Line) (place : ℕ) → place < length lines
    → Contains (labels_of lines) (label_at lines place)
label_at-there [] place within = absurd (omega arith)
label_at-there (line ∷ lines) zero within = (0, omega arith, refl)
label_at-there (line ∷ lines) (suc place) within =
    Contains-append_right (line.label ∷ []) (labels_of lines) (label_at lines place)
    (label_at-there lines place (omega arith))

-- what holds of the next label, unless none follows, and of those that an instruction names holds of each that may follow it
followed : (P : List ℕ → Type 0) (instr : Instr) (next : List ℕ) → ((IsTerminator instr → ⊥) → P next)
    → AllByRecursion P (named_labels instr) → AllByRecursion P (following_labels instr next)
followed P (Branch e a b) next on named = named
followed P (Goto a) next on named = named
followed P (Return e) next on named = tt
followed P Stop next on named = tt
followed P instr next on named = (on (λ is. is), tt)

-- each label that may follow a line is that of a line
pub following_labels_there : (lines : List Line) (place : ℕ) (line : Line) → EndsInTerminator lines
    → NamesItsLabels lines → slice_get lines place ≡ Some line
    → AllByRecursion (Contains (labels_of lines)) (following_labels line.instr (label_at lines (place + 1)))
following_labels_there lines place line end jumps at =
    let named : AllByRecursion (Contains (labels_of lines)) (named_labels line.instr) =
    AllByRecursion-found (λ (line : Line). AllByRecursion (Contains (labels_of lines))
    (named_labels line.instr)) lines place line jumps at in
    followed (Contains (labels_of lines)) line.instr (label_at lines (place + 1))
    (λ going. label_at-there lines (place + 1) (next_within lines place line end at going)) named

-- the lines from a place on begin with the line there
pub drop_first : (lines rest : List Line) (place : ℕ) (line : Line) → drop place lines ≡ line ∷ rest
    → (slice_get lines place ≡ Some line) × (first_label rest ≡ label_at lines (place + 1))
drop_first [] rest zero line at = cc
drop_first [] rest (suc place) line at = cc
drop_first (first ∷ lines) rest zero line at =
    let same : first ≡ line = cc in let others : lines ≡ rest = cc in (ap Some same, ap first_label (sym others))
drop_first (first ∷ lines) rest (suc place) line at =
    let inner = drop_first lines rest place line at in
    let one : suc place + 1 ≡ suc (place + 1) = omega arith in
    (inner.0, inner.1 ∙ ap (λ n. label_at (first ∷ lines) n) (sym one))
