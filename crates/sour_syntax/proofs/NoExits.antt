-- What holds of the line at a label, and of bodies that leave for nowhere.
use Rattle.std.proofs.Common.{◌≡◌, ℕ, List, [], ◌∷◌, Bool, true, false, cond, refl, sym, ap, ◌∙◌, subst}
use Rattle.std.specs.List.{AllByRecursion}
use Rattle.std.specs.Str.{bytes_eq}
use Rattle.std.proofs.lemmas.Slice.Eq.{bytes_eq-Decides}
use Rattle.sour_syntax.specs.declared.instruction.Line.{Line}
use Rattle.sour_syntax.specs.declared.program.Function.{Function}
use Rattle.sour_syntax.specs.BodyView.{BodyView}
use Rattle.sour_syntax.specs.Exits.{Continuation, continuations_of}
use Rattle.sour_syntax.specs.Labels.{from_label}
use Rattle.sour_syntax.specs.Targets.{IsNamed, Lands, HasExits}

-- the lines that are taken by a test begin with the first, or are those found behind it
pub taken : (P : Type 0) (test : Bool) (first : Line) (lines found : List Line) (line : Line) (rest : List Line)
    → (test ≡ true → first ≡ line → lines ≡ rest → P) → (found ≡ line ∷ rest → P) → cond test (first ∷ lines) found ≡ line ∷ rest → P
taken P true first lines found line rest begins behind stands =
    let same : first ≡ line = cc in
    let others : lines ≡ rest = cc in
    begins refl same others
taken P false first lines found line rest begins behind stands = behind stands

-- what holds of each line holds of the one at a label
pub All-from_label : (P : Line → Type 0) (label : List ℕ) (lines : List Line) (line : Line) (rest : List Line)
    → AllByRecursion P lines → from_label label lines ≡ line ∷ rest → P line
All-from_label P label [] line rest all stands = cc
All-from_label P label (first ∷ lines) line rest all stands =
    taken (P line) (bytes_eq first.label label) first lines (from_label label lines) line rest (λ is same others. subst P same all.0)
    (All-from_label P label lines line rest all.1) stands

-- the line at a label has that label
pub label-from_label : (label : List ℕ) (lines : List Line) (line : Line) (rest : List Line) → from_label label lines ≡ line ∷ rest → line.label ≡ label
label-from_label label [] line rest stands = cc
label-from_label label (first ∷ lines) line rest stands =
    taken (line.label ≡ label) (bytes_eq first.label label) first lines (from_label label lines) line rest
    (λ is same others. ap (λ (other : Line). other.label) (sym same) ∙ (bytes_eq-Decides first.label label).0 is)
    (label-from_label label lines line rest) stands

-- a line that leaves for nowhere
abbrev pub Stays : Line → Type 0
Stays line = continuations_of line.instr ≡ []

-- where there are no continuations, whatever is said of each holds
none_of : (P : Continuation → Type 0) (lines : List Line) → AllByRecursion Stays lines
    → AllByRecursion (λ line. AllByRecursion P (continuations_of line.instr)) lines
none_of P [] all = tt
none_of P (line ∷ lines) all = (subst (AllByRecursion P) (sym all.0) tt, none_of P lines all.1)

-- a body whose lines leave for nowhere has its exits
pub HasExits-none : (functions : List Function) (bodies : List BodyView) (body : BodyView) → AllByRecursion Stays body.lines
    → HasExits functions bodies body
HasExits-none functions bodies body all = record {
  named = none_of (IsNamed functions bodies) body.lines all;
  land = λ count label scope line rest path at.
      All-from_label (λ (other : Line). AllByRecursion (Lands functions bodies) (continuations_of other.instr)) label body.lines line rest
      (none_of (Lands functions bodies) body.lines all) at.stands;
}
