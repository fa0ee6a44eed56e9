-- The lines behind one at which a frame stands.
use Rattle.std.proofs.Common.{◌≡◌, ℕ, suc, List, [], ◌∷◌, Some, drop, ap, subst, add-one}
use Rattle.std.specs.List.{slice_get}
use Rattle.std.specs.Str.{bytes_eq}
use Rattle.sour_syntax.specs.declared.instruction.Line.{Line}
use Rattle.sour_syntax.specs.Labels.{LabelsDiffer, from_label, first_label}
use Rattle.sour_syntax.specs.Terminator.{IsTerminator, EndsInTerminator}
use Rattle.sour_syntax.proofs.LabelPlaces.{from_label-first_label-drop, lt-EndsInTerminator, EndsInTerminator-next}
use Rattle.sour_syntax.proofs.NoExits.{taken}

-- a line stands at a place, with these lines behind it
record StandsAt (lines : List Line) (line : Line) (rest : List Line) : Type 0 where
  pub place : ℕ
  pub found : slice_get lines place ≡ Some line
  pub behind : drop (suc place) lines ≡ rest
  pub end : EndsInTerminator (drop place lines)

-- the first line stands at the first place
at_first : (first : Line) (lines : List Line) (line : Line) (rest : List Line) → EndsInTerminator (first ∷ lines) → first ≡ line → lines ≡ rest
    → StandsAt (first ∷ lines) line rest
at_first first lines line rest end same others = record { place = 0; found = ap Some same; behind = others; end = end }

-- what stands among the others stands one place further among all
further : (first : Line) (lines : List Line) (line : Line) (rest : List Line) → StandsAt lines line rest → StandsAt (first ∷ lines) line rest
further first lines line rest at = record { place = suc at.place; found = at.found; behind = at.behind; end = at.end }

-- where the lines from a label on begin
place_of : (label : List ℕ) (lines : List Line) (line : Line) (rest : List Line) → EndsInTerminator lines
    → from_label label lines ≡ line ∷ rest → StandsAt lines line rest
place_of label [] line rest end stands = absurd end
place_of label (first ∷ []) line rest end stands =
    taken (StandsAt (first ∷ []) line rest) (bytes_eq first.label label) first [] [] line rest (λ is. at_first first [] line rest end)
    (λ (none : [] ≡ line ∷ rest). cc) stands
place_of label (first ∷ next ∷ lines) line rest end stands =
    taken (StandsAt (first ∷ next ∷ lines) line rest) (bytes_eq first.label label) first (next ∷ lines) (from_label label (next ∷ lines))
    line rest (λ is. at_first first (next ∷ lines) line rest end)
    (λ behind. further first (next ∷ lines) line rest (place_of label (next ∷ lines) line rest end behind)) stands

-- there are such lines, and they are those from the label of their first on
pub record AreBehind (lines rest : List Line) : Type 0 where
  pub stands : from_label (first_label rest) lines ≡ rest
  pub end : EndsInTerminator rest

-- the lines behind one that is no terminator
pub following : (label : List ℕ) (lines : List Line) (line : Line) (rest : List Line) → LabelsDiffer lines → EndsInTerminator lines
    → from_label label lines ≡ line ∷ rest → (IsTerminator line.instr → ⊥) → AreBehind lines rest
following label lines line rest differ end stands going =
    let at : StandsAt lines line rest = place_of label lines line rest end stands in
    let Behind : List Line → Type 0 = AreBehind lines in
    let ends : EndsInTerminator (drop (suc at.place) lines) =
    rw add-one at (EndsInTerminator-next lines at.place line at.found going at.end) in
    subst Behind at.behind (record {
      stands = from_label-first_label-drop lines (suc at.place) differ (lt-EndsInTerminator lines (suc at.place) ends);
      end = ends;
    })
