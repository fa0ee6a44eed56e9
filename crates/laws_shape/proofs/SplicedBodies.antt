-- Lines each of which gave way to some: their labels, and how they end.
use Rattle.std.proofs.Common.{◌≡◌, ◌≢◌, ◌⊎◌, inl, inr, ℕ, List, [], ◌∷◌, ◌++◌, refl, sym, ap, subst, ◌∙◌, append_assoc}
use Rattle.std.specs.List.{AllByRecursion}
use Rattle.std.proofs.lemmas.List.{append-nil}
use Rattle.sour_syntax.specs.declared.instruction.Line.{Line}
use Rattle.sour_syntax.specs.Labels.{LabelsDiffer}
use Rattle.sour_syntax.specs.Terminator.{IsTerminator, EndsInTerminator}
use Rattle.sour_syntax.proofs.Everywhere.{AllByRecursion-weaker, AllByRecursion-append}
use Rattle.laws_simulation.specs.Spliced.{spliced}
use Rattle.laws_shape.specs.Spliced.{StandsFor, EndsWell, left_out, ends_there, followed_by}
use Rattle.laws_shape.proofs.Between.{each-between, all-between}

-- what holds of each piece holds of all
all-spliced : (P : Line → Type 0) (piece : Line → List Line) (lines : List Line)
    → AllByRecursion (λ line. AllByRecursion P (piece line)) lines → AllByRecursion P (spliced piece lines)
all-spliced P piece [] all = tt
all-spliced P piece (line ∷ lines) all =
    AllByRecursion-append P (piece line) (spliced piece lines) all.0 (all-spliced P piece lines all.1)

-- labels differ if those of both parts do, and from each other
differ-append : (xs ys : List Line) → LabelsDiffer xs → AllByRecursion
    (λ x. AllByRecursion (λ (other : Line). other.label ≢ x.label) ys) xs → LabelsDiffer ys → LabelsDiffer (xs ++ ys)
differ-append [] ys differ apart others = others
differ-append (x ∷ xs) ys differ apart others = (
  AllByRecursion-append (λ
      (other : Line). other.label ≢ x.label) xs ys differ.0 apart.0,
  differ-append xs ys differ.1 apart.1 others,
)

-- lines end as the last of them do
ends-append : (xs ys : List Line) → EndsInTerminator ys → EndsInTerminator (xs ++ ys)
ends-append [] ys end = end
ends-append (x ∷ []) [] end = absurd end
ends-append (x ∷ []) (y ∷ ys) end = end
ends-append (x ∷ next ∷ xs) ys end = ends-append (next ∷ xs) ys end

-- the last of lines that end in a terminator is one
pub last-ends : (before : List Line) (line : Line) → EndsInTerminator (before ++ line ∷ []) → IsTerminator line.instr
last-ends [] line end = end
last-ends (x ∷ []) line end = end
last-ends (x ∷ y ∷ before) line end = last-ends (y ∷ before) line end

-- labels differ if those of the old lines do, and those within each piece
pub differ-spliced : (stand : List ℕ → List ℕ) (piece : Line → List Line) (lines : List Line)
    → AllByRecursion (StandsFor stand piece) lines → AllByRecursion (λ line. LabelsDiffer (piece line)) lines
    → LabelsDiffer lines → LabelsDiffer (spliced piece lines)
differ-spliced stand piece [] stand_for within differ = tt
differ-spliced stand piece (line ∷ lines) stand_for within differ =
    let others : AllByRecursion (λ (other : Line). stand other.label ≢ line.label) (spliced piece lines) =
    all-spliced (λ (other : Line). stand other.label ≢ line.label) piece lines
    (each-between (λ (l : Line). AllByRecursion (λ (other : Line). stand other.label ≢ line.label) (piece l)) lines
    (λ before l after whole.
    AllByRecursion-weaker (λ (other : Line). stand other.label ≡ l.label)
    (λ (other : Line). stand other.label ≢ line.label)
    (λ other stands_for same. all-between (λ (one : Line). one.label ≢ line.label) lines before l after whole differ.0
    (sym stands_for ∙ same)) (piece l)
    (all-between (StandsFor stand piece) lines before l after whole stand_for.1))) in
    differ-append (piece line) (spliced piece lines) within.0
    (AllByRecursion-weaker (λ (l : Line). stand l.label ≡ line.label)
    (λ (l : Line). AllByRecursion (λ (other : Line). other.label ≢ l.label) (spliced piece lines))
    (λ l stands_for. AllByRecursion-weaker (λ (other : Line). stand other.label ≢ line.label)
    (λ (other : Line). other.label ≢ l.label)
    (λ other apart same. apart (ap stand same ∙ stands_for)) (spliced piece lines) others) (piece line) stand_for.0)
    (differ-spliced stand piece lines stand_for.1 within.1 differ.1)

-- if two lists are empty together, the first is
pub no-more : (xs ys : List Line) → xs ++ ys ≡ [] → xs ≡ []
no-more [] ys none = refl
no-more (x ∷ xs) ys none = absurd (cc)

-- the lines from a piece on
ends-here : (piece : Line → List Line) (line : Line) (lines : List Line) → EndsWell piece line lines
    → (spliced piece lines ≡ []) ⊎ EndsInTerminator (spliced piece lines)
    → (spliced piece (line ∷ lines) ≡ []) ⊎ EndsInTerminator (spliced piece (line ∷ lines))
ends-here piece line lines well (inr ends) = inr (ends-append (piece line) (spliced piece lines) ends)
ends-here piece line lines (left_out none) (inl others) = inl (ap (λ some. some ++ spliced piece lines) none ∙ others)
ends-here piece line lines (ends_there ends) (inl others) =
    inr (subst EndsInTerminator (sym (ap (λ some. piece line ++ some) others ∙ append-nil (piece line))) ends)
ends-here piece line lines (followed_by next more same kept) (inl others) =
    absurd (kept (no-more (piece next) (spliced piece more) (sym (ap (spliced piece) same) ∙ others)))

-- from each line on, none are left or the last is a terminator
ends-from : (piece : Line → List Line) (all front lines : List Line) → all ≡ front ++ lines
    → ((before : List Line) (line : Line) (after : List Line) → all ≡ before ++ line ∷ after
    → EndsWell piece line after)
    → (spliced piece lines ≡ []) ⊎ EndsInTerminator (spliced piece lines)
ends-from piece all front [] whole each = inl refl
ends-from piece all front (line ∷ lines) whole each =
    ends-here piece line lines (each front line lines whole)
    (ends-from piece all (front ++ line ∷ []) lines (whole ∙ sym (append_assoc front (line ∷ []) lines)) each)

-- some are left, so the last is a terminator
some-left : (lines : List Line) → (lines ≡ [] → ⊥) → (lines ≡ []) ⊎ EndsInTerminator lines → EndsInTerminator lines
some-left lines some (inl none) = absurd (some none)
some-left lines some (inr ends) = ends

-- the new lines end in a terminator, if some are left
pub ends-spliced : (piece : Line → List Line) (lines : List Line)
    → ((before : List Line) (line : Line) (after : List Line) → lines ≡ before ++ line ∷ after
    → EndsWell piece line after)
    → (spliced piece lines ≡ [] → ⊥) → EndsInTerminator (spliced piece lines)
ends-spliced piece lines each some = some-left (spliced piece lines) some (ends-from piece lines [] lines refl each)
