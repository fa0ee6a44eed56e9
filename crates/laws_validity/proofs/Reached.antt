-- A label to which a path leads is that of a line.
use Rattle.std.proofs.Common.{◌≡◌, ◌≢◌, ◌⊎◌, inl, inr, ⊎_elim, ℕ, zero, suc, List, [], ◌∷◌, Bool, true, false, cond, refl, sym, ap, ◌∙◌, subst, Contains}
use Rattle.std.specs.List.{AllByRecursion}
use Rattle.std.specs.Str.{bytes_eq}
use Rattle.std.proofs.lemmas.List.Elements.{All-from_recursion, All-contains, All-map}
use Rattle.std.proofs.lemmas.Slice.Eq.{bytes_eq-Decides}
use Rattle.sour_syntax.specs.declared.instruction.Instr.{Instr}
use Rattle.sour_syntax.specs.declared.instruction.Instr.TheVariants.{Branch, Goto, Return, Stop}
use Rattle.sour_syntax.specs.declared.instruction.Line.{Line}
use Rattle.sour_syntax.specs.Body.{IsBody}
use Rattle.sour_syntax.specs.BodyView.{BodyView}
use Rattle.sour_syntax.specs.Jumps.{named_labels}
use Rattle.sour_syntax.specs.Labels.{from_label, first_label, labels_of}
use Rattle.sour_syntax.specs.Scopes.{Scope, following_labels, HasScope}
use Rattle.sour_syntax.specs.Terminator.{IsTerminator, EndsInTerminator}
use Rattle.sour_syntax.proofs.Everywhere.{Contains-one}
use Rattle.sour_syntax.proofs.NoExits.{taken, All-from_label}

-- no line has this label
abbrev HaveNot : List ℕ → List Line → Type 0
HaveNot label lines = AllByRecursion (λ (line : Line). line.label ≢ label) lines

-- where there are no lines from a label on, the first line hasn't it, nor has one behind it
absent_first : (label : List ℕ) (line : Line) (lines found : List Line) (test : Bool) → bytes_eq line.label label ≡ test
    → (found ≡ [] → HaveNot label lines) → cond test (line ∷ lines) found ≡ [] → HaveNot label (line ∷ lines)
absent_first label line lines found true is inner none = absurd (cc)
absent_first label line lines found false is inner none =
    ((λ same. let found : bytes_eq line.label label ≡ true = (bytes_eq-Decides line.label label).1 same in absurd (cc)), inner none)

-- where there are no lines from a label on, no line has it
absent : (label : List ℕ) (lines : List Line) → from_label label lines ≡ [] → HaveNot label lines
absent label [] none = tt
absent label (line ∷ lines) none =
    absent_first label line lines (from_label label lines) (bytes_eq line.label label) refl (absent label lines) none

-- some line has the label of the first
first_at : (label : List ℕ) (lines : List Line) → EndsInTerminator lines → label ≡ first_label lines → HaveNot label lines → ⊥
first_at label [] end is not = absurd end
first_at label (line ∷ lines) end is not = not.0 (sym is)

-- the same of the line behind the first, where that is the one before
next_first : (label : List ℕ) (first : Line) (lines : List Line) (line : Line) (rest : List Line)
    → EndsInTerminator (first ∷ lines) → (IsTerminator line.instr → ⊥) → label ≡ first_label rest → HaveNot label lines
    → first ≡ line → lines ≡ rest → ⊥
next_first label first [] line rest end going is not same others =
    let Ends : Line → Type 0 = λ other. IsTerminator other.instr in
    going (subst Ends same end)
next_first label first (next ∷ lines) line rest end going is not same others = not.0 (sym (is ∙ ap first_label (sym others)))

-- some line has the label of the one behind a line that is no terminator
next_at : (from label : List ℕ) (lines : List Line) (line : Line) (rest : List Line) → EndsInTerminator lines
    → (IsTerminator line.instr → ⊥) → label ≡ first_label rest → HaveNot label lines → from_label from lines ≡ line ∷ rest → ⊥
next_at from label [] line rest end going is not stands = absurd end
next_at from label (first ∷ []) line rest end going is not stands =
    taken ⊥ (bytes_eq first.label from) first [] [] line rest (λ here. next_first label first [] line rest end going is not.1)
    (λ (none : [] ≡ line ∷ rest). cc) stands
next_at from label (first ∷ next ∷ lines) line rest end going is not stands =
    taken ⊥ (bytes_eq first.label from) first (next ∷ lines) (from_label from (next ∷ lines)) line rest
    (λ here. next_first label first (next ∷ lines) line rest end going is not.1)
    (next_at from label (next ∷ lines) line rest end going is not.1) stands

-- some line has a label that is among those of the lines
named_at : (label : List ℕ) (lines : List Line) → Contains (labels_of lines) label → HaveNot label lines → ⊥
named_at label lines known not =
    let differs : List ℕ → Type 0 = λ name. name ≢ label in
    All-contains differs (labels_of lines) label
    (All-map differs (λ (line : Line). line.label) lines (All-from_recursion (λ (line : Line). line.label ≢ label) lines not)) known refl

-- what follows an instruction is the line behind it, where it is no terminator, or has a label that it names
followed : (instr : Instr) (next label : List ℕ) → Contains (following_labels instr next) label
    → ((IsTerminator instr → ⊥) × (label ≡ next)) ⊎ Contains (named_labels instr) label
followed (Branch e a b) next label contains = inr contains
followed (Goto a) next label contains = inr contains
followed (Return e) next label contains = inr contains
followed Stop next label contains = inr contains
followed instr next label contains = inl ((λ none. none), Contains-one next label contains)

-- there are lines from a label on to which a path leads
pub reached : (body : BodyView) (count : ℕ) (label : List ℕ) (scope : Scope) → IsBody body → HasScope body count label scope
    → from_label label body.lines ≡ [] → ⊥
reached body zero label scope is path none = first_at label body.lines is.end path.0 (absent label body.lines none)
reached body (suc count) label scope is (from, before, line, rest, path, at, contains, same) none =
    ⊎_elim
    (λ onward. next_at from label body.lines line rest is.end onward.0 onward.1 (absent label body.lines none) at.stands)
    (λ named.
    let Known : List ℕ → Type 0 = Contains (labels_of body.lines) in
    let names : AllByRecursion Known (named_labels line.instr) =
    All-from_label (λ (other : Line). AllByRecursion Known (named_labels other.instr)) from body.lines line rest is.jumps at.stands in
    named_at label body.lines (All-contains Known (named_labels line.instr) label (All-from_recursion Known (named_labels line.instr) names) named)
    (absent label body.lines none))
    (followed line.instr (first_label rest) label contains)
