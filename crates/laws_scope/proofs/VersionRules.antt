-- What it says of the body of a version that no rule of its labels, its jumps and its end is broken.
use Rattle.std.proofs.Common.{◌≡◌, ◌≢◌, ◌↔◌, ℕ, suc, true, List, [], ◌∷◌, Contains, map, refl, ap, subst}
use Rattle.std.specs.List.{AllByRecursion}
use Rattle.sour_syntax.specs.declared.instruction.Line.{Line}
use Rattle.sour_syntax.specs.Jumps.{named_labels}
use Rattle.sour_syntax.specs.Labels.{labels_of, LabelsDiffer}
use Rattle.sour_syntax.specs.Program.{NamesDiffer}
use Rattle.sour_syntax.specs.Terminator.{IsTerminator, EndsInTerminator}
use Rattle.sour_raw.specs.declared.raw.RawInstr.{RawInstr}
use Rattle.sour_raw.specs.declared.raw.RawInstr.TheVariants.{Var, Drop, Assign, ArrayLength, ArrayList, Store, Print, Read, Branch, Goto, Call, Return, Stop, Assume}
use Rattle.sour_raw.specs.declared.raw.RawLine.{RawLine}
use Rattle.sour_raw.specs.declared.raw.RawFunction.{RawFunction}
use Rattle.sour_checked.specs.Outline.{outline}
use Rattle.sour_checked.specs.Numbered.{label_of, instr_of, lines_of}
use Rattle.sour_checked.specs.Texts.{labels_from}
use Rattle.sour_checked.specs.Parts.{instr_labels, is_terminator}
use Rattle.sour_checked.specs.Names.{Labelled, labelled, repeated, end_broken, unknown_each, is_among}
use Rattle.laws_scope.proofs.Kit.{iff_then, iff_both, iff_each, none_if_not, differ_none, known_each, among_contains}

-- the label of a labelled thing, and its line
abbrev pub its_label : Labelled → List ℕ
its_label it = it.label

abbrev pub its_line : Labelled → ℕ
its_line it = it.line

module _ (functions : List RawFunction) (names : List (List ℕ)) where
  -- the lines of the body have the labels that the text gives them
  pub labels_are : (place : ℕ) (lines : List RawLine)
      → labels_of (lines_of (outline functions) names place lines) ≡ labels_from place lines
  labels_are place [] = refl
  labels_are place (line ∷ lines) = ap (λ others. label_of place line.label ∷ others) (labels_are (suc place) lines)

  -- a label is none of theirs
  label_is_other : (label : List ℕ) (place : ℕ) (lines : List RawLine)
      → AllByRecursion (λ (other : List ℕ). other ≢ label) (map its_label (labelled place lines))
      ↔ AllByRecursion (λ (other : Line). other.label ≢ label) (lines_of (outline functions) names place lines)
  label_is_other label place [] = ((λ all. tt), λ all. tt)
  label_is_other label place (line ∷ lines) = iff_both ((λ is. is), λ is. is) (label_is_other label (suc place) lines)

  -- their labels differ
  labels_differ : (place : ℕ) (lines : List RawLine) → NamesDiffer (map its_label (labelled place lines))
      ↔ LabelsDiffer (lines_of (outline functions) names place lines)
  labels_differ place [] = ((λ all. tt), λ all. tt)
  labels_differ place (line ∷ lines) = iff_both (label_is_other (label_of place line.label) (suc place) lines)
      (labels_differ (suc place) lines)

  -- no label stands twice
  pub labels_rule : (place : ℕ) (lines : List RawLine) → (repeated its_label its_line [] (labelled place lines) ≡ [])
      ↔ LabelsDiffer (lines_of (outline functions) names place lines)
  labels_rule place lines = iff_then (differ_none its_label its_line (labelled place lines)) (labels_differ place lines)

  -- an instruction is a terminator where the one that is written is
  terminates : (instr : RawInstr) → (is_terminator instr ≡ true)
      ↔ IsTerminator (instr_of (outline functions) names instr)
  terminates (Var x e) = ((λ is. absurd (cc)), λ is. absurd is)
  terminates (Drop x) = ((λ is. absurd (cc)), λ is. absurd is)
  terminates (Assign x e) = ((λ is. absurd (cc)), λ is. absurd is)
  terminates (ArrayLength x e) = ((λ is. absurd (cc)), λ is. absurd is)
  terminates (ArrayList x es) = ((λ is. absurd (cc)), λ is. absurd is)
  terminates (Store x index e) = ((λ is. absurd (cc)), λ is. absurd is)
  terminates (Print e) = ((λ is. absurd (cc)), λ is. absurd is)
  terminates (Read x) = ((λ is. absurd (cc)), λ is. absurd is)
  terminates (Branch e a b) = ((λ is. tt), λ is. refl)
  terminates (Goto a) = ((λ is. tt), λ is. refl)
  terminates (Call x callee es) = ((λ is. absurd (cc)), λ is. absurd is)
  terminates (Return e) = ((λ is. tt), λ is. refl)
  terminates Stop = ((λ is. tt), λ is. refl)
  terminates (Assume es exit) = ((λ is. absurd (cc)), λ is. absurd is)

  -- the version ends in a terminator
  pub end_rule : (line place : ℕ) (lines : List RawLine) → (end_broken line lines ≡ [])
      ↔ EndsInTerminator (lines_of (outline functions) names place lines)
  end_rule line place [] = ((λ is. absurd (cc)), λ is. absurd is)
  end_rule line place (last ∷ []) = iff_then (none_if_not (is_terminator last.instr) 7 last.line)
      (terminates last.instr)
  end_rule line place (first ∷ next ∷ lines) = end_rule line (suc place) (next ∷ lines)

  -- an instruction names the labels that are written
  labels_named : (instr : RawInstr) → instr_labels instr ≡ named_labels (instr_of (outline functions) names instr)
  labels_named (Var x e) = refl
  labels_named (Drop x) = refl
  labels_named (Assign x e) = refl
  labels_named (ArrayLength x e) = refl
  labels_named (ArrayList x es) = refl
  labels_named (Store x index e) = refl
  labels_named (Print e) = refl
  labels_named (Read x) = refl
  labels_named (Branch e a b) = refl
  labels_named (Goto a) = refl
  labels_named (Call x callee es) = refl
  labels_named (Return e) = refl
  labels_named Stop = refl
  labels_named (Assume es exit) = refl

  -- each label that an instruction goes to is one of these
  pub jumps_rule : (line : ℕ) (labels : List (List ℕ)) (instr : RawInstr)
      → (unknown_each line labels (instr_labels instr) ≡ [])
      ↔ AllByRecursion (Contains labels) (named_labels (instr_of (outline functions) names instr))
  jumps_rule line labels instr =
      let P : List (List ℕ) → Type 0 = λ some. (unknown_each line labels some ≡ [])
      ↔ AllByRecursion (Contains labels) some in
      let Q : List (List ℕ) → Type 0 = λ some. (unknown_each line labels (instr_labels instr) ≡ [])
      ↔ AllByRecursion (Contains labels) some in
      let law : P (instr_labels instr) =
      iff_then (known_each line labels (instr_labels instr))
      (iff_each (λ name. is_among labels name ≡ true) (Contains labels) (among_contains labels) (instr_labels instr)) in
      subst Q (labels_named instr) law
