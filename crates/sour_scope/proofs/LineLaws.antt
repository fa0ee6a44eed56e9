-- The lines so far, when one more is made.
use Rattle.std.proofs.Common.{◌≡◌, ◌+◌, ℕ, suc, false, List, [], ◌∷◌, ◌++◌, Some, length, take, drop, nat_lt, sym, ap, ◌∙◌, subst, arith}
use Rattle.std.specs.List.{slice_get}
use Rattle.std.proofs.lemmas.Bool.{ltb_from_iff}
use Rattle.std.proofs.lemmas.List.{length-take-le}
use Rattle.std.proofs.lemmas.Option.{slice_get_within, get_or_from_slice_get}
use Rattle.std.proofs.Math.Seq.{split_at}
use Rattle.sour_syntax.specs.declared.instruction.Line.{Line}
use Rattle.sour_syntax.specs.Program.{NamesDiffer}
use Rattle.sour_syntax.proofs.Everywhere.{take_next}
use Rattle.sour_raw.specs.declared.raw.RawLine.{RawLine}
use Rattle.sour_raw.specs.declared.raw.RawFunction.{RawFunction}
use Rattle.sour_checked.specs.Outline.{FunctionNames}
use Rattle.sour_checked.specs.Numbered.{label_of, instr_of, lines_of}
use Rattle.sour_checked.specs.Names.{is_among}
use Rattle.sour_checked.specs.Texts.{TextVersion, number_in, labels}
use Rattle.laws_scope.specs.TextOrder.{stands_before, line_in_order}
use Rattle.laws_scope.proofs.Kit.{among_not}
use Rattle.laws_scope.proofs.NameLaws.{NamesDiffer-push}
use Rattle.laws_scope.proofs.SameRules.{among_front}
use Rattle.sour_scope.proofs.LineRules.{label_at, label_new}

module _ (functions : List FunctionNames) (names : List (List ℕ)) where
  -- the line that is made at a place
  abbrev line_at : ℕ → RawLine → Line
  line_at place line = record { label = label_of place line.label; instr = instr_of functions names line.instr }

  -- the lines with one more
  lines_of-push : (start place : ℕ) (front : List RawLine) (line : RawLine) → place ≡ start + length front
      → lines_of functions names start (front ++ line ∷ []) ≡ lines_of functions names start front ++ line_at place line ∷ []
  lines_of-push start place [] line is =
      let same : start ≡ place = omega arith in ap (λ at. line_at at line ∷ []) same
  lines_of-push start place (first ∷ front) line is =
      ap (λ lines. line_at start first ∷ lines) (lines_of-push (suc start) place front line (omega arith))

  -- one more line
  pub lines_more : (front : List RawLine) (lines : List Line) (line : RawLine) (place : ℕ) (made : Line)
      → lines ≡ lines_of functions names 0 front → place ≡ length front → made ≡ line_at place line
      → lines ++ made ∷ [] ≡ lines_of functions names 0 (front ++ line ∷ [])
  lines_more front lines line place made before counted is =
      ap (λ zs. zs ++ made ∷ []) before ∙ ap (λ it. lines_of functions names 0 front ++ it ∷ []) is
      ∙ sym (lines_of-push 0 place front line (omega arith))

-- names that differ, and behind them one that doesn't stand before
differ_more : (all : List (List ℕ)) (name : List ℕ) (place : ℕ) → slice_get all place ≡ Some name
    → stands_before all name place ≡ false → NamesDiffer (take place all) → NamesDiffer (take (place + 1) all)
differ_more all name place at before differ =
    let within = slice_get_within all place name at in
    let here = get_or_from_slice_get all place name name at in
    let front = take place all in
    let others = name ∷ drop (suc place) all in
    let cut : all ≡ front ++ others =
    split_at all place name within ∙ ap (λ x. front ++ x ∷ drop (suc place) all) here in
    let count : length front ≡ place = length-take-le place all (omega (arith, within)) in
    let absent : is_among front name ≡ false =
    ltb_from_iff (among_front front others name)
    ∙ ap (λ n. nat_lt (number_in (front ++ others) name) n) count
    ∙ ap (λ (names : List (List ℕ)). nat_lt (number_in names name) place) (sym cut)
    ∙ before in
    subst NamesDiffer (sym (take_next all place name within (sym here)))
    (NamesDiffer-push front name differ ((among_not front name).0 absent))

-- no two labels of the lines so far are the same, nor with one more that breaks no rule
pub labels_more : (functions : List RawFunction) (text : TextVersion) (place : ℕ) (line : RawLine)
    → slice_get text.version.lines place ≡ Some line → line_in_order functions text place line ≡ []
    → NamesDiffer (take place (labels text)) → NamesDiffer (take (place + 1) (labels text))
labels_more functions text place line at none differ =
    differ_more (labels text) (label_of place line.label) place
    (label_at 0 place text.version.lines line place (omega arith) at)
    (label_new functions text place line none) differ
