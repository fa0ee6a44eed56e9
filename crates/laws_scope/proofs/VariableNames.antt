-- The variables of a version: no two have the same name, and the parameters come first.
use Rattle.std.proofs.Common.{◌≡◌, ◌≢◌, ℕ, Bool, true, false, cond, List, [], ◌∷◌, ◌++◌, append_assoc, append-nil, refl, sym, ap, ◌∙◌, subst}
use Rattle.std.specs.List.{AllByRecursion, list_any}
use Rattle.std.specs.Str.{bytes_eq}
use Rattle.sour_syntax.specs.Program.{NamesDiffer}
use Rattle.sour_syntax.proofs.Everywhere.{AllByRecursion-parts}
use Rattle.sour_raw.specs.declared.raw.RawLine.{RawLine}
use Rattle.sour_raw.specs.Mentions.{with_name, with_names, with_lines, instr_names, variables_of}
use Rattle.sour_raw.proofs.MentionLaws.{none_at}
use Rattle.laws_scope.proofs.Kit.{among_not}
use Rattle.laws_scope.proofs.NameLaws.{NamesDiffer-push}

-- a name that is put behind others or not
chosen-differ : (names : List (List ℕ)) (name : List ℕ) (test : Bool) → list_any (bytes_eq name) names ≡ test
    → NamesDiffer names
    → NamesDiffer (cond test names (names ++ name ∷ []))
chosen-differ names name true is differ = differ
chosen-differ names name false is differ = NamesDiffer-push names name differ ((among_not names name).0 is)

-- names differ when others are put behind them
with_names-differ : (names others : List (List ℕ)) → NamesDiffer names → NamesDiffer (with_names names others)
with_names-differ names [] differ = differ
with_names-differ names (name ∷ others) differ =
    with_names-differ (with_name names name) others
    (chosen-differ names name (list_any (bytes_eq name) names) refl differ)

-- and they differ when the names that lines mention are put behind them
with_lines-differ : (names : List (List ℕ)) (lines : List RawLine) → NamesDiffer names
    → NamesDiffer (with_lines names lines)
with_lines-differ names [] differ = differ
with_lines-differ names (line ∷ lines) differ =
    with_lines-differ (with_names names (instr_names line.instr)) lines
    (with_names-differ names (instr_names line.instr) differ)

-- no two variables of a version have the same name
pub variables_differ : (parameters : List (List ℕ)) (lines : List RawLine) → NamesDiffer (variables_of parameters lines)
variables_differ parameters lines =
    with_lines-differ (with_names [] parameters) lines (with_names-differ [] parameters tt)

-- a name behind others that all differ isn't among them
pub behind_absent : (names : List (List ℕ)) (name : List ℕ) (others : List (List ℕ)) → NamesDiffer (names ++ name ∷ others)
    → AllByRecursion (λ other. other ≢ name) names
behind_absent [] name others differ = tt
behind_absent (first ∷ names) name others differ = (
  (λ same. (AllByRecursion-parts (λ other. other ≢ first) names (name ∷ others) differ.0).1.0 (sym same)),
  behind_absent names name others differ.1,
)

-- names that all differ are put behind one another
pub with_names-all_new : (names others : List (List ℕ)) → NamesDiffer (names ++ others)
    → with_names names others ≡ names ++ others
with_names-all_new names [] differ = sym (append-nil names)
with_names-all_new names (name ∷ others) differ =
    let new : with_name names name ≡ names ++ name ∷ [] =
    ap (λ test. cond test names (names ++ name ∷ [])) (none_at names name (behind_absent names name others differ)) in
    let together : (names ++ name ∷ []) ++ others ≡ names ++ name ∷ others = append_assoc names (name ∷ []) others in
    ap (λ zs. with_names zs others) new
    ∙ with_names-all_new (names ++ name ∷ []) others (subst NamesDiffer (sym together) differ) ∙ together

-- what stands in front, whatever is put behind
pub record Begins (front whole : List (List ℕ)) : Type 0 where
  pub others : List (List ℕ)
  pub is : whole ≡ front ++ others

-- names stand in front, whether one more is put behind them or not
chosen-begins : (names : List (List ℕ)) (name : List ℕ) (test : Bool)
    → Begins names (cond test names (names ++ name ∷ []))
chosen-begins names name true = record { others = []; is = sym (append-nil names) }
chosen-begins names name false = record { others = name ∷ []; is = refl }

-- what begins what begins a list begins the list
pub further : (front middle whole : List (List ℕ)) → Begins front middle → Begins middle whole → Begins front whole
further front middle whole first second = record {
  others = first.others ++ second.others;
  is = second.is ∙ ap (λ zs. zs ++ second.others) first.is ∙ append_assoc front first.others second.others;
}

-- names stay in front when others are put behind them
pub with_names-begins : (names others : List (List ℕ)) → Begins names (with_names names others)
with_names-begins names [] = record { others = []; is = sym (append-nil names) }
with_names-begins names (name ∷ others) =
    further names (with_name names name) (with_names (with_name names name) others)
    (chosen-begins names name (list_any (bytes_eq name) names)) (with_names-begins (with_name names name) others)

-- and they stay in front when the names that lines mention are put behind them
pub with_lines-begins : (names : List (List ℕ)) (lines : List RawLine) → Begins names (with_lines names lines)
with_lines-begins names [] = record { others = []; is = sym (append-nil names) }
with_lines-begins names (line ∷ lines) =
    further names (with_names names (instr_names line.instr))
    (with_lines (with_names names (instr_names line.instr)) lines)
    (with_names-begins names (instr_names line.instr))
    (with_lines-begins (with_names names (instr_names line.instr)) lines)

-- the parameters come first among the variables of a version
pub parameters_first : (parameters : List (List ℕ)) (lines : List RawLine) → NamesDiffer parameters
    → (others : List (List ℕ)) × (variables_of parameters lines ≡ parameters ++ others)
parameters_first parameters lines differ =
    let begins : Begins (with_names [] parameters) (variables_of parameters lines) =
    with_lines-begins (with_names [] parameters) lines in
    (begins.others, begins.is ∙ ap (λ zs. zs ++ begins.others) (with_names-all_new [] parameters differ))
