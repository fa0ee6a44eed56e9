-- How the variables of a version grow, name by name.
use Rattle.std.proofs.Common.{◌≡◌, ◌≢◌, ℕ, false, List, [], ◌∷◌, ◌++◌, refl, sym}
use Rattle.std.proofs.lemmas.Bool.{or_from, false_from_ne_true}
use Rattle.std.specs.List.{AllByRecursion, list_any}
use Rattle.std.specs.Str.{bytes_eq}
use Rattle.std.proofs.lemmas.Slice.Eq.{bytes_eq-Decides}
use Rattle.sour_raw.specs.declared.raw.RawLine.{RawLine}
use Rattle.sour_raw.specs.Mentions.{instr_names, with_name, with_names, with_lines}

-- a name that differs from each isn't among them
pub none_at : (names : List (List ℕ)) (name : List ℕ) → AllByRecursion (λ other. other ≢ name) names → list_any (bytes_eq name) names ≡ false
none_at [] name differ = refl
none_at (first ∷ names) name differ =
    or_from (bytes_eq name first) (list_any (bytes_eq name) names)
    (false_from_ne_true (bytes_eq name first) (λ is. differ.0 (sym ((bytes_eq-Decides name first).0 is)))) (none_at names name differ.1)

-- to put the names of two lists after others is to put those of the first, and then those of the second
pub with_names_append : (names first second : List (List ℕ)) → with_names names (first ++ second) ≡ with_names (with_names names first) second
with_names_append names [] second = refl
with_names_append names (name ∷ first) second = with_names_append (with_name names name) first second

-- two lists of lines add the variables of the first, and then those of the second
pub with_lines_append : (names : List (List ℕ)) (first second : List RawLine) → with_lines names (first ++ second) ≡ with_lines (with_lines names first) second
with_lines_append names [] second = refl
with_lines_append names (line ∷ first) second = with_lines_append (with_names names (instr_names line.instr)) first second
