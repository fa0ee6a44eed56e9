-- The names of a text, and the labels of its lines, begin with a letter or `_`, and have no `/`.
use Rattle.std.proofs.Common.{◌≡◌, ◌≢◌, ◌⊎◌, inl, inr, ◌+◌, ◌<◌, ◌^◌, ℕ, suc, true, List, [], ◌∷◌, length, sym, ap, ◌∙◌, subst, arith}
use Rattle.std.specs.List.{AllByRecursion, AllPass}
use Rattle.std.proofs.lemmas.List.Elements.{All-head, All-tail}
use Rattle.sour_tokens.specs.Byte.{begins_word, continues_word}
use Rattle.sour_syntax.specs.declared.instruction.Line.{Line}
use Rattle.sour_syntax.specs.declared.program.Function.{Function}
use Rattle.sour_syntax.specs.declared.program.Version.{Version}
use Rattle.sour_syntax.specs.Labels.{automatic_label}
use Rattle.sour_syntax.specs.Name.{IsName}
use Rattle.sour_syntax.specs.Program.{IsUnqualifiedName, HasLabels, IsVersion}
use Rattle.sour_syntax.proofs.AutomaticLabels.{unqualified_automatic}

-- a byte with which a word goes on isn't `/`
not_slash : (byte : ℕ) → continues_word byte ≡ true → byte ≢ 47
not_slash byte goes same = let at : continues_word 47 ≡ true = ap continues_word (sym same) ∙ goes in cc

-- what goes on in a word has no `/`
none_slash : (bytes : List ℕ) → AllPass continues_word bytes → AllByRecursion (λ byte. byte ≢ 47) bytes
none_slash [] all = tt
none_slash (byte ∷ bytes) all =
    (not_slash byte (All-head (λ b. continues_word b ≡ true) byte bytes all), none_slash bytes (All-tail (λ b. continues_word b ≡ true) byte bytes all))

-- neither is what a word begins with
begins_not_slash : (byte : ℕ) → begins_word byte ≡ true → byte ≢ 47
begins_not_slash byte goes same = let at : begins_word 47 ≡ true = ap begins_word (sym same) ∙ goes in cc

-- a name is unqualified
unqualified_name : (name : List ℕ) → IsName name → IsUnqualifiedName name
unqualified_name [] is = absurd is.word
unqualified_name (byte ∷ bytes) is = record {
  begins = is.word.0;
  whole = (
    begins_not_slash byte is.word.0,
    none_slash bytes is.word.1,
  );
}

-- names are unqualified
unqualified_names : (names : List (List ℕ)) → AllByRecursion IsName names → AllByRecursion IsUnqualifiedName names
unqualified_names [] all = tt
unqualified_names (name ∷ names) all = (unqualified_name name all.0, unqualified_names names all.1)

-- a label that is a name is unqualified, and so is an automatic one
unqualified_label : (label : List ℕ) (place : ℕ) → place < 2 ^ 64 → (IsName label ⊎ (label ≡ automatic_label place)) → IsUnqualifiedName label
unqualified_label label place small (inl name) = unqualified_name label name
unqualified_label label place small (inr automatic) = subst IsUnqualifiedName (sym automatic) (unqualified_automatic place small)

-- lines whose labels are such have unqualified labels, as long as their places fit in 64 bits
unqualified_lines : (place : ℕ) (lines : List Line) → place + length lines < 2 ^ 64 → HasLabels place lines → AllByRecursion (λ (line : Line). IsUnqualifiedName line.label) lines
unqualified_lines place [] small labels = tt
unqualified_lines place (line ∷ lines) small labels =
    (unqualified_label line.label place (omega arith) labels.0, unqualified_lines (suc place) lines (omega arith) labels.1)

module _ (functions : List Function) (number : ℕ) (parameters : List (List ℕ)) (version : Version) (is : IsVersion functions number parameters version) where
  -- the labels of a version are unqualified
  pub unqualified_labels : AllByRecursion (λ (line : Line). IsUnqualifiedName line.label) version.body.lines
  unqualified_labels = unqualified_lines 0 version.body.lines (omega (arith, is.lines)) is.labels

  -- and so are the names of its variables
  pub unqualified_variables : AllByRecursion IsUnqualifiedName version.body.variables
  unqualified_variables = unqualified_names version.body.variables is.names
