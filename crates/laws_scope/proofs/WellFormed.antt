-- Where names are right, the body of a version is well formed.
use Rattle.std.proofs.Common.{◌≡◌, ◌+◌, ◌<◌, ℕ, suc, Bool, true, false, cond, List, [], ◌∷◌, ◌++◌, Contains, length, map, refl, sym, ap, ◌∙◌, subst, arith}
use Rattle.std.specs.List.{AllByRecursion}
use Rattle.std.proofs.lemmas.List.{length-append}
use Rattle.std.proofs.lemmas.List.Elements.{Contains-append_left, Contains-append_right}
use Rattle.sour_syntax.specs.declared.literal.VarId.{VarId}
use Rattle.sour_syntax.specs.declared.instruction.Line.{Line}
use Rattle.sour_syntax.specs.Body.{IsWellFormed}
use Rattle.sour_syntax.specs.Program.{NamesDiffer}
use Rattle.sour_syntax.specs.Scopes.{mentioned}
use Rattle.sour_syntax.proofs.Everywhere.{AllByRecursion-weaker}
use Rattle.sour_raw.specs.declared.raw.RawLine.{RawLine}
use Rattle.sour_raw.specs.declared.raw.RawVersion.{RawVersion}
use Rattle.sour_raw.specs.declared.raw.RawFunction.{RawFunction}
use Rattle.sour_raw.specs.declared.raw.RawJob.{RawJob}
use Rattle.sour_raw.specs.Mentions.{instr_names, with_name, with_names, with_lines}
use Rattle.sour_raw.specs.Written.{IsWritten}
use Rattle.sour_checked.specs.Outline.{outline}
use Rattle.sour_checked.specs.Numbered.{lines_of}
use Rattle.sour_checked.specs.Names.{is_among, names_broken}
use Rattle.sour_checked.specs.Texts.{TextVersion, text_version, text_versions, variables, body}
use Rattle.laws_scope.specs.Right.{HasNames, HasDistinctNames}
use Rattle.laws_scope.proofs.Kit.{AreAmong, among_contains, iff_append}
use Rattle.laws_scope.proofs.MentionLaws.{mentioned-names}
use Rattle.laws_scope.proofs.TargetRules.{numbers_below}
use Rattle.laws_scope.proofs.NameStage.{names_exactly}
use Rattle.laws_scope.proofs.VariableNames.{Begins, with_names-begins, with_lines-begins, parameters_first}

-- names that begin others are among them
among_begins : (front whole some : List (List ℕ)) → Begins front whole → AreAmong front some → AreAmong whole some
among_begins front whole some begins among =
    AllByRecursion-weaker (λ name. is_among front name ≡ true) (λ name. is_among whole name ≡ true)
    (λ name is. (among_contains whole name).1
    (subst (λ all. Contains all name) (sym begins.is)
    (Contains-append_left front begins.others name ((among_contains front name).0 is)))) some among

-- a name is among those after which it is put
among_put : (names : List (List ℕ)) (name : List ℕ) (test : Bool) → is_among names name ≡ test
    → is_among (cond test names (names ++ name ∷ [])) name ≡ true
among_put names name true is = is
among_put names name false is = (among_contains (names ++ name ∷ []) name).1
    (Contains-append_right names (name ∷ []) name (0, omega arith, refl))

-- and so is each of some
among_each : (names others : List (List ℕ)) → AreAmong (with_names names others) others
among_each names [] = tt
among_each names (name ∷ others) = (
  (among_begins (with_name names name) (with_names (with_name names name) others) (name ∷ [])
      (with_names-begins (with_name names name) others) (among_put names name _ refl, tt)).0,
  among_each (with_name names name) others,
)

-- the names that lines mention are among the variables
pub among_lines : (names : List (List ℕ)) (lines : List RawLine)
    → AllByRecursion (λ (line : RawLine). AreAmong (with_lines names lines) (instr_names line.instr)) lines
among_lines names [] = tt
among_lines names (line ∷ lines) = (
  among_begins (with_names names (instr_names line.instr))
      (with_lines (with_names names (instr_names line.instr)) lines) (instr_names line.instr)
      (with_lines-begins (with_names names (instr_names line.instr)) lines) (among_each names (instr_names line.instr)),
  among_lines (with_names names (instr_names line.instr)) lines,
)

-- so a body mentions its own
pub mentions : (functions : List RawFunction) (names : List (List ℕ)) (place : ℕ) (lines : List RawLine)
    → AllByRecursion (λ (line : RawLine). AreAmong names (instr_names line.instr)) lines
    → AllByRecursion (λ (line : Line). AllByRecursion (λ (x : VarId). x.0 < length names) (mentioned line.instr))
    (lines_of (outline functions) names place lines)
mentions functions names place [] among = tt
mentions functions names place (line ∷ lines) among = (
  subst (AllByRecursion (λ (x : VarId). x.0 < length names))
      (sym (mentioned-names (outline functions) names line.instr))
      ((numbers_below names (instr_names line.instr)).0 among.0),
  mentions functions names (suc place) lines among.1,
)

-- the body of a version whose names are right is well formed
pub well_formed : (functions : List RawFunction) (text : TextVersion) → NamesDiffer text.parameters
    → HasNames functions text → IsWellFormed (body functions text)
well_formed functions text differ names =
    let first = parameters_first text.parameters text.version.lines differ in
    let count : length (variables text) ≡ length text.parameters + length first.0 =
    ap length first.1 ∙ length-append text.parameters first.0 in
    record {
      parameters = omega arith;
      labels = names.labels;
      end = names.end;
      jumps = names.jumps;
      mentions = mentions functions (variables text) 0 text.version.lines
          (among_lines (with_names [] text.parameters) text.version.lines);
    }

-- no two parameters of a version have the same name
abbrev pub TakesDistinct : TextVersion → Type 0
TakesDistinct text = NamesDiffer text.parameters

versions_distinct : (number : ℕ) (function : RawFunction) (versions : List RawVersion)
    → NamesDiffer function.parameters → AllByRecursion TakesDistinct (map (text_version number function) versions)
versions_distinct number function [] differ = tt
versions_distinct number function (version ∷ versions) differ =
    (differ, versions_distinct number function versions differ)

texts_distinct : (number : ℕ) (some : List RawFunction) → AllByRecursion HasDistinctNames some
    → AllByRecursion TakesDistinct (text_versions number some)
texts_distinct number [] distinct = tt
texts_distinct number (function ∷ some) distinct =
    (iff_append TakesDistinct (map (text_version number function) function.versions)
    (text_versions (suc number) some)).1 (
      versions_distinct number function function.versions distinct.0.parameters,
      texts_distinct (suc number) some
          distinct.1,
    )

-- and so is that of each version of a text
each_well_formed : (functions : List RawFunction) (texts : List TextVersion) → AllByRecursion TakesDistinct texts
    → AllByRecursion (HasNames functions) texts
    → AllByRecursion (λ text. IsWellFormed (body functions text)) texts
each_well_formed functions [] differ names = tt
each_well_formed functions (text ∷ texts) differ names =
    (well_formed functions text differ.0 names.0, each_well_formed functions texts differ.1 names.1)

pub all_well_formed : (raw : RawJob) → IsWritten raw → names_broken raw ≡ []
    → AllByRecursion (λ text. IsWellFormed (body raw.functions text)) (text_versions 0 raw.functions)
all_well_formed raw written none =
    let right = (names_exactly raw written).0 none in
    each_well_formed raw.functions (text_versions 0 raw.functions) (texts_distinct 0 raw.functions right.each)
    right.versions
