-- Which rules a line breaks, in the words of what is done with it.
use Rattle.std.proofs.Common.{◌≡◌, ◌↔◌, ◌+◌, ℕ, zero, suc, Bool, true, false, not, ◌&&◌, nat_eq, List, [], ◌∷◌, ◌++◌, Option, None, Some, length, refl, sym, ap, ◌∙◌, subst, arith}
use Rattle.std.specs.Option.{option_map}
use Rattle.std.specs.List.{AllByRecursion, flat_map, slice_get}
use Rattle.std.proofs.lemmas.Bool.Decides.{Decides-eqb}
use Rattle.sour_syntax.specs.declared.instruction.Instr.{Instr}
use Rattle.sour_syntax.specs.declared.instruction.Line.{Line}
use Rattle.sour_syntax.specs.Program.{NamesDiffer}
use Rattle.sour_syntax.proofs.Everywhere.{AllByRecursion-found}
use Rattle.sour_raw.specs.declared.raw.RawLine.{RawLine}
use Rattle.sour_raw.specs.declared.raw.RawInstr.{RawInstr}
use Rattle.sour_raw.specs.declared.raw.RawFunction.{RawFunction}
use Rattle.sour_raw.specs.Mentions.{with_names, instr_names}
use Rattle.sour_checked.specs.Numbered.{label_of, instr_of}
use Rattle.sour_checked.specs.Fault.{nameless, twice, unknown, falls_off}
use Rattle.sour_checked.specs.Texts.{TextVersion, function_names as names_of_functions, version_at as text_version_at, variables, labels, labels_from}
use Rattle.sour_checked.specs.Parts.{Leave, instr_functions, instr_labels, is_terminator, leaves}
use Rattle.sour_checked.specs.Names.{Broken, broken_if, is_among, repeated_on, unknown_on, unknown_each, unknown_result, unknown_target}
use Rattle.laws_scope.specs.TextOrder.{first_broken, stands_before, line_twice, line_unknown, line_end, line_in_order}
use Rattle.laws_scope.proofs.InOrder.{first_front, first_behind, first_of_all, line_twice-all, line_unknown-all}
use Rattle.laws_scope.proofs.Kit.{iff_then, iff_both, iff_each, none_both, none_three, none_each, none_if, none_if_not, differ_on, known_each, AreAmong}
use Rattle.laws_scope.proofs.WellFormed.{among_lines}
use Rattle.sour_scope.specs.declared.version_outline.VersionOutline.{VersionOutline}
use Rattle.sour_scope.specs.OutlinedFunction.{OutlinedFunction}
use Rattle.sour_scope.specs.InText.{line_of}
use Rattle.sour_scope.specs.Known.{IsAmong, IsKnownInstr}
use Rattle.sour_scope.specs.Outlined.{outlined, names_of, version_at}
use Rattle.sour_scope.proofs.KnownLaws.{IsAmongIf, IsKnownLeave, known_instr}
use Rattle.sour_scope.proofs.TextLaws.{shown, names_outlined, functions_outlined, version_outlined, among_once}

-- names are among others exactly where they are among these, each once
once_each : (all some : List (List ℕ)) → AreAmong (with_names [] all) some ↔ AreAmong all some
once_each all some = iff_each (λ name. IsAmong (with_names [] all) name) (λ name. IsAmong all name)
    (λ name. ((λ is. sym (among_once all name) ∙ is), λ is. among_once all name ∙ is)) some

-- the variable that waits is there where no rule is broken
result_rule : (line : ℕ) (names : List (List ℕ)) (waits : Option (List ℕ)) → (unknown_result line names waits ≡ []) ↔ IsAmongIf names waits
result_rule line names None = ((λ is. tt), λ is. refl)
result_rule line names (Some name) = none_if_not (is_among names name) unknown line

-- what a continuation names of a version that was found is there where no rule is broken
target_rule : (line : ℕ) (leave : Leave) (found : Option TextVersion)
    → (unknown_target line leave found ≡ []) ↔ IsKnownLeave leave (option_map shown found)
target_rule line leave None = ((λ is. absurd (cc)), λ is. absurd is)
target_rule line leave (Some text) =
    let label = unknown_on line (labels text) leave.target.label in
    let names = unknown_each line (variables text) leave.names in
    let waits = unknown_result line (variables text) leave.waits in
    let parts = none_three label names waits in
    let first = none_if_not (is_among (labels text) leave.target.label) unknown line in
    let each = known_each line (variables text) leave.names in
    let result = result_rule line (variables text) leave.waits in
    let once = among_once (labels text) leave.target.label in (
      (λ is.
          let all = parts.0 is in (once ∙ first.0 all.0, each.0 all.1, result.0 all.2)),
      λ is. parts.1 (first.1 (sym once ∙ is.0), each.1 is.1, result.1 is.2),
    )

module _ (functions : List RawFunction) (text : TextVersion) where
  -- all that a line names is there where no rule is broken, if its variables are those of its version
  unknown_rule : (line : RawLine) → AreAmong (variables text) (instr_names line.instr)
      → (line_unknown functions (labels text) line ≡ []) ↔ IsKnownInstr (outlined functions) (shown text) line.instr
  unknown_rule line own =
      let values = unknown_each line.line (names_of_functions functions) (instr_functions line.instr) in
      let jumps = unknown_each line.line (labels text) (instr_labels line.instr) in
      let target : Leave → List Broken = λ leave. unknown_target line.line leave (text_version_at functions leave.target) in
      let parts = none_three values jumps (flat_map target (leaves line.instr)) in
      let names = known_each line.line (names_of_functions functions) (instr_functions line.instr) in
      let labelled = iff_then (known_each line.line (labels text) (instr_labels line.instr))
      ((λ is. (once_each (labels text) (instr_labels line.instr)).1 is), λ is. (once_each (labels text) (instr_labels line.instr)).0 is) in
      let there : Leave → Type 0 = λ leave. IsKnownLeave leave (version_at (outlined functions) leave.target) in
      let each = iff_then (none_each target (leaves line.instr))
      (iff_each (λ leave. target leave ≡ []) there
      (λ leave. let law = target_rule line.line leave (text_version_at functions leave.target) in
      let same = version_outlined functions leave.target in
      ((λ is. subst (IsKnownLeave leave) (sym same) (law.0 is)), λ is. law.1 (subst (IsKnownLeave leave) same is)))
      (leaves line.instr)) in
      let known = known_instr (outlined functions) (shown text) line.instr in
      let P : List (List ℕ) → Type 0 = λ all. AreAmong all (instr_functions line.instr) in (
        (λ is.
            let all = parts.0 is in
            known.1 ((labelled.0 all.1, each.0 all.2), (subst P (sym (functions_outlined functions)) (names.0 all.0), own))),
        λ is.
            let all = known.0 is in
            parts.1 (names.1 (subst P (functions_outlined functions) all.1.0), labelled.1 all.0.0, each.1 all.0.1),
      )

  -- no name on a line stands twice where its label doesn't, and the names of each map differ
  twice_rule : (place : ℕ) (line : RawLine) → (line_twice (labels text) place line ≡ [])
      ↔ ((stands_before (labels text) (label_of place line.label) place ≡ false)
      × AllByRecursion (λ (leave : Leave). NamesDiffer leave.names) (leaves line.instr))
  twice_rule place line =
      let test = stands_before (labels text) (label_of place line.label) place in
      let maps : Leave → List Broken = λ leave. repeated_on line.line leave.names in
      iff_then (none_both (broken_if test twice line.line) (flat_map maps (leaves line.instr)))
      (iff_both (none_if test twice line.line)
      (iff_then (none_each maps (leaves line.instr))
      (iff_each (λ leave. maps leave ≡ []) (λ leave. NamesDiffer leave.names) (λ leave. differ_on line.line leave.names) (leaves line.instr))))

  module _ (place : ℕ) (line : RawLine) where
    -- its label doesn't stand before where no rule is broken
    pub label_new : line_in_order functions text place line ≡ []
        → stands_before (labels text) (label_of place line.label) place ≡ false
    label_new none =
        let own = line_twice (labels text) place line in
        let parts = none_three own (line_unknown functions (labels text) line)
        (line_end (length text.version.lines) place line) in
        ((twice_rule place line).0 (parts.0 none).0).0

    -- a name stands twice
    pub twice_first : (line_twice (labels text) place line ≡ [] → ⊥)
        → first_broken (line_in_order functions text place line) ≡ Some (nameless twice line.line)
    twice_first some =
        let first = first_of_all twice line.line (line_twice (labels text) place line) (line_twice-all (labels text) place line) some in
        first_front (line_twice (labels text) place line ++ line_unknown functions (labels text) line) _ _
        (first_front (line_twice (labels text) place line) _ _ first)

    -- the label does
    pub label_first : stands_before (labels text) (label_of place line.label) place ≡ true
        → first_broken (line_in_order functions text place line) ≡ Some (nameless twice line.line)
    label_first is = twice_first (λ none. let not_so = ((twice_rule place line).0 none).0 in absurd (cc))

    -- a name of a map does
    pub map_first : (AllByRecursion (λ (leave : Leave). NamesDiffer leave.names) (leaves line.instr) → ⊥)
        → first_broken (line_in_order functions text place line) ≡ Some (nameless twice line.line)
    map_first not_so = twice_first (λ none. not_so ((twice_rule place line).0 none).1)

    module _ (before : stands_before (labels text) (label_of place line.label) place ≡ false) (maps : AllByRecursion (λ (leave : Leave). NamesDiffer leave.names) (leaves line.instr)) (own : AreAmong (variables text) (instr_names line.instr)) where
      -- no name stands twice
      none_twice : line_twice (labels text) place line ≡ []
      none_twice = (twice_rule place line).1 (before, maps)

      -- a name isn't there
      pub unknown_first : (IsKnownInstr (outlined functions) (shown text) line.instr → ⊥)
          → first_broken (line_in_order functions text place line) ≡ Some (nameless unknown line.line)
      unknown_first not_so =
          let first = first_of_all unknown line.line (line_unknown functions (labels text) line)
          (line_unknown-all functions (labels text) line) (λ none. not_so ((unknown_rule line own).0 none)) in
          first_front (line_twice (labels text) place line ++ line_unknown functions (labels text) line) _ _
          (first_behind (line_twice (labels text) place line) _ _ none_twice first)

      -- names are right
      none_wrong : IsKnownInstr (outlined functions) (shown text) line.instr
          → line_twice (labels text) place line ++ line_unknown functions (labels text) line ≡ []
      none_wrong known = (none_both (line_twice (labels text) place line) (line_unknown functions (labels text) line)).1
          (none_twice, (unknown_rule line own).1 known)

      -- the last line isn't a terminator
      pub end_first : IsKnownInstr (outlined functions) (shown text) line.instr
          → (nat_eq (suc place) (length text.version.lines) && not (is_terminator line.instr)) ≡ true
          → first_broken (line_in_order functions text place line) ≡ Some (nameless falls_off line.line)
      end_first known test =
          first_behind (line_twice (labels text) place line ++ line_unknown functions (labels text) line) _ _ (none_wrong known)
          (ap (λ is. first_broken (broken_if is falls_off line.line)) test)

      -- nothing is wrong
      pub nothing_wrong : IsKnownInstr (outlined functions) (shown text) line.instr
          → (nat_eq (suc place) (length text.version.lines) && not (is_terminator line.instr)) ≡ false
          → line_in_order functions text place line ≡ []
      nothing_wrong known test =
          let test_is = nat_eq (suc place) (length text.version.lines) && not (is_terminator line.instr) in
          (none_both (line_twice (labels text) place line ++ line_unknown functions (labels text) line)
          (broken_if test_is falls_off line.line)).1 (none_wrong known, (none_if test_is falls_off line.line).1 test)

-- the label of a line stands at its place
pub label_at : (start place : ℕ) (lines : List RawLine) (line : RawLine) (last : ℕ) → last ≡ start + place
    → slice_get lines place ≡ Some line → slice_get (labels_from start lines) place ≡ Some (label_of last line.label)
label_at start place [] line last is at = absurd (cc)
label_at start zero (first ∷ lines) line last is at =
    let same : last ≡ start = omega arith in
    let first_is : first ≡ line = cc in
    ap (λ n. Some (label_of n first.label)) (sym same) ∙ ap (λ (it : RawLine). Some (label_of last it.label)) first_is
label_at start (suc place) (first ∷ lines) line last is at = label_at (suc start) place lines line last (omega arith) at

-- the variables of a line are those of its version
pub own_variables : (text : TextVersion) (place : ℕ) (line : RawLine) → slice_get text.version.lines place ≡ Some line
    → AreAmong (variables text) (instr_names line.instr)
own_variables text place line at =
    AllByRecursion-found (λ (other : RawLine). AreAmong (variables text) (instr_names other.instr)) text.version.lines place line
    (among_lines (with_names [] text.parameters) text.version.lines) at

-- a line that is made in an outline of a text is that of the text
pub line_is : (functions : List RawFunction) (text : TextVersion) (place : ℕ) (line : RawLine) (label : List ℕ) (instr : Instr)
    (outline : List OutlinedFunction) (own : VersionOutline) → outline ≡ outlined functions → own ≡ shown text
    → label ≡ label_of place line.label → instr ≡ instr_of (names_of outline) own.variables line.instr
    → record { label = label; instr = instr } ≡ line_of functions text place line
line_is functions text place line label instr outline own outline_is own_is label_is instr_is =
    let made : List ℕ → Instr → Line = λ l i. record { label = l; instr = i } in
    ap (λ l. made l instr) label_is
    ∙ ap (made (label_of place line.label)) (instr_is
    ∙ ap (λ (version : VersionOutline). instr_of (names_of outline) version.variables line.instr) own_is
    ∙ ap (λ names. instr_of names (variables text) line.instr) (ap names_of outline_is ∙ names_outlined functions))

-- the last line of a version is none of the others
last_test : (same ends : Bool) → same ≡ true → ends ≡ false → (same && not ends) ≡ true
last_test same ends is not_so = rw (is, not_so) refl

pub ends_wrong : (place count lines : ℕ) (ends terminator : Bool) → place + 1 ≡ count → count ≡ lines → ends ≡ terminator → ends ≡ false
    → (nat_eq (suc place) lines && not terminator) ≡ true
ends_wrong place count lines ends terminator last counted is not_so =
    last_test (nat_eq (suc place) lines) terminator ((Decides-eqb (suc place) lines).1 (omega arith)) (sym is ∙ not_so)

ends_test : (same ends : Bool) → (same ≡ true → ends ≡ true) → (same && not ends) ≡ false
ends_test true true is = refl
ends_test true false is = let wrong = is refl in absurd (cc)
ends_test false ends is = refl

pub ends_right : (place count lines : ℕ) (ends terminator : Bool) → (place + 1 ≡ count → ends ≡ true) → count ≡ lines → ends ≡ terminator
    → (nat_eq (suc place) lines && not terminator) ≡ false
ends_right place count lines ends terminator right counted is =
    ends_test (nat_eq (suc place) lines) terminator
    (λ same. let last = (Decides-eqb (suc place) lines).0 same in sym is ∙ right (omega arith))

-- what is there in an outline of a text is there in the text
pub known_is : (functions : List RawFunction) (text : TextVersion) (instr : RawInstr) (outline : List OutlinedFunction) (own : VersionOutline)
    → outline ≡ outlined functions → own ≡ shown text
    → IsKnownInstr outline own instr ↔ IsKnownInstr (outlined functions) (shown text) instr
known_is functions text instr outline own outline_is own_is =
    let P : List OutlinedFunction → VersionOutline → Type 0 = λ all version. IsKnownInstr all version instr in (
      (λ known. subst (P (outlined functions)) own_is (subst (λ all. P all own) outline_is known)),
      λ known. subst (λ all. P all own) (sym outline_is) (subst (P (outlined functions)) (sym own_is) known),
    )
