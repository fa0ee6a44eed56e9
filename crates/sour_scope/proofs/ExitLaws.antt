-- The first fault of the exits of the functions that are made of a text is that of the text.
use Rattle.std.proofs.Common.{◌≡◌, ◌+◌, ◌<◌, ℕ, suc, true, zero-add, List, [], ◌∷◌, ◌++◌, Option, None, Some, length, map, refl, sym, ap, ◌∙◌, arith}
use Rattle.std.specs.Prelude.{option_map, slice_get}
use Rattle.std.specs.List.{AllByRecursion, AllZip, enumerate_from, zip}
use Rattle.std.specs.Option.{option_to_list}
use Rattle.sour_syntax.specs.declared.instruction.Line.{Line}
use Rattle.sour_syntax.specs.declared.place_state.PlaceState.{PlaceState}
use Rattle.sour_syntax.specs.declared.program.Version.{Version}
use Rattle.sour_syntax.specs.Exits.{Continuation, continuations_of, bound_names}
use Rattle.sour_syntax.specs.Labels.{labels_of}
use Rattle.sour_syntax.specs.Scopes.{Scope}
use Rattle.sour_syntax.specs.Taking.{place_scope}
use Rattle.sour_syntax.specs.Targets.{IsNamed, named_body, scope_of_names}
use Rattle.sour_raw.specs.declared.raw.RawLine.{RawLine}
use Rattle.sour_raw.specs.declared.raw.RawVersion.{RawVersion}
use Rattle.sour_raw.specs.declared.raw.RawFunction.{RawFunction}
use Rattle.sour_checked.specs.Fault.{Fault, or_else, first_fault_of}
use Rattle.sour_checked.specs.Landing.{places, scope_at, scope_of, fit_fault, leave_fault, reached_fault, lines_fault, landing_fault, target_fault as text_fault}
use Rattle.sour_checked.specs.Names.{is_among}
use Rattle.sour_checked.specs.Numbered.{number_of, instr_of, lines_of, version_of, function_of, functions_of}
use Rattle.sour_checked.specs.Outline.{outline}
use Rattle.sour_checked.specs.Parts.{Leave, leaves}
use Rattle.sour_checked.specs.Texts.{TextVersion, text_version, text_versions, version_at, variables, number_in, body, line_numbers}
use Rattle.laws_scope.specs.Right.{HasNames}
use Rattle.laws_scope.proofs.Kit.{AreAmong, iff_append, iff_each, known_each, among_number, number_found}
use Rattle.laws_scope.proofs.MaskRules.{scope_of_numbers}
use Rattle.laws_scope.proofs.TargetRules.{numbered, body_at, IsMade, found, bound, waits, labelled, there, each_made}
use Rattle.laws_scope.proofs.VariableNames.{variables_differ}
use Rattle.laws_scope.proofs.VersionRules.{labels_are}
use Rattle.sour_scope.specs.declared.numbered.NumberedVersion.{NumberedVersion}
use Rattle.sour_scope.specs.Bodies.{line_numbers_in}
use Rattle.sour_scope.specs.Landings.{names_of, label_scope, target_fault, continuation_fault, instr_fault, line_fault, version_fault, function_fault}
use Rattle.sour_scope.specs.NumberedJob.{numbered_version, numbered_function, numbered_functions}
use Rattle.sour_scope.proofs.FaultLaws.{first_of_append}

-- numbers
none_more : (n : ℕ) → n + 0 ≡ n
none_more n = omega arith

next : (n k : ℕ) → n + 1 + k ≡ n + suc k
next n k = omega arith

-- the names of the numbers of names are these names
names_again : (names some : List (List ℕ)) → AreAmong names some → names_of names (map (number_of names) some) ≡ some
names_again names [] among = refl
names_again names (name ∷ some) among =
    ap (λ (it : Option (List ℕ)). option_to_list it ++ names_of names (map (number_of names) some))
    (number_found names name ((among_number names name).0 among.0))
    ∙ ap (λ (others : List (List ℕ)). name ∷ others) (names_again names some among.1)

-- where each fault is that of the one at its side, the first one is too
first_of_zip : {X Y : Type 0} (fault : X → Option Fault) (other : Y → Option Fault) (R : X → Y → Type 0)
    (Q : Y → Type 0) → ((x : X) (y : Y) → R x y → Q y → fault x ≡ other y) → (xs : List X) (ys : List Y)
    → AllZip R xs ys → AllByRecursion Q ys → first_fault_of fault xs ≡ first_fault_of other ys
first_of_zip fault other R Q same [] [] each all = refl
first_of_zip fault other R Q same [] (y ∷ ys) each all = absurd each
first_of_zip fault other R Q same (x ∷ xs) [] each all = absurd each
first_of_zip fault other R Q same (x ∷ xs) (y ∷ ys) each all =
    ap (λ here. or_else here (first_fault_of fault xs)) (same x y each.0 all.0)
    ∙ ap (or_else (other y)) (first_of_zip fault other R Q same xs ys each.1 all.1)

module _ (functions : List RawFunction) where
  -- what is named is there
  abbrev IsThere : Continuation → Type 0
  IsThere continuation = IsNamed (numbered functions) [] continuation

  module _ (line : ℕ) (leave : Leave) (continuation : Continuation) (made : IsMade functions leave continuation)
      (named : IsThere continuation) where
    -- where the version is there
    module _ (text : TextVersion) (is : version_at functions leave.target ≡ Some text) where
      -- the names of the map are among its variables
      among : AreAmong (variables text) leave.names
      among =
          (known_each line (variables text) leave.names).0
          (there functions line leave continuation made text is named).1.1

      -- the scope of its label
      scope_same : scope_at functions text leave.target.label ≡ label_scope (body functions text) continuation.target.label
      scope_same =
          let at : List (List ℕ) → List ℕ → Option Scope =
          λ all label. place_scope (slice_get (places functions text) (number_in all label)) in
          ap (λ all. at all leave.target.label) (sym (labels_are functions (variables text) 0 text.version.lines))
          ∙ ap (at (labels_of (body functions text).lines)) (sym (labelled functions line leave continuation made text is))

      -- the scope of its map
      mapped_same : scope_of (variables text) leave.names
          ≡ scope_of_names (length (variables text)) (bound_names continuation.binds)
      mapped_same =
          let below = (iff_each (λ name. is_among (variables text) name ≡ true)
          (λ name. number_in (variables text) name < length (variables text)) (among_number (variables text))
          leave.names).0 among in
          scope_of_numbers (variables text) leave.names (variables_differ text.parameters text.version.lines) below
          ∙ ap (scope_of_names (length (variables text))) (sym (bound functions line leave continuation made text is))

      -- the names of its map
      names_same : leave.names ≡ names_of (variables text) (bound_names continuation.binds)
      names_same =
          sym (ap (names_of (variables text)) (bound functions line leave continuation made text is)
          ∙ names_again (variables text) leave.names among)

      -- so its fault is the same
      by_text : leave_fault functions line leave ≡ continuation_fault (numbered functions) line continuation
      by_text =
          let names = variables text in
          let wait = sym (waits functions line leave continuation made text is) in
          ap (text_fault functions line leave) is
          ∙ ap (λ w. fit_fault line names w leave.names (scope_of names leave.names)
          (scope_at functions text leave.target.label)) wait
          ∙ ap (λ these. fit_fault line names continuation.waits these (scope_of names leave.names)
          (scope_at functions text leave.target.label)) names_same
          ∙ ap (λ (mapped : Scope). fit_fault line names continuation.waits
          (names_of names (bound_names continuation.binds)) mapped (scope_at functions text leave.target.label))
          mapped_same
          ∙ ap (fit_fault line names continuation.waits (names_of names (bound_names continuation.binds))
          (scope_of_names (length names) (bound_names continuation.binds))) scope_same
          ∙ sym (ap (target_fault line continuation) (found functions line leave continuation made text is))

    -- by the version that is found
    by_version : (at : Option TextVersion) → version_at functions leave.target ≡ at
        → leave_fault functions line leave ≡ continuation_fault (numbered functions) line continuation
    by_version None is =
        let gone = ap (λ target. named_body (numbered functions) [] target.code) made.target
        ∙ body_at functions leave.target ∙ ap (option_map (body functions)) is in
        let here = named.found in absurd (cc)
    by_version (Some text) is = by_text text is

    -- the fault of a continuation is that of the one that is written
    pub leave_same : leave_fault functions line leave ≡ continuation_fault (numbered functions) line continuation
    leave_same = by_version _ refl

  module _ (names : List (List ℕ)) where
    -- the first fault of an instruction
    reached_same : (line : RawLine) (scope : Option Scope)
        → AllByRecursion IsThere (continuations_of (instr_of (outline functions) names line.instr))
        → reached_fault functions line scope
        ≡ instr_fault (numbered functions) line.line (instr_of (outline functions) names line.instr) scope
    reached_same line None named = refl
    reached_same line (Some scope) named =
        first_of_zip (leave_fault functions line.line) (continuation_fault (numbered functions) line.line)
        (IsMade functions) IsThere (leave_same line.line) (leaves line.instr)
        (continuations_of (instr_of (outline functions) names line.instr)) (each_made functions names line.instr) named

    -- each line names what is there
    abbrev NamesItsTargets : Line → Type 0
    NamesItsTargets line = AllByRecursion IsThere (continuations_of line.instr)

    -- the first fault of lines, of which the first stands at this place
    abbrev rest : List PlaceState → ℕ → ℕ → List RawLine → Option Fault
    rest all index number lines = first_fault_of (line_fault (numbered functions) all)
        (enumerate_from index (zip (lines_of (outline functions) names number lines)
        (map (λ (line : RawLine). line.line) lines)))

    -- it is that of the lines that are written, where these are the places from there on
    lines_same : (all : List PlaceState) (index number : ℕ) (some : List PlaceState) (lines : List RawLine)
        → ((k : ℕ) → slice_get all (index + k) ≡ slice_get some k)
        → AllByRecursion NamesItsTargets (lines_of (outline functions) names number lines)
        → lines_fault functions some lines
        ≡ rest all index number lines
    lines_same all index number [] [] at named = refl
    lines_same all index number [] (line ∷ lines) at named =
        let here = at 0 in
        let behind = lines_same all (index + 1) (suc number) [] lines
        (λ k. ap (slice_get all) (next index k) ∙ at (suc k)) named.1 in
        sym (ap (λ scope. or_else (instr_fault (numbered functions) line.line (instr_of (outline functions) names line.instr) scope) (rest all (index + 1) (suc number) lines))
        (ap place_scope (ap (slice_get all) (sym (none_more index)) ∙ here)) ∙ sym behind)
    lines_same all index number (place ∷ some) [] at named = refl
    lines_same all index number (place ∷ some) (line ∷ lines) at named =
        let here = ap (slice_get all) (sym (none_more index)) ∙ at 0 in
        let behind = lines_same all (index + 1) (suc number) some lines
        (λ k. ap (slice_get all) (next index k) ∙ at (suc k)) named.1 in
        ap (λ it. or_else it (lines_fault functions some lines)) (reached_same line (place_scope (Some place)) named.0)
        ∙ ap (or_else (instr_fault (numbered functions) line.line (instr_of (outline functions) names line.instr) (place_scope (Some place)))) behind
        ∙ sym (ap (λ scope. or_else (instr_fault (numbered functions) line.line (instr_of (outline functions) names line.instr) scope) (rest all (index + 1) (suc number) lines))
        (ap place_scope here))

  -- the body of a version with the lines of its instructions
  abbrev beside : ℕ → RawFunction → RawVersion → Version × List ℕ
  beside number function version =
      (version_of (outline functions) number function.parameters version, line_numbers (text_version number function version))

  -- the first fault of a version
  version_same : (number : ℕ) (function : RawFunction) (version : RawVersion)
      → HasNames functions (text_version number function version)
      → landing_fault functions (text_version number function version)
      ≡ version_fault (numbered functions) (beside number function version)
  version_same number function version names =
      let text = text_version number function version in
      lines_same (variables text) (places functions text) 0 0 (places functions text) version.lines
      (λ k. ap (slice_get (places functions text)) (zero-add k)) names.exits

  -- of the versions of a function
  versions_same : (number : ℕ) (function : RawFunction) (versions : List RawVersion)
      → AllByRecursion (HasNames functions) (map (text_version number function) versions)
      → first_fault_of (landing_fault functions) (map (text_version number function) versions)
      ≡ first_fault_of (version_fault (numbered functions))
      (zip (map (version_of (outline functions) number function.parameters) versions)
      (map (λ (version : NumberedVersion). version.line_numbers)
      (map (λ version. numbered_version functions (text_version number function version)) versions)))
  versions_same number function [] names = refl
  versions_same number function (version ∷ versions) names =
      ap (λ it. or_else it (first_fault_of (landing_fault functions) (map (text_version number function) versions)))
      (version_same number function version names.0)
      ∙ ap (or_else (version_fault (numbered functions) (beside number function version)))
      (versions_same number function versions names.1)

  -- and of functions
  pub exits_same : (number : ℕ) (some : List RawFunction)
      → AllByRecursion (HasNames functions) (text_versions number some)
      → first_fault_of (landing_fault functions) (text_versions number some)
      ≡ first_fault_of (function_fault (numbered functions)) (zip (functions_of (outline functions) number some)
      (map line_numbers_in (numbered_functions functions number some)))
  exits_same number [] names = refl
  exits_same number (function ∷ some) names =
      let parts = (iff_append (HasNames functions) (map (text_version number function) function.versions)
      (text_versions (suc number) some)).0 names in
      first_of_append (landing_fault functions) (map (text_version number function) function.versions)
      (text_versions (suc number) some)
      ∙ ap (λ it. or_else it (first_fault_of (landing_fault functions) (text_versions (suc number) some)))
      (versions_same number function function.versions parts.0)
      ∙ ap (or_else (function_fault (numbered functions)
      (function_of (outline functions) number function, line_numbers_in (numbered_function functions number function))))
      (exits_same (suc number) some parts.1)
