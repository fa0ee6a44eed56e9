-- What it says of the continuations of an exit that what they name is there.
use Rattle.std.proofs.Common.{◌≡◌, ◌≢◌, ◌↔◌, ◌+◌, ◌<◌, ℕ, zero, suc, true, List, [], ◌∷◌, Option, None, Some, Contains, length, map, refl, sym, ap, ◌∙◌, subst, arith}
use Rattle.std.specs.Prelude.{IfSome, option_map, slice_get}
use Rattle.std.specs.List.{AllByRecursion, AllZip, flat_map, position_or_len}
use Rattle.std.specs.Str.{bytes_eq}
use Rattle.std.proofs.lemmas.Option.{slice_get-map}
use Rattle.sour_syntax.specs.declared.literal.VarId.{VarId}
use Rattle.sour_syntax.specs.declared.program.Function.{Function}
use Rattle.sour_syntax.specs.BodyView.{BodyView}
use Rattle.sour_syntax.specs.Exits.{Continuation, extra_continuation, continuations, continuations_of, bound_names}
use Rattle.sour_syntax.specs.Labels.{labels_of}
use Rattle.sour_syntax.specs.Program.{NamesDiffer}
use Rattle.sour_syntax.specs.Targets.{version_body, text_body, named_body, VariablesDiffer, IsNamed}
use Rattle.sour_raw.specs.declared.raw.RawBind.{RawBind}
use Rattle.sour_raw.specs.declared.raw.RawExtra.{RawExtra}
use Rattle.sour_raw.specs.declared.raw.RawExit.{RawExit}
use Rattle.sour_raw.specs.declared.raw.RawInstr.{RawInstr}
use Rattle.sour_raw.specs.declared.raw.RawInstr.TheVariants.{Var, Drop, Assign, ArrayLength, ArrayList, Store, Print, Read, Branch, Goto, Call, Return, Stop, Assume}
use Rattle.sour_raw.specs.declared.raw.RawPlace.{RawPlace}
use Rattle.sour_raw.specs.declared.raw.RawVersion.{RawVersion}
use Rattle.sour_raw.specs.declared.raw.RawFunction.{RawFunction}
use Rattle.sour_checked.specs.Outline.{names_in, outline, own_names, own_version_names, versions_in, variables_in, version_number, place_function, place_variables, version_names as version_names_of}
use Rattle.sour_checked.specs.Numbered.{number_of, target_of, map_of, extra_of, exit_of, instr_of, version_of, function_of, functions_of}
use Rattle.laws_scope.proofs.OutlineLaws.{own_names-outline}
use Rattle.sour_checked.specs.Texts.{TextVersion, text_version, function_names, version_names, number_in, version_in, version_at, variables, labels, body}
use Rattle.sour_checked.specs.Landing.{waiting}
use Rattle.sour_checked.specs.Parts.{Leave, left_names, further, exit_leaves, leaves}
use Rattle.sour_checked.specs.Names.{is_among, repeated_on, unknown_on, unknown_each, unknown_result, unknown_target, leave_broken}
use Rattle.laws_scope.proofs.Kit.{iff_then, iff_both, iff_each, iff_map, iff_zip, none_both, none_three, none_each, none_if_not, differ_on, AreAmong, known_each, among_number, among_contains, number_found}
use Rattle.laws_scope.proofs.VersionRules.{labels_are}

module _ (functions : List RawFunction) where
  -- the functions with numbers in place of names
  abbrev pub numbered : List Function
  numbered = functions_of (outline functions) 0 functions

  -- the function at a place, where the first has this number
  pub functions_at : (number last place : ℕ) (some : List RawFunction) → last ≡ number + place
      → slice_get (functions_of (outline functions) number some) place ≡ option_map
      (function_of (outline functions) last) (slice_get some place)
  functions_at number last place [] is = refl
  functions_at number last zero (function ∷ some) is =
      let same : number ≡ last = omega arith in ap (λ n. Some (function_of (outline functions) n function)) same
  functions_at number last (suc place) (function ∷ some) is = functions_at (suc number) last place some (omega arith)

  -- the body of a version that was found
  body_found : (number : ℕ) (function : RawFunction) (found : Option RawVersion)
      → version_body (option_map (version_of (outline functions) number function.parameters) found)
      ≡ option_map (body functions) (option_map (text_version number function) found)
  body_found number function None = refl
  body_found number function (Some version) = refl

  -- the names of versions are those that are written
  names_of_versions : (parameters : List (List ℕ)) (versions : List RawVersion)
      → own_version_names (map (version_names_of parameters) versions) ≡ version_names versions
  names_of_versions parameters [] = refl
  names_of_versions parameters (version ∷ versions) = ap (λ rest. version.name ∷ rest)
      (names_of_versions parameters versions)

  -- the body of the version that has a name, where the function was found
  version_found : (number : ℕ) (found : Option RawFunction) (name : List ℕ)
      → text_body (option_map (function_of (outline functions) number) found)
      (version_number (versions_in (option_map names_in found)) name)
      ≡ option_map (body functions) (version_in number name found)
  version_found number None name = refl
  version_found number (Some function) name =
      let place = number_in (version_names function.versions) name in
      ap (λ names. version_body (slice_get (map (version_of (outline functions) number function.parameters)
      function.versions) (position_or_len (bytes_eq name) names)))
      (names_of_versions function.parameters function.versions)
      ∙ ap version_body (slice_get-map (version_of (outline functions) number function.parameters) function.versions
      place)
      ∙ body_found number function (slice_get function.versions place)

  -- the variables of a version, where there is one
  abbrev pub variables_found : Option TextVersion → List (List ℕ)
  variables_found None = []
  variables_found (Some text) = variables text

  -- those of a version that was found
  names_found : (number : ℕ) (function : RawFunction) (found : Option RawVersion)
      → variables_in (option_map (version_names_of function.parameters) found) ≡ variables_found
      (option_map (text_version number function) found)
  names_found number function None = refl
  names_found number function (Some version) = refl

  -- and of the version that has a name, where the function was found
  names_version : (number : ℕ) (found : Option RawFunction) (name : List ℕ)
      → variables_in (slice_get (versions_in (option_map names_in found))
      (version_number (versions_in (option_map names_in found)) name))
      ≡ variables_found (version_in number name found)
  names_version number None name = refl
  names_version number (Some function) name =
      let place = number_in (version_names function.versions) name in
      ap (λ names. variables_in (slice_get (map (version_names_of function.parameters) function.versions)
      (position_or_len (bytes_eq name) names))) (names_of_versions function.parameters function.versions)
      ∙ ap variables_in (slice_get-map (version_names_of function.parameters) function.versions place)
      ∙ names_found number function (slice_get function.versions place)

  -- the number of the function of a place
  number_is : (place : RawPlace) → (place_function (outline functions) place).0 ≡ number_in (function_names functions)
      place.function
  number_is place = ap (position_or_len (bytes_eq place.function)) (own_names-outline functions)

  -- the body that a place names is that of the version at it
  pub body_at : (place : RawPlace) → named_body numbered [] (target_of (outline functions) place).code ≡ option_map
      (body functions) (version_at functions place)
  body_at place =
      let number = number_in (function_names functions) place.function in
      let found = slice_get functions number in
      ap (λ n. text_body (slice_get numbered n) (version_number (versions_in (slice_get (outline functions) n))
      place.version)) (number_is place)
      ∙ ap (λ function. text_body function (version_number (versions_in (slice_get (outline functions) number))
      place.version)) (functions_at 0 number number functions (omega arith))
      ∙ ap (λ names. text_body (option_map (function_of (outline functions) number) found)
      (version_number (versions_in names) place.version)) (slice_get-map names_in functions number)
      ∙ version_found number found place.version

  -- and so are its variables
  pub variables_there : (place : RawPlace) → place_variables (outline functions) place ≡ variables_found
      (version_at functions place)
  variables_there place =
      let number = number_in (function_names functions) place.function in
      let found = slice_get functions number in
      ap (λ n. variables_in (slice_get (versions_in (slice_get (outline functions) n))
      (version_number (versions_in (slice_get (outline functions) n)) place.version))) (number_is place)
      ∙ ap (λ names. variables_in (slice_get (versions_in names) (version_number (versions_in names) place.version)))
      (slice_get-map names_in functions number)
      ∙ names_version number found place.version

-- ---- names and their numbers

module _ (names : List (List ℕ)) where
  -- each of these names is one of those where its number is below their count
  pub numbers_below : (some : List (List ℕ)) → AreAmong names some
      ↔ AllByRecursion (λ (x : VarId). x.0 < length names) (map (number_of names) some)
  numbers_below some =
      let mapped = iff_map (λ (x : VarId). x.0 < length names) (number_of names) some in
      iff_then (iff_each (λ name. is_among names name ≡ true) (λ name. number_in names name < length names)
      (among_number names) some) (mapped.1, mapped.0)

  -- two names with one number are the same
  one_name : (name other : List ℕ) → number_in names name < length names → number_in names other < length names
      → number_of names name ≡ number_of names other → name ≡ other
  one_name name other within there same =
      let at : number_in names name ≡ number_in names other = ap (λ (x : VarId). x.0) same in
      let first = number_found names name within in
      let second = number_found names other there in
      let both : Some name ≡ Some other = sym first ∙ ap (λ n. slice_get names n) at ∙ second in cc

  -- a name is none of others where its number is none of theirs
  other_numbers : (name : List ℕ) (some : List (List ℕ)) → is_among names name ≡ true → AreAmong names some
      → AllByRecursion (λ other. other ≢ name) some
      ↔ AllByRecursion (λ (other : VarId). other ≢ number_of names name) (map (number_of names) some)
  other_numbers name [] is among = ((λ all. tt), λ all. tt)
  other_numbers name (other ∷ some) is among =
      let rest = other_numbers name some is among.1 in
      let here = (among_number names name).0 is in
      let there = (among_number names other).0 among.0 in (
        (λ all. ((λ same. all.0 (one_name other name there here same)), rest.0 all.1)),
        λ all. ((λ same. all.0 (ap (number_of names) same)), rest.1 all.1),
      )

  -- names differ where their numbers do
  numbers_differ : (some : List (List ℕ)) → AreAmong names some → NamesDiffer some
      ↔ VariablesDiffer (map (number_of names) some)
  numbers_differ [] among = ((λ all. tt), λ all. tt)
  numbers_differ (name ∷ some) among = iff_both (other_numbers name some among.0 among.1) (numbers_differ some among.1)

  -- the variable that waits is there where its number is below the count
  waits_rule : (line : ℕ) (waits : Option (List ℕ)) → (unknown_result line names waits ≡ [])
      ↔ IfSome (waiting names waits) (λ x. x < length names)
  waits_rule line None = ((λ is. tt), λ is. refl)
  waits_rule line (Some name) = iff_then (none_if_not (is_among names name) 2 line) (among_number names name)

-- ---- continuations

-- the continuation that is made of one that is written, where it goes on in a version with these variables
pub record IsMade (functions : List RawFunction) (leave : Leave) (continuation : Continuation) : Type 0 where
  pub target : continuation.target ≡ target_of (outline functions) leave.target
  pub names : bound_names continuation.binds ≡ map (number_of (place_variables (outline functions) leave.target))
      leave.names
  pub waits : continuation.waits ≡ waiting (place_variables (outline functions) leave.target) leave.waits

module _ (functions : List RawFunction) (line : ℕ) (leave : Leave) (continuation : Continuation)
    (made : IsMade functions leave continuation) where
  -- where there is no such version it names nothing
  not_there : version_at functions leave.target ≡ None → (unknown_target line leave None ≡ [])
      ↔ IsNamed (numbered functions) [] continuation
  not_there is = (
    (λ is. absurd (cc)),
    λ named.
        let none : named_body (numbered functions) [] continuation.target.code ≡ None =
        ap (λ target. named_body (numbered functions) [] target.code) made.target ∙ body_at functions leave.target
        ∙ ap (option_map (body functions)) is in
        let some = named.found in absurd (cc),
  )

  -- where there is one
  module _ (text : TextVersion) (is : version_at functions leave.target ≡ Some text) where
    -- its body is found
    pub found : named_body (numbered functions) [] continuation.target.code ≡ Some (body functions text)
    found = ap (λ target. named_body (numbered functions) [] target.code) made.target ∙ body_at functions leave.target
        ∙ ap (option_map (body functions)) is

    -- its variables are those of the place
    own : place_variables (outline functions) leave.target ≡ variables text
    own = variables_there functions leave.target ∙ ap (variables_found functions) is

    -- its names have these numbers
    pub bound : bound_names continuation.binds ≡ map (number_of (variables text)) leave.names
    bound = made.names ∙ ap (λ names. map (number_of names) leave.names) own

    -- and so has the variable that waits
    pub waits : continuation.waits ≡ waiting (variables text) leave.waits
    waits = made.waits ∙ ap (λ names. waiting names leave.waits) own

    -- its label is written
    pub labelled : continuation.target.label ≡ leave.target.label
    labelled = ap (λ target. target.label) made.target

    -- the labels of the body
    its_labels : labels_of (body functions text).lines ≡ labels text
    its_labels = labels_are functions (variables text) 0 text.version.lines

    -- what is broken of it
    abbrev pub Parts : Type 0
    Parts = (unknown_on line (labels text) leave.target.label ≡ [])
        × (unknown_each line (variables text) leave.names ≡ [])
        × (unknown_result line (variables text) leave.waits ≡ [])

    parts : (unknown_target line leave (Some text) ≡ []) ↔ Parts
    parts = none_three (unknown_on line (labels text) leave.target.label)
        (unknown_each line (variables text) leave.names) (unknown_result line (variables text) leave.waits)

    -- what is there is named
    named : NamesDiffer leave.names → Parts → IsNamed (numbered functions) [] continuation
    named differ broken =
        let label = (among_contains (labels text) leave.target.label).0
        ((none_if_not (is_among (labels text) leave.target.label) 2 line).0 broken.0) in
        let among = (known_each line (variables text) leave.names).0 broken.1 in
        record {
          body = body functions text;
          found = found;
          label = subst (Contains (labels_of (body functions text).lines)) (sym labelled)
              (subst (λ all. Contains all leave.target.label) (sym its_labels) label);
          names = subst (AllByRecursion (λ (x : VarId). x.0 < length (variables text))) (sym bound)
              ((numbers_below (variables text) leave.names).0 among);
          differ = subst VariablesDiffer (sym bound) ((numbers_differ (variables text) leave.names among).0 differ);
          result = subst (λ waits. IfSome waits (λ x. x < length (variables text))) (sym waits)
              ((waits_rule (variables text) line leave.waits).0 broken.2);
        }

    -- what is named is there
    pub there : IsNamed (numbered functions) [] continuation → NamesDiffer leave.names × Parts
    there it =
        let other = it.found in
        let same : it.body ≡ body functions text =
        let both : Some it.body ≡ Some (body functions text) = sym other ∙ found in cc in
        let names = subst (AllByRecursion (λ (x : VarId). x.0 < length (variables text))) bound
        (subst (λ (b : BodyView). AllByRecursion (λ (x : VarId). x.0 < length b.variables)
        (bound_names continuation.binds)) same it.names) in
        let among = (numbers_below (variables text) leave.names).1 names in
        let label = subst (λ all. Contains all leave.target.label) its_labels
        (subst (λ (b : BodyView). Contains (labels_of b.lines) leave.target.label) same
        (subst (Contains (labels_of it.body.lines)) labelled it.label)) in
        let result = subst (λ waits. IfSome waits (λ x. x < length (variables text))) waits
        (subst (λ (b : BodyView). IfSome continuation.waits (λ x. x < length b.variables)) same it.result) in (
          (numbers_differ (variables text) leave.names among).1 (subst VariablesDiffer bound it.differ),
          (
            (none_if_not (is_among (labels text) leave.target.label) 2 line).1
                ((among_contains (labels text) leave.target.label).1 label),
            (known_each line (variables text) leave.names).1 among,
            (waits_rule (variables text) line leave.waits).1 result,
          ),
        )

  -- no rule of a continuation is broken where what it names is there
  by_version : (found : Option TextVersion) → version_at functions leave.target ≡ found
      → ((repeated_on line leave.names ≡ []) × (unknown_target line leave found ≡ []))
      ↔ IsNamed (numbered functions) [] continuation
  by_version None is =
      let law = not_there is in ((λ both. law.0 both.1), λ named. absurd (let wrong = law.1 named in cc))
  by_version (Some text) is = (
    (λ both. named text is ((differ_on line leave.names).0 both.0) ((parts text is).0 both.1)),
    λ it. let all = there text is it in ((differ_on line leave.names).1 all.0, (parts text is).1 all.1),
  )

  pub leave_rule : (leave_broken functions line leave ≡ []) ↔ IsNamed (numbered functions) [] continuation
  leave_rule =
      iff_then (none_both (repeated_on line leave.names)
      (unknown_target line leave (version_at functions leave.target)))
      (by_version (version_at functions leave.target) refl)

module _ (functions : List RawFunction) (names : List (List ℕ)) where
  -- the names that a map binds have the numbers of those that are written
  bound_are : (others : List (List ℕ)) (binds : List RawBind)
      → bound_names (map_of (own_names (outline functions)) others names binds) ≡ map (number_of others)
      (left_names binds)
  bound_are others [] = refl
  bound_are others (bind ∷ binds) = ap (λ rest. number_of others bind.name ∷ rest) (bound_are others binds)

  -- the continuation of a further frame is made of the one that is written
  further_made : (extra : RawExtra) → IsMade functions (further extra)
      (extra_continuation (extra_of (outline functions) names extra))
  further_made extra = record {
    target = refl;
    names = bound_are (place_variables (outline functions) extra.target)
        extra.map;
    waits = refl;
  }

  -- so are all further ones
  each_further : (extras : List RawExtra) → AllZip (IsMade functions) (map further extras)
      (map extra_continuation (map (extra_of (outline functions) names) extras))
  each_further [] = tt
  each_further (extra ∷ extras) = (further_made extra, each_further extras)

  -- all of an exit
  each_of_exit : (exit : RawExit) → AllZip (IsMade functions) (exit_leaves exit)
      (continuations (exit_of (outline functions) names exit))
  each_of_exit exit = (
    record {
      target = refl;
      names = bound_are (place_variables (outline functions) exit.target) exit.map;
      waits = refl;
    },
    each_further exit.extras,
  )

  -- and all of an instruction
  pub each_made : (instr : RawInstr) → AllZip (IsMade functions) (leaves instr)
      (continuations_of (instr_of (outline functions) names instr))
  each_made (Var x e) = tt
  each_made (Drop x) = tt
  each_made (Assign x e) = tt
  each_made (ArrayLength x e) = tt
  each_made (ArrayList x es) = tt
  each_made (Store x index e) = tt
  each_made (Print e) = tt
  each_made (Read x) = tt
  each_made (Branch e a b) = tt
  each_made (Goto a) = tt
  each_made (Call x callee es) = tt
  each_made (Return e) = tt
  each_made Stop = tt
  each_made (Assume es exit) = each_of_exit exit

  -- what is the same of each that is written and of the one made of it is the same of all of an instruction
  pub of_leaves : (P : Leave → Type 0) (Q : Continuation → Type 0)
      → ((leave : Leave) (continuation : Continuation) → IsMade functions leave continuation → P leave ↔ Q continuation)
      → (instr : RawInstr) → AllByRecursion P (leaves instr)
      ↔ AllByRecursion Q (continuations_of (instr_of (outline functions) names instr))
  of_leaves P Q each instr =
      iff_zip P Q (IsMade functions) each (leaves instr)
      (continuations_of (instr_of (outline functions) names instr)) (each_made instr)

  -- what the continuations of an instruction name is there where none of their rules is broken
  pub leaves_rule : (line : ℕ) (instr : RawInstr)
      → (flat_map (leave_broken functions line) (leaves instr) ≡ [])
      ↔ AllByRecursion (IsNamed (numbered functions) []) (continuations_of (instr_of (outline functions) names instr))
  leaves_rule line instr =
      iff_then (none_each (leave_broken functions line) (leaves instr))
      (of_leaves (λ leave. leave_broken functions line leave ≡ []) (IsNamed (numbered functions) [])
      (leave_rule functions line) instr)
