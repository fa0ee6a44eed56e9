-- The lines of versions, functions and a raw job spell them within the limits.
use Rattle.std.proofs.Common.{◌≡◌, ℕ, ◌≤◌, ◌+◌, List, [], ◌∷◌, length, map, Option, Some, None, refl, sym, subst, ◌∙◌, inl, length-append, append-nil, arith}
use Rattle.std.specs.Prelude.{⊤}
use Rattle.std.specs.List.{AllByRecursion}
use Rattle.std.proofs.lemmas.List.{length-map}
use Rattle.sour_syntax.specs.Name.{IsName}
use Rattle.sour_syntax.proofs.Everywhere.{AllByRecursion-append}
use Rattle.sour_lexer.specs.Placed.{Word, LineEnd}
use Rattle.sour_raw.specs.declared.kind.Kind.TheVariants.{Limit as limit}
use Rattle.sour_raw.specs.declared.raw.RawInstr.{RawInstr}
use Rattle.sour_raw.specs.declared.raw.RawInstr.TheVariants.{Var, Drop, Assign, ArrayLength, ArrayList, Store, Print, Read, Branch, Goto, Call, Return, Stop, Assume}
use Rattle.sour_raw.specs.declared.raw.RawLine.{RawLine}
use Rattle.sour_raw.specs.declared.raw.RawVersion.{RawVersion}
use Rattle.sour_raw.specs.declared.raw.RawFunction.{RawFunction}
use Rattle.sour_raw.specs.Lexemes.{open_paren, close_paren, colon}
use Rattle.sour_raw.specs.Keys.{keyword}
use Rattle.sour_raw.specs.Spelling.{Tokens, ◌·◌, one, less, each, one_or_more, after_all, alone}
use Rattle.sour_raw.specs.Names.{name_of}
use Rattle.sour_raw.specs.Variables.{with_line, fits}
use Rattle.sour_raw.specs.Grammar.{no_names, name, labelled, line, parameter_names, version, function}
use Rattle.sour_raw.specs.Written.{IsWrittenLabel, IsWrittenLine, IsWrittenVersion, IsWrittenFunction}
use Rattle.sour_raw.specs.Limits.{IsShortInstr, HasShortInstrs, IsShortVersion, IsShortFunction}
use Rattle.laws_grammar.proofs.VariableLaws.{all_variables}
use Rattle.laws_printing.specs.Pieces.{Token, listed_pieces, instr_pieces, labelled_pieces, line_pieces, version_pieces, version_lines, versions_lines, parameter_pieces, heading_pieces, end_pieces, function_lines, functions_lines}
use Rattle.laws_printing.specs.Text.{text_tokens}
use Rattle.laws_printing.specs.Numbered.{AreNumbered, version_height, AreVersionsNumbered, versions_height, function_height, AreFunctionsNumbered}
use Rattle.laws_printing.specs.Laws.{PiecesSpell}
use Rattle.laws_printing.proofs.Says.{Empty, Says, Within, itself, beside, after_token, ended, spelled_then, append_says, word_says, Room, room_one, Spells, listed_says}
use Rattle.laws_printing.proofs.SaysLines.{SaysFrom, SaysLines, on_line, carried_from, split_lines, BeginsWithToken, text_says}
use Rattle.laws_printing.proofs.Variables.{AreFew, heading_passes, back_line}
use Rattle.laws_printing.proofs.SpelledInstructions.{says_name, name_says, instr_says}

-- ---- lines

-- an instruction with its label, where one is written
labelled_says : (names : List (List ℕ)) (x : Option (List ℕ)) (i : RawInstr) {A : Tokens} → IsWrittenLabel x
    → Within (Says (instr_pieces i) Empty) A
    → Within (Says (labelled_pieces x (instr_pieces i)) Empty) (labelled names x limit A)
labelled_says names None i is a ts s = a ts s
labelled_says names (Some x) i is a ts s =
    beside (word_says name_of limit (fits names) x (Word x) (says_name x is) (heading_passes names x is))
    (after_token colon a) ts s

-- a line
line_says : (names : List (List ℕ)) (n : ℕ) (l : RawLine) (B : Tokens) → IsWrittenLine l → IsShortInstr l.instr
    → l.line ≡ n → AreFew (with_line names l)
    → Within (SaysFrom n (line_pieces l) (one LineEnd · B)) (line names limit l · B)
line_says names n l B is short numbered few ts s =
    beside
    (λ u t.
    let a = on_line n (line_pieces l) (one LineEnd) u t in (
      spelled_then (line_pieces l)
          (labelled_says names l.label l.instr is.label (instr_says names l.instr is.instr short few))
          (itself (one LineEnd)) u a.0,
      a.1 ∙ sym numbered,
    ))
    (itself B) ts (carried_from n (line_pieces l) (itself (one LineEnd · B)) ts s)

-- few names after lines are few before them
back_lines : (names : List (List ℕ)) (ls : List RawLine) → AreFew (after_all with_line names ls) → AreFew names
back_lines names [] few = few
back_lines names (l ∷ ls) few = back_line names l (back_lines (with_line names l) ls few)

-- lines
lines_say : (room : Option ℕ) (names : List (List ℕ)) (n : ℕ) (ls : List RawLine) → AllByRecursion IsWrittenLine ls
    → HasShortInstrs ls → AreNumbered n ls → Room room (length ls) → AreFew (after_all with_line names ls)
    → Within (SaysLines n (map line_pieces ls) Empty) (each line with_line room names limit ls)
lines_say room names n [] is short numbered r few ts s = s
lines_say room names n (l ∷ ls) is short numbered r few ts s =
    let o = room_one room (length ls) r in
    let others = SaysLines (n + 1) (map line_pieces ls) Empty in (
      o.0,
      beside (itself (line names limit l))
          (lines_say (less room) (with_line names l) (n + 1) ls is.1 short.1 numbered.1 o.1 few) ts
          (line_says names n l others is.0 short.0 numbered.0 (back_lines (with_line names l) ls few) ts s),
    )

-- ---- versions

-- a version
version_says : (ps : List (List ℕ)) (n : ℕ) (v : RawVersion) → IsWrittenVersion v → IsShortVersion ps v → v.line ≡ n
    → AreNumbered (n + 1) v.lines → Within (SaysLines n (version_lines v) Empty) (version ps limit v)
version_says ps n v is short here numbered ts s =
    let few : AreFew (after_all with_line (parameter_names ps) v.lines) =
    subst AreFew (sym (all_variables ps v.lines)) short.variables in
    let a = on_line n (version_pieces v.name) _ ts s in (
      after_token (keyword "ver") (beside (name_says v.name is.name) (after_token LineEnd
          (lines_say (Some 4096) (parameter_names ps) (n + 1) v.lines is.lines short.instrs numbered short.lines few)))
          ts a.0,
      a.1 ∙ sym here,
    )

-- how many lines a version has
version_length : (v : RawVersion) → length (version_lines v) ≡ version_height v
version_length v = omega (arith, length-map v.lines line_pieces)

-- versions
versions_say : (ps : List (List ℕ)) (room : Option ℕ) (n : ℕ) (vs : List RawVersion)
    → AllByRecursion IsWrittenVersion vs → AllByRecursion (IsShortVersion ps) vs → AreVersionsNumbered n vs
    → Room room (length vs)
    → Within (SaysLines n (versions_lines vs) Empty) (each (λ names. version ps) alone room no_names limit vs)
versions_say ps room n [] is short numbered r ts s = s
versions_say ps room n (v ∷ vs) is short numbered r ts s =
    let o = room_one room (length vs) r in (
      o.0,
      beside (version_says ps n v is.0 short.0 numbered.0 numbered.1)
          (versions_say ps (less room) (n + version_height v) vs is.1 short.1 numbered.2 o.1) ts
          (split_lines n (n + version_height v) (version_lines v) (versions_lines vs)
          (omega (arith, version_length v)) ts s),
    )

-- one version and others
some_versions_say : (ps : List (List ℕ)) (n : ℕ) (vs : List RawVersion) → ¬ (vs ≡ [])
    → AllByRecursion IsWrittenVersion vs → AllByRecursion (IsShortVersion ps) vs → AreVersionsNumbered n vs
    → length vs ≤ 16
    → Within (SaysLines n (versions_lines vs) Empty)
    (one_or_more (λ names. version ps) alone (Some 16) no_names limit vs)
some_versions_say ps n [] some is short numbered r ts s = absurd (some refl)
some_versions_say ps n (v ∷ vs) some is short numbered r ts s =
    (versions_say ps (Some 16) n (v ∷ vs) is short numbered r ts s).1

-- how many lines versions have
versions_length : (vs : List RawVersion) → length (versions_lines vs) ≡ versions_height vs
versions_length [] = refl
versions_length (v ∷ vs) =
    omega (arith, length-append (version_lines v) (versions_lines vs), version_length v, versions_length vs)

-- ---- functions

-- parameters are items
parameters_spell : Spells (λ names. name) alone parameter_pieces IsName (λ (names : List (List ℕ)). ⊤)
parameters_spell = record { item = λ names x is free. ended (name_says x is); back = λ names x free. tt }

-- the last line of a function
end_says : (n : ℕ) → Within (SaysLines n (end_pieces ∷ []) Empty) (one (keyword "end") · one LineEnd)
end_says n = beside (λ u t. t.0) (ended (itself (one LineEnd)))

-- a function
function_says : (n : ℕ) (f : RawFunction) → IsWrittenFunction f → IsShortFunction f → f.line ≡ n
    → AreVersionsNumbered (n + 1) f.versions → Within (SaysLines n (function_lines f) Empty) (function limit f)
function_says n f is short here numbered ts s =
    let names = listed_pieces parameter_pieces f.parameters in
    let m = n + 1 + versions_height f.versions in
    let a = on_line n (heading_pieces f) _ ts s in (
      after_token (keyword "fun") (beside (name_says f.name is.name) (after_token open_paren
          (λ u t. spelled_then names
          (listed_says parameters_spell (Some 255) no_names f.parameters is.parameters short.parameters tt)
          (after_token close_paren (after_token LineEnd
          (λ v w. beside
          (some_versions_say f.parameters (n + 1) f.versions is.some is.versions short.each numbered short.versions)
          (end_says m) v
          (split_lines (n + 1) m (versions_lines f.versions) (end_pieces ∷ [])
          (omega (arith, versions_length f.versions)) v w))))
          u (append_says names (Token close_paren ∷ []) _ u t)))) ts a.0,
      a.1 ∙ sym here,
    )

-- how many lines a function has
function_length : (f : RawFunction) → length (function_lines f) ≡ function_height f
function_length f =
    omega (arith, length-append (versions_lines f.versions) (end_pieces ∷ []), versions_length f.versions)

-- functions
functions_say : (room : Option ℕ) (n : ℕ) (fs : List RawFunction) → AllByRecursion IsWrittenFunction fs
    → AllByRecursion IsShortFunction fs → AreFunctionsNumbered n fs → Room room (length fs)
    → Within (SaysLines n (functions_lines fs) Empty) (each (λ names. function) alone room no_names limit fs)
functions_say room n [] is short numbered r ts s = s
functions_say room n (f ∷ fs) is short numbered r ts s =
    let o = room_one room (length fs) r in (
      o.0,
      beside (function_says n f is.0 short.0 numbered.0 numbered.1)
          (functions_say (less room) (n + function_height f) fs is.1 short.1 numbered.2 o.1) ts
          (split_lines n (n + function_height f) (function_lines f) (functions_lines fs)
          (omega (arith, function_length f)) ts s),
    )

-- one function and others
some_functions_say : (n : ℕ) (fs : List RawFunction) → ¬ (fs ≡ []) → AllByRecursion IsWrittenFunction fs
    → AllByRecursion IsShortFunction fs → AreFunctionsNumbered n fs → length fs ≤ 256
    → Within (SaysLines n (functions_lines fs) Empty)
    (one_or_more (λ names. function) alone (Some 256) no_names limit fs)
some_functions_say n [] some is short numbered r ts s = absurd (some refl)
some_functions_say n (f ∷ fs) some is short numbered r ts s =
    (functions_say (Some 256) n (f ∷ fs) is short numbered r ts s).1

-- ---- the whole

-- an instruction begins with a token
instr_begins : (i : RawInstr) → BeginsWithToken (instr_pieces i)
instr_begins (Var x e) = tt
instr_begins (Drop x) = tt
instr_begins (Assign x e) = tt
instr_begins (ArrayLength x e) = tt
instr_begins (ArrayList x es) = tt
instr_begins (Store x index e) = tt
instr_begins (Print e) = tt
instr_begins (Read x) = tt
instr_begins (Branch e a b) = tt
instr_begins (Goto a) = tt
instr_begins (Call x callee es) = tt
instr_begins (Return e) = tt
instr_begins Stop = tt
instr_begins (Assume es e) = tt

-- so does a line
line_begins : (x : Option (List ℕ)) (i : RawInstr) → BeginsWithToken (labelled_pieces x (instr_pieces i))
line_begins None i = instr_begins i
line_begins (Some x) i = tt

-- so do lines
lines_begin : (ls : List RawLine) → AllByRecursion BeginsWithToken (map line_pieces ls)
lines_begin [] = tt
lines_begin (l ∷ ls) = (line_begins l.label l.instr, lines_begin ls)

-- so do the lines of versions
versions_begin : (vs : List RawVersion) → AllByRecursion BeginsWithToken (versions_lines vs)
versions_begin [] = tt
versions_begin (v ∷ vs) =
    AllByRecursion-append BeginsWithToken (version_lines v) (versions_lines vs) (tt, lines_begin v.lines)
    (versions_begin vs)

-- so do those of functions
functions_begin : (fs : List RawFunction) → AllByRecursion BeginsWithToken (functions_lines fs)
functions_begin [] = tt
functions_begin (f ∷ fs) =
    AllByRecursion-append BeginsWithToken (function_lines f) (functions_lines fs) (
      tt,
      AllByRecursion-append BeginsWithToken (versions_lines f.versions) (end_pieces ∷ [])
          (versions_begin f.versions) (tt, tt),
    )
    (functions_begin fs)

-- the law that the tokens of the pieces of a raw job spell it
pub pieces_spell : PiecesSpell
pieces_spell raw is short canonical =
    let tokens = text_tokens 1 (functions_lines raw.functions) in (
      tokens,
      [],
      sym (append-nil tokens),
      some_functions_say 1 raw.functions is.some is.functions short.each canonical.numbered short.functions tokens
          (text_says 1 (functions_lines raw.functions) (functions_begin raw.functions)),
      ([], [], refl, inl (canonical.plan, refl), inl (canonical.inputs, refl)),
    )
