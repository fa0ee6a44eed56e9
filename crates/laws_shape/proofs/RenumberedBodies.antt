-- What exits name among other bodies, and bodies of a bundle under other numbers.
use Rattle.std.proofs.Common.{◌≡◌, ◌<◌, ◌≤◌, ◌+◌, ℕ, zero, suc, false, List, [], ◌∷◌, ◌++◌, Contains, Some, length, map, slice_get, refl, sym, ap, subst, ◌∙◌, arith, append_assoc}
use Rattle.std.specs.Prelude.{IfSome, option_map}
use Rattle.std.specs.List.{AllByRecursion}
use Rattle.std.proofs.lemmas.List.{map-append, map-id, append-nil, length-map}
use Rattle.std.proofs.lemmas.Option.{none-some, slice_get-map}
use Rattle.sour_syntax.specs.declared.exit.Code.{Code}
use Rattle.sour_syntax.specs.declared.exit.Code.TheVariants.{Text, Made}
use Rattle.sour_syntax.specs.declared.exit.Exit.{Exit}
use Rattle.sour_syntax.specs.declared.expression.Expr.{Expr}
use Rattle.sour_syntax.specs.declared.instruction.Instr.{Instr}
use Rattle.sour_syntax.specs.declared.instruction.Instr.TheVariants.{Assume}
use Rattle.sour_syntax.specs.declared.instruction.Line.{Line}
use Rattle.sour_syntax.specs.declared.literal.Literal.{Literal}
use Rattle.sour_syntax.specs.declared.literal.VarId.{VarId}
use Rattle.sour_syntax.specs.BodyView.{BodyView}
use Rattle.sour_syntax.specs.Exits.{Continuation, continuations, continuations_of, bound_names, exit_values}
use Rattle.sour_syntax.specs.Jumps.{named_labels}
use Rattle.sour_syntax.specs.Limits.{IsShortInstr}
use Rattle.sour_syntax.specs.Literals.{IsLiteral, literals_of_each, literals_of}
use Rattle.sour_syntax.specs.Program.{ProgramView}
use Rattle.sour_syntax.specs.Scopes.{Scope, HasScope, IsInScope, IsOutOfScope, IsFine, variables_of_each, needed, declared_by, mentioned, scope_with}
use Rattle.sour_syntax.specs.Targets.{named_body, made_body, VariablesDiffer, IsNamed, Lands, scope_of_names}
use Rattle.sour_syntax.specs.Terminator.{IsTerminator}
use Rattle.sour_syntax.proofs.Everywhere.{AllByRecursion-weaker, AllByRecursion-each}
use Rattle.sour_syntax.proofs.NoExits.{All-from_label}
use Rattle.sour_semantics.specs.Shape.{IsOperand, IsAnchorInstr, IsCallOrReturn, HasMadeLabel, AreMadeBodies}
use Rattle.laws_renaming.specs.Mapping.{mapped_continuation}
use Rattle.laws_renaming.proofs.Expressions.{names-mapped, exit-mapped, continuations-mapped}
use Rattle.laws_renaming.proofs.Rows.{get-behind}
use Rattle.laws_simulation.specs.Renumbered.{renumbered_code, renumbered_exit, renumbered, renumbered_body}
use Rattle.laws_simulation.proofs.Instructions.{assume-cases}
use Rattle.laws_shape.specs.Laws.{StandsThere, ContinuationStands, RenumberedIsMade, RenumberedAreMade}
use Rattle.laws_shape.specs.Relined.{KeepsPaths}
use Rattle.laws_shape.specs.Renumbered.{HasLike, IsRenumbered}
use Rattle.laws_shape.proofs.RelinedBodies.{labels-relined, relined_is_made}
use Rattle.laws_shape.proofs.RelinedPaths.{path-onward, KeepsPaths-assumes}

-- a continuation whose values are mapped names what is there, and lands, where its code names the like
pub continuation_stands : ContinuationStands
continuation_stands functions earlier later codes values c like = record { named = named; lands = lands }
  where
    new : Continuation
    new = mapped_continuation codes values c

    -- its map names the same variables
    names : bound_names c.binds ≡ bound_names new.binds
    names = sym (names-mapped values c.binds)

    -- it names what is there
    named : IsNamed functions earlier c → IsNamed functions later new
    named is =
        let has : HasLike functions later (codes c.target.code) is.body = like is.body is.found in
        let Within : List VarId → List (List ℕ) → Type 0 =
        λ xs variables. AllByRecursion (λ x. x.0 < length variables) xs in
        record {
          body = has.there;
          found = has.found;
          label = subst (λ labels. Contains labels c.target.label) has.labels is.label;
          names = subst (λ xs. Within xs has.there.variables) names
              (subst (Within (bound_names c.binds)) has.variables is.names);
          differ = subst VariablesDiffer names is.differ;
          result = subst (λ variables. IfSome c.waits (λ x. x < length variables)) has.variables is.result;
        }

    -- and lands
    lands : Lands functions earlier c → Lands functions later new
    lands is =
        let has : HasLike functions later (codes c.target.code) is.body = like is.body is.found in
        let scope : List (List ℕ) → List VarId → Scope = λ variables xs. scope_of_names (length variables) xs in
        let old : Scope = scope is.body.variables (bound_names c.binds) in
        let same : old ≡ scope has.there.variables (bound_names new.binds) = λ i. scope (has.variables i) (names i) in
        let path : (steps : ℕ) × HasScope has.there steps c.target.label (scope_with c.waits old) =
        has.path is.count c.target.label _ is.path in
        record {
          body = has.there;
          found = has.found;
          count = path.0;
          path = subst (λ s. HasScope has.there path.0 c.target.label (scope_with c.waits s)) same path.1;
          free = subst (λ s. IfSome c.waits (λ x. slice_get s x ≡ Some false)) same is.free;
        }

module _ (numbers : ℕ → ℕ) where
  abbrev exits : Exit → Exit
  exits = renumbered_exit numbers

  abbrev change : List ℕ → Instr → Instr
  change label = renumbered numbers

  -- paths stay
  keeps-paths : KeepsPaths change
  keeps-paths = KeepsPaths-assumes (λ es. es) exits

  -- what holds of each assume and the renumbered one holds of each instruction and the renumbered one
  cases : (P : Instr → Instr → Type 0) → ((instr : Instr) → continuations_of instr ≡ [] → P instr instr)
      → ((es : List Expr) (exit : Exit) → P (Assume es exit) (Assume es (exits exit)))
      → (instr : Instr) → P instr (renumbered numbers instr)
  cases P same assume = assume-cases P (λ es. es) exits same assume

  -- the values in the maps of an exit stay
  values-stay : (exit : Exit) → exit_values exit ≡ exit_values (exits exit)
  values-stay exit =
      sym (exit-mapped (λ e. e) (renumbered_code numbers) exit ∙ map-id (exit_values exit))

  module _ (P : VarId → Type 0) where
    -- so does what holds of the variables of an assume
    assume-stays : (es : List Expr) (exit : Exit) → AllByRecursion P (needed (Assume es exit))
        → AllByRecursion P (needed (Assume es (exits exit)))
    assume-stays es exit all =
        subst (λ values. AllByRecursion P (variables_of_each es ++ variables_of_each values)) (values-stay exit) all

    -- of those that an instruction needs
    needed-stay : (instr : Instr) → AllByRecursion P (needed instr)
        → AllByRecursion P (needed (renumbered numbers instr))
    needed-stay = cases (λ old new. AllByRecursion P (needed old) → AllByRecursion P (needed new))
        (λ instr none all. all) assume-stays

    -- and of those that it mentions
    mentioned-stay : (instr : Instr) → AllByRecursion P (mentioned instr)
        → AllByRecursion P (mentioned (renumbered numbers instr))
    mentioned-stay = cases (λ old new. AllByRecursion P (mentioned old) → AllByRecursion P (mentioned new))
        (λ instr none all. all) assume-stays

  -- and of its literals
  literals-stay : (P : Literal → Type 0) (instr : Instr) → AllByRecursion P (literals_of instr)
      → AllByRecursion P (literals_of (renumbered numbers instr))
  literals-stay P = cases (λ old new. AllByRecursion P (literals_of old) → AllByRecursion P (literals_of new))
      (λ instr none all. all) (λ es exit all.
      subst (λ values. AllByRecursion P (literals_of_each es ++ literals_of_each values)) (values-stay exit) all)

  -- the instruction may stand where it stood
  fine-stays : (scope : Scope) (instr : Instr) → IsFine instr scope → IsFine (renumbered numbers instr) scope
  fine-stays scope instr fine = record {
    needs = needed-stay (IsInScope scope) instr fine.needs;
    declares = cases (λ old new. AllByRecursion (IsOutOfScope scope) (declared_by old)
        → AllByRecursion (IsOutOfScope scope) (declared_by new)) (λ same none out. out) (λ es exit out. tt)
        instr fine.declares;
  }

  -- an anchor's stays one
  anchor-stays : (instr : Instr) → IsAnchorInstr instr → IsAnchorInstr (renumbered numbers instr)
  anchor-stays = cases (λ old new. IsAnchorInstr old → IsAnchorInstr new) (λ instr none is. is)
      (λ es exit is. (is.0, subst (AllByRecursion IsOperand) (values-stay exit) is.1))

  -- what is short stays short
  short-stays : (instr : Instr) → IsShortInstr instr → IsShortInstr (renumbered numbers instr)
  short-stays = cases (λ old new. IsShortInstr old → IsShortInstr new) (λ instr none short. short)
      (λ es exit short. (short.0, subst (λ n. n ≤ 16) (sym (length-map exit.extras _)) short.1))

  module _ (program : ProgramView) (earlier later : List BodyView) where
    -- what a code names that was renumbered is like what the old one named
    has-like : (code : Code) → IsRenumbered numbers earlier later code → (body : BodyView)
        → named_body program.functions earlier code ≡ Some body
        → HasLike program.functions later (renumbered_code numbers code) body
    has-like (Text f version) is body found = record {
      there = body;
      found = found;
      labels = refl;
      variables = refl;
      path = λ count label scope path. (count, path);
    }
    has-like (Made number) is body found = record {
      there = renumbered_body numbers body;
      found = is body found;
      labels = sym (labels-relined change body.lines);
      variables = refl;
      path = path-onward change body keeps-paths;
    }

    -- whether what a continuation names was renumbered
    abbrev Renumbered : Continuation → Type 0
    Renumbered c = IsRenumbered numbers earlier later c.target.code

    abbrev new : Continuation → Continuation
    new = mapped_continuation (renumbered_code numbers) (λ (e : Expr). e)

    -- a renumbered continuation stands there
    stands-there : (c : Continuation) → Renumbered c → StandsThere program.functions earlier later c (new c)
    stands-there c is =
        continuation_stands program.functions earlier later (renumbered_code numbers) (λ e. e) c
        (has-like c.target.code is)

    -- what holds of continuations holds of the renumbered ones
    each-stands : (P Q : Continuation → Type 0) → ((c : Continuation) → Renumbered c → P c → Q (new c))
        → (instr : Instr) → AllByRecursion P (continuations_of instr)
        → AllByRecursion Renumbered (continuations_of instr)
        → AllByRecursion Q (continuations_of (renumbered numbers instr))
    each-stands P Q keeps = cases (λ old one. AllByRecursion P (continuations_of old)
        → AllByRecursion Renumbered (continuations_of old) → AllByRecursion Q (continuations_of one))
        (λ instr none all are. subst (AllByRecursion Q) (sym none) tt)
        (λ es exit all are. subst (AllByRecursion Q)
        (sym (continuations-mapped (λ (e : Expr). e) (renumbered_code numbers) exit))
        (one-by-one (continuations exit) all are))
      where
        one-by-one : (cs : List Continuation) → AllByRecursion P cs → AllByRecursion Renumbered cs
            → AllByRecursion Q (map new cs)
        one-by-one [] all are = tt
        one-by-one (c ∷ cs) all are = (keeps c are.0 all.0, one-by-one cs all.1 are.1)

-- a body whose exits lead to bodies under other numbers stays one
pub renumbered_is_made : RenumberedIsMade
renumbered_is_made program numbers earlier later body is are =
    let Own : VarId → Type 0 = λ x. x.0 < length body.variables in
    let Fits : Literal → Type 0 = IsLiteral (length program.functions) in
    relined_is_made program earlier later body (change numbers) is (record {
      paths = keeps-paths numbers;
      ends = λ label. cases numbers (λ old new. IsTerminator old → IsTerminator new)
          (λ instr none ends. ends) (λ es exit ends. ends);
      names = λ label. cases numbers (λ old new. named_labels new ≡ named_labels old)
          (λ instr none. refl) (λ es exit. refl);
      call_or_return = λ label. cases numbers (λ old new. IsCallOrReturn new → IsCallOrReturn old)
          (λ instr none is. is) (λ es exit is. is);
      mentions = AllByRecursion-weaker (λ (line : Line). AllByRecursion Own (mentioned line.instr)) _
          (λ line. mentioned-stay numbers Own line.instr) body.lines is.is.mentions;
      literals = AllByRecursion-weaker (λ (line : Line). AllByRecursion Fits (literals_of line.instr)) _
          (λ line. literals-stay numbers Fits line.instr) body.lines is.literals;
      anchors = AllByRecursion-weaker HasMadeLabel _
          (λ line made anchor. anchor-stays numbers line.instr (made.anchor anchor)) body.lines is.labels;
      named = named body.lines is.exits.named are;
      short = AllByRecursion-weaker (λ (line : Line). IsShortInstr line.instr) _
          (λ line. short-stays numbers line.instr) body.lines is.instrs;
      fine = λ count label scope line rest path stands.
          fine-stays numbers scope line.instr (is.is.scopes.fine count label scope line rest path stands);
      land = λ count label scope line rest path stands.
          each-stands numbers program earlier later
          (Lands program.functions earlier) (Lands program.functions later)
          (λ c there. (stands-there numbers program earlier later c there).lands) line.instr
          (is.exits.land count label scope line rest path stands)
          (All-from_label _ label body.lines line rest are stands.stands);
    })
  where
    -- each line names what is there
    named : (lines : List Line)
        → AllByRecursion (λ line. AllByRecursion (IsNamed program.functions earlier)
        (continuations_of line.instr)) lines
        → AllByRecursion (λ line. AllByRecursion (Renumbered numbers program earlier later)
        (continuations_of line.instr)) lines
        → AllByRecursion (λ line. AllByRecursion (IsNamed program.functions later)
        (continuations_of (change numbers line.label line.instr))) lines
    named [] all are = tt
    named (line ∷ lines) all are = (
      each-stands numbers program earlier later
          (IsNamed program.functions earlier) (IsNamed program.functions later)
          (λ c there. (stands-there numbers program earlier later c there).named) line.instr all.0 are.0,
      named lines all.1 are.1,
    )

module _ (program : ProgramView) (lower : List BodyView) where
  abbrev raised : BodyView → BodyView
  raised = renumbered_body (λ number. length lower + number)

  -- what bodies have under a number those have, after the lower ones, under the raised one
  is-raised : (earlier : List BodyView) (code : Code)
      → IsRenumbered (λ number. length lower + number) earlier (lower ++ map raised earlier) code
  is-raised earlier (Text f version) = tt
  is-raised earlier (Made zero) = λ body found. absurd (none-some body found)
  is-raised earlier (Made (suc place)) = λ body found.
      let next : length lower + suc place ≡ suc (length lower + place) = omega arith in
      ap (made_body (lower ++ map raised earlier)) next ∙ get-behind lower (map raised earlier) place
      ∙ slice_get-map raised earlier place ∙ ap (option_map raised) found

  -- the bodies after some, raised
  raised-are : (earlier bodies : List BodyView) → AreMadeBodies program earlier bodies
      → AreMadeBodies program (lower ++ map raised earlier) (map raised bodies)
  raised-are earlier [] are = tt
  raised-are earlier (body ∷ bodies) are = (
    renumbered_is_made program (λ number. length lower + number) earlier (lower ++ map raised earlier) body are.0
        (AllByRecursion-each _ body.lines (λ line here. AllByRecursion-each _ (continuations_of line.instr)
        (λ c there. is-raised earlier c.target.code))),
    subst (λ some. AreMadeBodies program some (map raised bodies))
        (ap (λ some. lower ++ some) (map-append raised earlier (body ∷ []))
        ∙ sym (append_assoc lower (map raised earlier) (raised body ∷ [])))
        (raised-are (earlier ++ body ∷ []) bodies are.1),
  )

-- some bodies of a bundle, and others that may stand after them
AreMadeBodies-append : (program : ProgramView) (earlier bodies others : List BodyView)
    → AreMadeBodies program earlier bodies → AreMadeBodies program (earlier ++ bodies) others
    → AreMadeBodies program earlier (bodies ++ others)
AreMadeBodies-append program earlier [] others are more =
    subst (λ some. AreMadeBodies program some others) (append-nil earlier) more
AreMadeBodies-append program earlier (body ∷ bodies) others are more = (
  are.0,
  AreMadeBodies-append program (earlier ++ body ∷ []) bodies others are.1
      (subst (λ some. AreMadeBodies program some others) (sym (append_assoc earlier (body ∷ []) bodies)) more),
)

-- bodies may come after those of another bundle, raised
pub renumbered_are_made : RenumberedAreMade
renumbered_are_made program lower bodies low are =
    AreMadeBodies-append program [] lower _ low
    (subst (λ some. AreMadeBodies program some (map (raised program lower) bodies)) (append-nil lower)
    (raised-are program lower [] bodies are))
