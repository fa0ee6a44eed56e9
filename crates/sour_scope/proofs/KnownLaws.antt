-- What a part of a text names is there exactly where each name in it is among those that it may be one of.
use Rattle.std.proofs.Common.{◌↔◌, ℕ, List, [], ◌∷◌, ◌++◌, Option, None, Some}
use Rattle.std.specs.List.{AllByRecursion, flat_map}
use Rattle.sour_raw.specs.declared.raw.RawLiteral.{RawLiteral}
use Rattle.sour_raw.specs.declared.raw.RawLiteral.TheVariants.{Number, Truth, Nil, Function}
use Rattle.sour_raw.specs.declared.raw.RawSimple.{RawSimple}
use Rattle.sour_raw.specs.declared.raw.RawSimple.TheVariants as simple
use Rattle.sour_raw.specs.declared.raw.RawExpr.{RawExpr}
use Rattle.sour_raw.specs.declared.raw.RawExpr.TheVariants as expr
use Rattle.sour_raw.specs.declared.raw.RawBind.{RawBind}
use Rattle.sour_raw.specs.declared.raw.RawExtra.{RawExtra}
use Rattle.sour_raw.specs.declared.raw.RawExit.{RawExit}
use Rattle.sour_raw.specs.declared.raw.RawInstr.{RawInstr}
use Rattle.sour_raw.specs.declared.raw.RawInstr.TheVariants.{Var, Drop, Assign, ArrayLength, ArrayList, Store, Print, Read, Branch, Goto, Call, Return, Stop, Assume}
use Rattle.sour_raw.specs.Mentions.{simple_names, expr_names, each_names, all_names, bind_names, map_names, extra_names, exit_names, instr_names}
use Rattle.sour_checked.specs.Parts.{Leave, literal_functions, simple_functions, expr_functions, each_functions, map_functions, exit_functions, instr_functions, instr_labels, left_names, further, exit_leaves, leaves}
use Rattle.laws_scope.proofs.Kit.{iff_same, iff_map, iff_append, AreAmong}
use Rattle.sour_scope.specs.declared.version_outline.VersionOutline.{VersionOutline}
use Rattle.sour_scope.specs.OutlinedFunction.{OutlinedFunction}
use Rattle.sour_scope.specs.Known.{IsAmong, IsKnownLiteral, IsKnownSimple, IsKnownExpr, AreKnownExprs, IsKnownMap, IsKnownTarget, IsKnownResult, IsKnownExtra, IsKnownExit, IsKnownInstr}
use Rattle.sour_scope.specs.Outlined.{function_names, version_at}

-- the variable that waits is one of these
abbrev pub IsAmongIf : List (List ℕ) → Option (List ℕ) → Type 0
IsAmongIf names None = Unit {0}
IsAmongIf names (Some name) = IsAmong names name

-- what a continuation names of the version that was found is there
abbrev pub IsKnownLeave : Leave → Option VersionOutline → Type 0
IsKnownLeave leave None = ⊥
IsKnownLeave leave (Some version) =
    IsAmong version.labels leave.target.label × AreAmong version.variables leave.names × IsAmongIf version.variables leave.waits

-- the first continuation of an exit
abbrev top : RawExit → Leave
top exit = record { target = exit.target; names = left_names exit.map; waits = None }

module _ (functions variables : List (List ℕ)) where
  -- these functions and these variables are there
  abbrev Both : List (List ℕ) → List (List ℕ) → Type 0
  Both named mentioned = AreAmong functions named × AreAmong variables mentioned

  -- no names are there
  no_names : Unit {0} ↔ Both [] []
  no_names = ((λ is. (tt, tt)), λ both. tt)

  -- two parts
  joined : {A B : Type 0} (named other : List (List ℕ)) (mentioned more : List (List ℕ)) → A ↔ Both named mentioned → B ↔ Both other more
      → (A × B) ↔ Both (named ++ other) (mentioned ++ more)
  joined named other mentioned more first second =
      let names = iff_append (λ name. IsAmong functions name) named other in
      let mentions = iff_append (λ name. IsAmong variables name) mentioned more in (
        (λ both.
            let one = first.0 both.0 in
            let two = second.0 both.1 in (names.1 (one.0, two.0), mentions.1 (one.1, two.1))),
        λ both.
            let parts = names.0 both.0 in
            let others = mentions.0 both.1 in (first.1 (parts.0, others.0), second.1 (parts.1, others.1)),
      )

  -- a variable and a part
  after_variable : {A : Type 0} (name : List ℕ) (named mentioned : List (List ℕ)) → A ↔ Both named mentioned
      → (IsAmong variables name × A) ↔ Both named (name ∷ mentioned)
  after_variable name named mentioned part = (
    (λ both. let rest = part.0 both.1 in (rest.0, (both.0, rest.1))),
    λ both. (both.1.0, part.1 (both.0, both.1.1)),
  )

  -- a variable alone
  one_variable : (name : List ℕ) → IsAmong variables name ↔ Both [] (name ∷ [])
  one_variable name = ((λ is. (tt, (is, tt))), λ both. both.1.0)

  known_literal : (literal : RawLiteral) → IsKnownLiteral functions literal ↔ Both (literal_functions literal) []
  known_literal (Number n) = no_names
  known_literal (Truth b) = no_names
  known_literal Nil = no_names
  known_literal (Function name) = ((λ is. ((is, tt), tt)), λ both. both.0.0)

  known_simple : (a : RawSimple) → IsKnownSimple functions variables a ↔ Both (simple_functions a) (simple_names a)
  known_simple (simple.Lit literal) = known_literal literal
  known_simple (simple.Name name) = one_variable name

  known_expr : (e : RawExpr) → IsKnownExpr functions variables e ↔ Both (expr_functions e) (expr_names e)
  known_expr (expr.Plain a) = known_simple a
  known_expr (expr.Cell x index) = after_variable x (simple_functions index) (simple_names index) (known_simple index)
  known_expr (expr.Length a) = known_simple a
  known_expr (expr.Not a) = known_simple a
  known_expr (expr.Binary op a b) =
      joined (simple_functions a) (simple_functions b) (simple_names a) (simple_names b) (known_simple a) (known_simple b)

  known_each : (es : List RawExpr) → AreKnownExprs functions variables es ↔ Both (each_functions es) (each_names es)
  known_each [] = no_names
  known_each (e ∷ es) =
      joined (expr_functions e) (each_functions es) (expr_names e) (each_names es) (known_expr e) (known_each es)

  -- a map, whose target has these variables
  known_map : (others : List (List ℕ)) (binds : List RawBind)
      → IsKnownMap functions variables others binds
      ↔ (AreAmong others (left_names binds) × Both (map_functions binds) (map_names binds))
  known_map others [] = ((λ all. (tt, (tt, tt))), λ all. tt)
  known_map others (bind ∷ binds) =
      let rest = known_map others binds in
      let values = joined (expr_functions bind.value) (map_functions binds) (bind_names bind) (map_names binds)
      (known_expr bind.value) iff_same in (
        (λ all.
            let more = rest.0 all.1 in ((all.0.0, more.0), values.0 (all.0.1, more.1))),
        λ all.
            let parts = values.1 all.1 in ((all.0.0, parts.0), rest.1 (all.0.1, parts.1)),
      )

  -- a continuation and the values of its map
  known_extra : (extra : RawExtra) (found : Option VersionOutline)
      → (IsKnownTarget functions variables found extra.target.label extra.map × IsKnownResult found extra.result)
      ↔ (IsKnownLeave (further extra) found × Both (map_functions extra.map) (extra_names extra))
  known_extra extra None = ((λ both. absurd both.0), λ both. absurd both.0)
  known_extra extra (Some version) =
      let map = known_map version.variables extra.map in (
        (λ both. let all = map.0 both.0.1 in ((both.0.0, all.0, both.1), all.1)),
        λ both. ((both.0.0, map.1 (both.0.1, both.1)), both.0.2),
      )

  -- the top of an exit
  known_target : (exit : RawExit) (found : Option VersionOutline)
      → IsKnownTarget functions variables found exit.target.label exit.map
      ↔ (IsKnownLeave (top exit) found × Both (map_functions exit.map) (map_names exit.map))
  known_target exit None = ((λ all. absurd all), λ both. absurd both.0)
  known_target exit (Some version) =
      let map = known_map version.variables exit.map in (
        (λ both. let all = map.0 both.1 in ((both.0, all.0, tt), all.1)),
        λ both. (both.0.0, map.1 (both.0.1, both.1)),
      )

module _ (outline : List OutlinedFunction) (variables : List (List ℕ)) where
  -- what a continuation names is there
  abbrev IsThere : Leave → Type 0
  IsThere leave = IsKnownLeave leave (version_at outline leave.target)

  -- further continuations and the values of their maps
  known_extras : (extras : List RawExtra) → AllByRecursion (IsKnownExtra outline variables) extras
      ↔ (AllByRecursion (λ extra. IsThere (further extra)) extras
      × Both (function_names outline) variables (flat_map (λ (extra : RawExtra). map_functions extra.map) extras) (all_names extra_names extras))
  known_extras [] = ((λ all. (tt, (tt, tt))), λ all. tt)
  known_extras (extra ∷ extras) =
      let one = known_extra (function_names outline) variables extra (version_at outline extra.target) in
      let rest = known_extras extras in
      let values = joined (function_names outline) variables (map_functions extra.map)
      (flat_map (λ (other : RawExtra). map_functions other.map) extras) (extra_names extra) (all_names extra_names extras) iff_same iff_same in (
        (λ all.
            let first = one.0 all.0 in
            let more = rest.0 all.1 in ((first.0, more.0), values.0 (first.1, more.1))),
        λ all.
            let parts = values.1 all.1 in (one.1 (all.0.0, parts.0), rest.1 (all.0.1, parts.1)),
      )

  -- an exit and the values of its maps
  known_exit : (exit : RawExit) → IsKnownExit outline variables exit
      ↔ (AllByRecursion IsThere (exit_leaves exit) × Both (function_names outline) variables (exit_functions exit) (exit_names exit))
  known_exit exit =
      let first = known_target (function_names outline) variables exit (version_at outline exit.target) in
      let rest = known_extras exit.extras in
      let made = iff_map IsThere further exit.extras in
      let values = joined (function_names outline) variables (map_functions exit.map)
      (flat_map (λ (extra : RawExtra). map_functions extra.map) exit.extras) (map_names exit.map) (all_names extra_names exit.extras) iff_same iff_same in (
        (λ all.
            let one = first.0 all.0 in
            let more = rest.0 all.1 in ((one.0, made.1 more.0), values.0 (one.1, more.1))),
        λ all.
            let parts = values.1 all.1 in (first.1 (all.0.0, parts.0), rest.1 (made.0 all.0.1, parts.1)),
      )

-- an instruction of a version
module _ (outline : List OutlinedFunction) (version : VersionOutline) where
  -- the functions, labels and continuations that an instruction names are there, and so are its variables
  abbrev pub HasNames : RawInstr → Type 0
  HasNames instr =
      (AreAmong version.labels (instr_labels instr) × AllByRecursion (IsThere outline version.variables) (leaves instr))
      × Both (function_names outline) version.variables (instr_functions instr) (instr_names instr)

  -- one that goes nowhere
  straight : {A : Type 0} (named mentioned : List (List ℕ)) → A ↔ Both (function_names outline) version.variables named mentioned
      → A ↔ ((Unit {0} × Unit {0}) × Both (function_names outline) version.variables named mentioned)
  straight named mentioned part = ((λ is. ((tt, tt), part.0 is)), λ both. part.1 both.1)

  -- a variable alone
  of_variable : (x : List ℕ) → IsAmong version.variables x
      ↔ ((Unit {0} × Unit {0}) × Both (function_names outline) version.variables [] (x ∷ []))
  of_variable x = straight [] (x ∷ []) (one_variable (function_names outline) version.variables x)

  -- an expression alone
  of_value : (e : RawExpr) → IsKnownExpr (function_names outline) version.variables e
      ↔ ((Unit {0} × Unit {0}) × Both (function_names outline) version.variables (expr_functions e) (expr_names e))
  of_value e = straight (expr_functions e) (expr_names e) (known_expr (function_names outline) version.variables e)

  -- a variable and a part
  of_both : {A : Type 0} (x : List ℕ) (named mentioned : List (List ℕ))
      → A ↔ Both (function_names outline) version.variables named mentioned
      → (IsAmong version.variables x × A) ↔ ((Unit {0} × Unit {0}) × Both (function_names outline) version.variables named (x ∷ mentioned))
  of_both x named mentioned part =
      straight named (x ∷ mentioned) (after_variable (function_names outline) version.variables x named mentioned part)

  -- a variable and two parts
  of_three : {A B : Type 0} (x : List ℕ) (named other mentioned more : List (List ℕ))
      → A ↔ Both (function_names outline) version.variables named mentioned
      → B ↔ Both (function_names outline) version.variables other more
      → (IsAmong version.variables x × A × B)
      ↔ ((Unit {0} × Unit {0}) × Both (function_names outline) version.variables (named ++ other) (x ∷ mentioned ++ more))
  of_three x named other mentioned more first second =
      let all = of_both x (named ++ other) (mentioned ++ more)
      (joined (function_names outline) version.variables named other mentioned more first second) in (
        (λ is. all.0 (is.0, (is.1, is.2))),
        λ both. let parts = all.1 both in (parts.0, parts.1.0, parts.1.1),
      )

  pub known_instr : (instr : RawInstr) → IsKnownInstr outline version instr ↔ HasNames instr
  known_instr (Var x e) = of_both x (expr_functions e) (expr_names e) (known_expr (function_names outline) version.variables e)
  known_instr (Drop x) = of_variable x
  known_instr (Assign x e) = of_both x (expr_functions e) (expr_names e) (known_expr (function_names outline) version.variables e)
  known_instr (ArrayLength x e) = of_both x (expr_functions e) (expr_names e) (known_expr (function_names outline) version.variables e)
  known_instr (ArrayList x es) = of_both x (each_functions es) (each_names es) (known_each (function_names outline) version.variables es)
  known_instr (Store x index e) = of_three x (simple_functions index) (expr_functions e) (simple_names index) (expr_names e)
      (known_simple (function_names outline) version.variables index) (known_expr (function_names outline) version.variables e)
  known_instr (Print e) = of_value e
  known_instr (Read x) = of_variable x
  known_instr (Branch e a b) =
      let value = known_expr (function_names outline) version.variables e in (
        (λ is. (((is.1, (is.2, tt)), tt), value.0 is.0)),
        λ all. (value.1 all.1, all.0.0.0, all.0.0.1.0),
      )
  known_instr (Goto a) = ((λ is. (((is, tt), tt), (tt, tt))), λ all. all.0.0.0)
  known_instr (Call x callee es) = of_three x (simple_functions callee) (each_functions es) (simple_names callee) (each_names es)
      (known_simple (function_names outline) version.variables callee) (known_each (function_names outline) version.variables es)
  known_instr (Return e) = of_value e
  known_instr Stop = ((λ is. ((tt, tt), (tt, tt))), λ all. tt)
  known_instr (Assume es exit) =
      let first = known_each (function_names outline) version.variables es in
      let rest = known_exit outline version.variables exit in
      let values = joined (function_names outline) version.variables (each_functions es) (exit_functions exit) (each_names es) (exit_names exit) iff_same iff_same in (
        (λ is.
            let leaving = rest.0 is.1 in ((tt, leaving.0), values.0 (first.0 is.0, leaving.1))),
        λ all.
            let parts = values.1 all.1 in (first.1 parts.0, rest.1 (all.0.1, parts.1)),
      )
