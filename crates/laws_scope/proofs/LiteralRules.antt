-- What it says of the literals of an instruction, a plan and the inputs that each function that they name is there.
use Rattle.std.proofs.Common.{◌≡◌, ◌↔◌, ℕ, ℤ, pos, negsuc, true, List, [], ◌∷◌, ◌++◌, length, map, arith}
use Rattle.std.specs.Prelude.{IsTrue, FitsSigned}
use Rattle.std.specs.Int.{w64}
use Rattle.std.specs.List.{AllByRecursion, flat_map}
use Rattle.std.proofs.lemmas.Bool.Decides.{nat_tests}
use Rattle.sour_syntax.specs.declared.expression.Expr.{Expr}
use Rattle.sour_syntax.specs.declared.literal.Literal.{Literal}
use Rattle.sour_syntax.specs.Exits.{bound_values, extras_values, exit_values}
use Rattle.sour_syntax.specs.Plan.{side_literals, IsKnownPass, IsKnownJob}
use Rattle.sour_syntax.specs.Literals.{is_i64, IsLiteral, simple_literals, literals_of_expr, literals_of_each, literals_of}
use Rattle.sour_raw.specs.declared.raw.RawLiteral.{RawLiteral}
use Rattle.sour_raw.specs.declared.raw.RawLiteral.TheVariants.{Number, Truth, Nil, Function}
use Rattle.sour_raw.specs.declared.raw.RawSimple.{RawSimple}
use Rattle.sour_raw.specs.declared.raw.RawSimple.TheVariants as simple
use Rattle.sour_raw.specs.declared.raw.RawExpr.{RawExpr}
use Rattle.sour_raw.specs.declared.raw.RawExpr.TheVariants as expr
use Rattle.sour_raw.specs.declared.raw.RawBind.{RawBind}
use Rattle.sour_raw.specs.declared.raw.RawExtra.{RawExtra}
use Rattle.sour_raw.specs.declared.raw.RawExit.{RawExit}
use Rattle.sour_raw.specs.declared.raw.RawInstr.{RawInstr}
use Rattle.sour_raw.specs.declared.raw.RawInstr.TheVariants.{Var, Drop, Assign, ArrayLength, ArrayList, Store, Print, Read, Branch, Goto, Call, Return, Stop, Assume}
use Rattle.sour_raw.specs.declared.raw.RawPlanSimple.{RawPlanSimple}
use Rattle.sour_raw.specs.declared.raw.RawPlanSimple.TheVariants as raw_side
use Rattle.sour_raw.specs.declared.raw.RawPass.{RawPass}
use Rattle.sour_raw.specs.declared.raw.RawPass.TheVariants.{Inject, Constprop, Unreachable, Inline, Move, Hoist, Compose, Prune}
use Rattle.sour_raw.specs.declared.raw.RawPlanJob.{RawPlanJob}
use Rattle.sour_raw.specs.Written.{IsWrittenSide, IsWrittenPass, IsWrittenJob, IsWrittenLiteral, IsWrittenSimple, IsWrittenExpr, AreWrittenExprs, IsWrittenMap, IsWrittenExtra, IsWrittenExit, IsWrittenInstr}
use Rattle.sour_raw.specs.declared.raw.RawFunction.{RawFunction}
use Rattle.sour_checked.specs.Outline.{outline, own_names, place_variables}
use Rattle.sour_checked.specs.Numbered.{side_of, pass_of, plan_job_of, literal_of, simple_of, expr_of, map_of, extra_of, exit_of, instr_of}
use Rattle.sour_checked.specs.Parts.{side_functions, pass_functions, job_functions, literal_functions, simple_functions, expr_functions, each_functions, map_functions, exit_functions, instr_functions}
use Rattle.sour_checked.specs.Names.{is_among}
use Rattle.laws_scope.proofs.Kit.{iff_then, iff_both, iff_append, AreAmong, among_number}

-- a number that fits 64 bits with its sign lies in i64
number_lies : (z : ℤ) → FitsSigned w64 z → IsTrue (is_i64 z)
number_lies (pos n) fits = grind (arith, nat_tests, fits)
number_lies (negsuc n) fits = grind (arith, nat_tests, fits)

module _ (all : List (List ℕ)) where
  -- these literals are those of a program with functions of these names
  abbrev pub AreKnown : List Literal → Type 0
  AreKnown literals = AllByRecursion (IsLiteral (length all)) literals

  -- what is said of two parts is said of both as one
  pub joined : (some others : List (List ℕ)) (literals more : List Literal) → (AreAmong all some ↔ AreKnown literals)
      → (AreAmong all others ↔ AreKnown more)
      → AreAmong all (some ++ others) ↔ AreKnown (literals ++ more)
  joined some others literals more one other =
      let split = iff_append (λ name. is_among all name ≡ true) some others in
      let join = iff_append (IsLiteral (length all)) literals more in
      iff_then split (iff_then (iff_both one other) (join.1, join.0))

  -- a literal
  pub of_literal : (a : RawLiteral) → IsWrittenLiteral a → AreAmong all (literal_functions a)
      ↔ AreKnown (literal_of all a ∷ [])
  of_literal (Number n) written = ((λ among. (number_lies n written, tt)), λ known. tt)
  of_literal (Truth b) written = ((λ among. (tt, tt)), λ known. tt)
  of_literal Nil written = ((λ among. (tt, tt)), λ known. tt)
  of_literal (Function name) written = iff_both (among_number all name) ((λ rest. tt), λ rest. tt)

  -- the literals of an input
  pub of_literals : (some : List RawLiteral) → AllByRecursion IsWrittenLiteral some
      → AreAmong all (flat_map literal_functions some) ↔ AreKnown (map (literal_of all) some)
  of_literals [] written = ((λ among. tt), λ known. tt)
  of_literals (a ∷ some) written = joined (literal_functions a) (flat_map literal_functions some)
      (literal_of all a ∷ []) (map (literal_of all) some) (of_literal a written.0) (of_literals some written.1)

  -- a side of a predicate of the plan
  of_side : (a : RawPlanSimple) → IsWrittenSide a → AreAmong all (side_functions a)
      ↔ AreKnown (side_literals (side_of all a))
  of_side (raw_side.Lit a) written = of_literal a written
  of_side (raw_side.Name name) written = ((λ among. tt), λ known. tt)

  -- a pass
  of_pass : (pass : RawPass) → IsWrittenPass pass → AreAmong all (pass_functions pass)
      ↔ IsKnownPass (length all) (pass_of all pass)
  of_pass (Inject anchor predicate) written = joined _ _ _ _ (of_side predicate.left written.1.0)
      (of_side predicate.right written.1.1)
  of_pass Constprop written = ((λ among. tt), λ known. tt)
  of_pass Unreachable written = ((λ among. tt), λ known. tt)
  of_pass (Inline call start) written = ((λ among. tt), λ known. tt)
  of_pass (Move anchor) written = ((λ among. tt), λ known. tt)
  of_pass (Hoist from to predicate) written = joined _ _ _ _ (of_side predicate.left written.2.0)
      (of_side predicate.right written.2.1)
  of_pass (Compose anchor) written = ((λ among. tt), λ known. tt)
  of_pass Prune written = ((λ among. tt), λ known. tt)

  -- passes
  of_passes : (passes : List RawPass) → AllByRecursion IsWrittenPass passes
      → AreAmong all (flat_map pass_functions passes)
      ↔ AllByRecursion (IsKnownPass (length all)) (map (pass_of all) passes)
  of_passes [] written = ((λ among. tt), λ known. tt)
  of_passes (pass ∷ passes) written =
      iff_then (iff_append (λ name. is_among all name ≡ true) (pass_functions pass) (flat_map pass_functions passes))
      (iff_both (of_pass pass written.0) (of_passes passes written.1))

  -- a job of the plan
  pub of_job : (job : RawPlanJob) → IsWrittenJob job → AreAmong all (job_functions job)
      ↔ IsKnownJob (length all) (plan_job_of all job)
  of_job job written =
      let function = among_number all job.function in
      let passes = of_passes job.passes written.passes in (
        (λ among. record { function = function.0 among.0; passes = passes.0 among.1 }),
        λ known. (function.1 known.function, passes.1 known.passes),
      )

module _ (functions : List RawFunction) (names : List (List ℕ)) where
  -- the names of the functions
  abbrev all : List (List ℕ)
  all = own_names (outline functions)

  -- an operand
  of_simple : (a : RawSimple) → IsWrittenSimple a → AreAmong all (simple_functions a)
      ↔ AreKnown all (simple_literals (simple_of all names a))
  of_simple (simple.Lit a) written = of_literal all a written
  of_simple (simple.Name x) written = ((λ among. tt), λ known. tt)

  -- an expression
  of_expr : (e : RawExpr) → IsWrittenExpr e → AreAmong all (expr_functions e)
      ↔ AreKnown all (literals_of_expr (expr_of all names e))
  of_expr (expr.Plain a) written = of_simple a written
  of_expr (expr.Cell x index) written = of_simple index written.1
  of_expr (expr.Length a) written = of_simple a written
  of_expr (expr.Not a) written = of_simple a written
  of_expr (expr.Binary op a b) written = joined all _ _ _ _ (of_simple a written.0) (of_simple b written.1)

  -- some expressions
  of_exprs : (es : List RawExpr) → AreWrittenExprs es → AreAmong all (each_functions es)
      ↔ AreKnown all (literals_of_each (map (expr_of all names) es))
  of_exprs [] written = ((λ among. tt), λ known. tt)
  of_exprs (e ∷ es) written = joined all _ _ _ _ (of_expr e written.0) (of_exprs es written.1)

  -- the literals of two lists of expressions
  literals_joined : (es others : List Expr) → AreKnown all (literals_of_each (es ++ others))
      ↔ (AreKnown all (literals_of_each es) × AreKnown all (literals_of_each others))
  literals_joined [] others = ((λ known. (tt, known)), λ both. both.1)
  literals_joined (e ∷ es) others =
      let here = iff_append (IsLiteral (length all)) (literals_of_expr e) (literals_of_each (es ++ others)) in
      let front = iff_append (IsLiteral (length all)) (literals_of_expr e) (literals_of_each es) in
      let rest = literals_joined es others in (
        (λ known. let parts = here.0 known in let more = rest.0 parts.1 in (front.1 (parts.0, more.0), more.1)),
        λ both. let parts = front.0 both.0 in here.1 (parts.0, rest.1 (parts.1, both.1)),
      )

  -- two lists of expressions, as one
  both_joined : (some others : List (List ℕ)) (es more : List Expr)
      → (AreAmong all some ↔ AreKnown all (literals_of_each es))
      → (AreAmong all others ↔ AreKnown all (literals_of_each more))
      → AreAmong all (some ++ others) ↔ AreKnown all (literals_of_each (es ++ more))
  both_joined some others es more one other =
      let join = literals_joined es more in
      iff_then (iff_append (λ name. is_among all name ≡ true) some others)
      (iff_then (iff_both one other) (join.1, join.0))

  -- the values of a map
  of_map : (others : List (List ℕ)) (binds : List RawBind) → IsWrittenMap binds
      → AreAmong all (map_functions binds) ↔ AreKnown all
      (literals_of_each (bound_values (map_of all others names binds)))
  of_map others [] written = ((λ among. tt), λ known. tt)
  of_map others (bind ∷ binds) written = joined all _ _ _ _ (of_expr bind.value written.0.1)
      (of_map others binds written.1)

  -- the functions that the maps of further frames name
  abbrev extras_functions : List RawExtra → List (List ℕ)
  extras_functions extras = flat_map (λ (extra : RawExtra). map_functions extra.map) extras

  -- further frames
  of_extras : (extras : List RawExtra) → AllByRecursion IsWrittenExtra extras
      → AreAmong all (extras_functions extras) ↔ AreKnown all
      (literals_of_each (extras_values (map (extra_of (outline functions) names) extras)))
  of_extras [] written = ((λ among. tt), λ known. tt)
  of_extras (extra ∷ extras) written =
      both_joined (map_functions extra.map) (extras_functions extras)
      (bound_values (map_of all (place_variables (outline functions) extra.target) names extra.map))
      (extras_values (map (extra_of (outline functions) names) extras))
      (of_map (place_variables (outline functions) extra.target) extra.map written.0.map) (of_extras extras written.1)

  -- an exit
  of_exit : (exit : RawExit) → IsWrittenExit exit → AreAmong all (exit_functions exit)
      ↔ AreKnown all (literals_of_each (exit_values (exit_of (outline functions) names exit)))
  of_exit exit written =
      both_joined (map_functions exit.map) (extras_functions exit.extras)
      (bound_values (map_of all (place_variables (outline functions) exit.target) names exit.map))
      (extras_values (map (extra_of (outline functions) names) exit.extras))
      (of_map (place_variables (outline functions) exit.target) exit.map written.map)
      (of_extras exit.extras written.extras)

  -- an instruction names functions that are there exactly where its literals are known
  pub of_instr : (instr : RawInstr) → IsWrittenInstr instr → AreAmong all (instr_functions instr)
      ↔ AreKnown all (literals_of (instr_of (outline functions) names instr))
  of_instr (Var x e) written = of_expr e written.1
  of_instr (Drop x) written = ((λ among. tt), λ known. tt)
  of_instr (Assign x e) written = of_expr e written.1
  of_instr (ArrayLength x e) written = of_expr e written.1
  of_instr (ArrayList x es) written = of_exprs es written.1
  of_instr (Store x index e) written = joined all _ _ _ _ (of_simple index written.1) (of_expr e written.2)
  of_instr (Print e) written = of_expr e written
  of_instr (Read x) written = ((λ among. tt), λ known. tt)
  of_instr (Branch e a b) written = of_expr e written.0
  of_instr (Goto a) written = ((λ among. tt), λ known. tt)
  of_instr (Call x callee es) written = joined all _ _ _ _ (of_simple callee written.1) (of_exprs es written.2)
  of_instr (Return e) written = of_expr e written
  of_instr Stop written = ((λ among. tt), λ known. tt)
  of_instr (Assume es exit) written = joined all _ _ _ _ (of_exprs es written.0) (of_exit exit written.1)
