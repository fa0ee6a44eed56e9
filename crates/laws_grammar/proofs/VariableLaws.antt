-- The names so far, while a version is read, are the variables of what was read.
use Rattle.std.proofs.Common.{◌≡◌, ℕ, List, [], ◌∷◌, ◌++◌, refl, ap, ◌∙◌}
use Rattle.sour_raw.specs.declared.raw.RawSimple.{RawSimple}
use Rattle.sour_raw.specs.declared.raw.RawSimple.TheVariants.{Lit, Name}
use Rattle.sour_raw.specs.declared.raw.RawExpr.{RawExpr}
use Rattle.sour_raw.specs.declared.raw.RawExpr.TheVariants.{Plain, Cell, Length, Not, Binary}
use Rattle.sour_raw.specs.declared.raw.RawExit.{RawExit}
use Rattle.sour_raw.specs.declared.raw.RawInstr.{RawInstr}
use Rattle.sour_raw.specs.declared.raw.RawInstr.TheVariants.{Var, Drop, Assign, ArrayLength, ArrayList, Store, Print, Read, Branch, Goto, Call, Return, Stop, Assume}
use Rattle.sour_raw.specs.declared.raw.RawLine.{RawLine}
use Rattle.sour_raw.specs.Spelling.{after_all}
use Rattle.sour_raw.specs.Mentions.{simple_names, expr_names, each_names, all_names, bind_names, map_names, extra_names, exit_names, instr_names, with_name, with_names, with_lines, variables_of}
use Rattle.sour_raw.specs.Variables.{with_simple, with_expr, with_exprs, with_bind, with_extra, with_exit, with_instr, with_line}
use Rattle.sour_raw.specs.Grammar.{parameter_names}
use Rattle.sour_raw.proofs.MentionLaws.{with_names_append}

-- after an operand
after_simple : (names : List (List ℕ)) (a : RawSimple) → with_simple names a ≡ with_names names (simple_names a)
after_simple names (Lit a) = refl
after_simple names (Name x) = refl

-- after an expression
after_expr : (names : List (List ℕ)) (e : RawExpr) → with_expr names e ≡ with_names names (expr_names e)
after_expr names (Plain a) = after_simple names a
after_expr names (Cell x index) = after_simple (with_name names x) index
after_expr names (Length a) = after_simple names a
after_expr names (Not a) = after_simple names a
after_expr names (Binary op a b) =
    rw (with_names_append names (simple_names a) (simple_names b), after_simple names a)
    (after_simple (with_names names (simple_names a)) b)

-- after all of these, where step puts the names of each after the others
after_items : {X : Type 0} (step : List (List ℕ) → X → List (List ℕ)) (F : X → List (List ℕ))
    → ((names : List (List ℕ)) (x : X) → step names x ≡ with_names names (F x)) → (names : List (List ℕ)) (xs : List X)
    → after_all step names xs ≡ with_names names (all_names F xs)
after_items step F each names [] = refl
after_items step F each names (x ∷ xs) =
    rw (with_names_append names (F x) (all_names F xs), each names x)
    (after_items step F each (with_names names (F x)) xs)

-- the names of expressions are those of each
all_exprs : (es : List RawExpr) → all_names expr_names es ≡ each_names es
all_exprs [] = refl
all_exprs (e ∷ es) = ap (λ (names : List (List ℕ)). expr_names e ++ names) (all_exprs es)

-- after expressions
after_exprs : (names : List (List ℕ)) (es : List RawExpr) → with_exprs names es ≡ with_names names (each_names es)
after_exprs names es = after_items with_expr expr_names after_expr names es ∙ ap (with_names names) (all_exprs es)

-- after an exit
after_exit : (names : List (List ℕ)) (exit : RawExit) → with_exit names exit ≡ with_names names (exit_names exit)
after_exit names exit =
    rw (
      with_names_append names (map_names exit.map) (all_names extra_names exit.extras),
      after_items with_bind bind_names (λ n b. after_expr n b.value) names exit.map,
    )
    (after_items with_extra extra_names
    (λ n extra. after_items with_bind bind_names (λ m b. after_expr m b.value) n extra.map)
    (with_names names (map_names exit.map)) exit.extras)

-- after an instruction
after_instr : (names : List (List ℕ)) (i : RawInstr) → with_instr names i ≡ with_names names (instr_names i)
after_instr names (Var x e) = after_expr (with_name names x) e
after_instr names (Drop x) = refl
after_instr names (Assign x e) = after_expr (with_name names x) e
after_instr names (ArrayLength x e) = after_expr (with_name names x) e
after_instr names (ArrayList x es) = after_exprs (with_name names x) es
after_instr names (Store x index e) =
    let there = with_name names x in
    rw (with_names_append there (simple_names index) (expr_names e), after_simple there index)
    (after_expr (with_names there (simple_names index)) e)
after_instr names (Print e) = after_expr names e
after_instr names (Read x) = refl
after_instr names (Branch e a b) = after_expr names e
after_instr names (Goto a) = refl
after_instr names (Call x callee es) =
    let there = with_name names x in
    rw (with_names_append there (simple_names callee) (each_names es), after_simple there callee)
    (after_exprs (with_names there (simple_names callee)) es)
after_instr names (Return e) = after_expr names e
after_instr names Stop = refl
after_instr names (Assume es exit) =
    rw (with_names_append names (each_names es) (exit_names exit), after_exprs names es)
    (after_exit (with_names names (each_names es)) exit)

-- after lines
after_lines : (names : List (List ℕ)) (lines : List RawLine) → after_all with_line names lines ≡ with_lines names lines
after_lines names [] = refl
after_lines names (line ∷ lines) =
    rw (after_instr names line.instr) (after_lines (with_names names (instr_names line.instr)) lines)

-- after parameters
after_parameters : (names parameters : List (List ℕ))
    → after_all with_name names parameters ≡ with_names names parameters
after_parameters names [] = refl
after_parameters names (x ∷ parameters) = after_parameters (with_name names x) parameters

-- after the lines of a version with these parameters
pub all_variables : (parameters : List (List ℕ)) (lines : List RawLine)
    → after_all with_line (parameter_names parameters) lines ≡ variables_of parameters lines
all_variables parameters lines = rw (after_parameters [] parameters) (after_lines (with_names [] parameters) lines)
