-- The variables so far, when those of one more part are put behind them.
use Rattle.std.proofs.Common.{◌≡◌, ℕ, List, [], ◌∷◌, ◌++◌, append_assoc, append-nil, Result, Ok, Err, sym, ap, ◌∙◌}
use Rattle.std.specs.Result.{OnOk}
use Rattle.sour_raw.specs.declared.raw.RawExpr.{RawExpr}
use Rattle.sour_raw.specs.declared.raw.RawLine.{RawLine}
use Rattle.sour_raw.specs.Mentions.{expr_names, each_names, all_names, instr_names, with_name, with_names, with_lines}
use Rattle.sour_raw.proofs.MentionLaws.{with_names_append, with_lines_append}

-- a part that may want memory, behind another
pub then_put : {A E : Type 0} (result : Result A E) (start names after mentions more : List (List ℕ)) → names ≡ with_names start mentions → OnOk result (after ≡ with_names names more)
    → OnOk result (after ≡ with_names start (mentions ++ more))
then_put (Ok done) start names after mentions more before put = put ∙ ap (λ zs. with_names zs more) before ∙ sym (with_names_append start mentions more)
then_put (Err e) start names after mentions more before put = tt

-- the names in one more expression
each_names-push : (front : List RawExpr) (e : RawExpr) → each_names (front ++ e ∷ []) ≡ each_names front ++ expr_names e
each_names-push [] e = append-nil (expr_names e)
each_names-push (first ∷ front) e = ap (λ names. expr_names first ++ names) (each_names-push front e) ∙ sym (append_assoc (expr_names first) (each_names front) (expr_names e))

-- the names in one more thing
all_names-push : {X : Type 0} (F : X → List (List ℕ)) (front : List X) (x : X) → all_names F (front ++ x ∷ []) ≡ all_names F front ++ F x
all_names-push F [] x = append-nil (F x)
all_names-push F (first ∷ front) x = ap (λ names. F first ++ names) (all_names-push F front x) ∙ sym (append_assoc (F first) (all_names F front) (F x))

-- the variables behind one more expression
pub each_put : (start names after : List (List ℕ)) (front : List RawExpr) (e : RawExpr) → names ≡ with_names start (each_names front) → after ≡ with_names names (expr_names e)
    → after ≡ with_names start (each_names (front ++ e ∷ []))
each_put start names after front e before put =
    put ∙ ap (λ zs. with_names zs (expr_names e)) before ∙ sym (with_names_append start (each_names front) (expr_names e)) ∙ ap (with_names start) (sym (each_names-push front e))

-- the variables behind one more thing
pub all_put : {X : Type 0} (F : X → List (List ℕ)) (start names after : List (List ℕ)) (front : List X) (x : X) → names ≡ with_names start (all_names F front) → after ≡ with_names names (F x)
    → after ≡ with_names start (all_names F (front ++ x ∷ []))
all_put F start names after front x before put =
    put ∙ ap (λ zs. with_names zs (F x)) before ∙ sym (with_names_append start (all_names F front) (F x)) ∙ ap (with_names start) (sym (all_names-push F front x))

-- the variables so far, with the names of the next line put behind them, are those with that line too
pub line_put : (start names after : List (List ℕ)) (front : List RawLine) (line : RawLine) → names ≡ with_lines start front → after ≡ with_names names (instr_names line.instr)
    → after ≡ with_lines start (front ++ line ∷ [])
line_put start names after front line before put =
    put ∙ ap (λ zs. with_names zs (instr_names line.instr)) before ∙ sym (with_lines_append start front (line ∷ []))

-- one more name
pub name_put : (start names after front : List (List ℕ)) (name : List ℕ) → names ≡ with_names start front → after ≡ with_name names name
    → after ≡ with_names start (front ++ name ∷ [])
name_put start names after front name before put =
    put ∙ ap (λ zs. with_name zs name) before ∙ sym (with_names_append start front (name ∷ []))
