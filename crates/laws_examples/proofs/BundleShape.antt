-- The bundle of area has its shape. What a body that is made as its bodies are owes is stated once.
use Rattle.std.proofs.Common.{◌≡◌, ◌≤◌, ◌<◌, ℕ, suc, List, [], ◌∷◌, true, false, Some, Contains}
use Rattle.std.proofs.Common.{length, take, refl, ap, ◌∙◌, codes, arith}
use Rattle.std.specs.List.{AllByRecursion}
use Rattle.std.specs.Str.{bytes_eq}
use Rattle.std.proofs.Math.Seq.{take-append_seam}
use Rattle.std.proofs.lemmas.Bool.{false≢true}
use Rattle.std.proofs.lemmas.Option.{slice_get_within}
use Rattle.sour_syntax.specs.declared.exit.Code.{Code}
use Rattle.sour_syntax.specs.declared.exit.Code.TheVariants.{Text, Made}
use Rattle.sour_syntax.specs.declared.expression.Expr.{Expr}
use Rattle.sour_syntax.specs.declared.expression.Expr.TheVariants as expr
use Rattle.sour_syntax.specs.declared.instruction.Line.{Line}
use Rattle.sour_syntax.specs.declared.literal.VarId.{VarId}
use Rattle.sour_syntax.specs.Body.{IsBody}
use Rattle.sour_syntax.specs.BodyView.{BodyView}
use Rattle.sour_syntax.specs.Exits.{continuations_of}
use Rattle.sour_syntax.specs.Labels.{labels_of, from_label, first_label}
use Rattle.sour_syntax.specs.Literals.{IsLiteral, literals_of}
use Rattle.sour_syntax.specs.Scopes.{Scope, IsInScope, needed, variables_of_expr, following_labels, scope_after}
use Rattle.sour_syntax.specs.Scopes.{HasScope, HasScopes}
use Rattle.sour_syntax.specs.Targets.{named_body, scope_of_names, IsNamed, Lands, HasExits}
use Rattle.sour_syntax.proofs.Everywhere.{AllByRecursion-weaker}
use Rattle.sour_syntax.proofs.NameLemmas.{differs}
use Rattle.sour_syntax.proofs.NoExits.{All-from_label}
use Rattle.sour_semantics.specs.Shape.{BeginsWith, IsAnchorInstr, IsFreeFor, IsMadeBody}
use Rattle.laws_examples.specs.Words.{numbered, number}
use Rattle.laws_examples.specs.Area.{area, width, height, program, area_text, declares, returns, equals, both, exit_to}
use Rattle.laws_examples.specs.Area.{anchor, specialised, twice_height, first_body, second_body}
use Rattle.laws_examples.specs.AreaShapes.{BundleHasShape}
use Rattle.laws_examples.proofs.ScopeRows.{HasScopes-told}

-- width and height are in scope, and a isn't
abbrev pub two_in_scope : Scope
two_in_scope = true ∷ true ∷ false ∷ []

-- all three are in scope
abbrev pub three_in_scope : Scope
three_in_scope = true ∷ true ∷ true ∷ []

-- what is in scope there is one of three variables
within_three : (x : VarId) → IsInScope two_in_scope x → x.0 < 3
within_three x is = slice_get_within two_in_scope x.0 true is

-- so all of some variables are, if they are in scope
each_within_three : (xs : List VarId) → AllByRecursion (IsInScope two_in_scope) xs → AllByRecursion (λ x. x.0 < 3) xs
each_within_three xs all = AllByRecursion-weaker (IsInScope two_in_scope) (λ x. x.0 < 3) within_three xs all

-- two variables differ if one has the lower number
lower-other : (x y : VarId) → x.0 < y.0 → y ≡ x → ⊥
lower-other x y below same = let numbers : y.0 ≡ x.0 = ap (λ (z : VarId). z.0) same in omega (arith, numbers)

-- a name begins with no bytes that aren't at its front
not_begun : (front name : List ℕ) → bytes_eq front (take (length front) name) ≡ false → BeginsWith front name → ⊥
not_begun front name other (rest, same) =
    differs front (take (length front) name) other (ap (take (length front)) same ∙ take-append_seam front rest)

-- a path goes on to a label that may follow
onward : (body : BodyView) (count : ℕ) (label next : List ℕ) (scope : Scope) (line : Line) (rest : List Line)
    → HasScope body count label scope → from_label label body.lines ≡ line ∷ rest
    → Contains (following_labels line.instr (first_label rest)) next
    → HasScope body (suc count) next (scope_after line.instr scope)
onward body count label next scope line rest path at follows =
    (label, scope, line, rest, path, record { stands = at }, follows, refl)

-- the anchor with these predicates that leaves for this label with the map [width = first, height = second]
abbrev own_anchor : List Expr → Code → List ℕ → Expr → Expr → Line
own_anchor predicates code label first second = anchor predicates (exit_to code label (both first second))

-- what a body owes that has this anchor, and gives a the value of e
pub record Owes (predicates : List Expr) (code : Code) (label : List ℕ) (first second e : Expr) : Type 0 where
  pub few : length predicates ≤ 16
  pub never_traps : IsAnchorInstr (own_anchor predicates code label first second).instr
  pub needs : AllByRecursion (IsInScope two_in_scope) (needed (own_anchor predicates code label first second).instr)
  pub literals : AllByRecursion (IsLiteral 2) (literals_of (own_anchor predicates code label first second).instr)
  pub value_needs : AllByRecursion (IsInScope two_in_scope) (variables_of_expr e)
  pub value_literals : AllByRecursion (IsLiteral 2) (literals_of (declares e).instr)

-- the label is the first one of the body that the code names, at which width and height are in scope
pub record Leads (earlier : List BodyView) (code : Code) (label : List ℕ) : Type 0 where
  pub target : BodyView
  pub found : named_body program.functions earlier code ≡ Some target
  pub there : Contains (labels_of target.lines) label
  pub has_height : 1 < length target.variables
  pub path : HasScope target 0 label (scope_of_names (length target.variables) (numbered 0 ∷ numbered 1 ∷ []))

-- such a body is one of a bundle
module _ (earlier : List BodyView) (predicates : List Expr) (code : Code) (label : List ℕ) (first second e : Expr)
    (owed : Owes predicates code label first second e) (leads : Leads earlier code label) where
  -- its anchor
  abbrev guard : Line
  guard = own_anchor predicates code label first second

  -- the body itself
  abbrev body : BodyView
  body = specialised guard e

  -- each label has one scope
  scopes : HasScopes body
  scopes = HasScopes-told body (Some two_in_scope ∷ Some two_in_scope ∷ Some three_in_scope ∷ []) refl (
    (record { needs = owed.needs; declares = tt }, (refl, tt)),
    (
      (record { needs = owed.value_needs; declares = (refl, tt) }, (refl, tt)),
      ((record { needs = (refl, tt); declares = tt }, tt), tt),
    ),
  )

  -- it is a body
  is_body : IsBody body
  is_body = record {
    parameters = omega arith;
    labels = (
      (differs (codes "@_0") (codes "_0") refl, (differs (codes "@_0") (codes "_1") refl, tt)),
      ((differs (codes "_0") (codes "_1") refl, tt), (tt, tt)),
    );
    end = tt;
    jumps = (tt, (tt, (tt, tt)));
    mentions = (
      each_within_three (needed guard.instr) owed.needs,
      ((omega arith, each_within_three (variables_of_expr e) owed.value_needs), ((omega arith, tt), tt)),
    );
    scopes = scopes;
  }

  -- a path leads to the first line
  path_first : HasScope body 0 (codes "@_0") two_in_scope
  path_first = (refl, refl)

  -- and to the second
  path_second : HasScope body 1 (codes "_0") two_in_scope
  path_second =
      onward body 0 (codes "@_0") (codes "_0") two_in_scope guard (declares e ∷ returns ∷ []) path_first refl
      (0, omega arith, refl)

  -- and to the third
  path_third : HasScope body 2 (codes "_1") three_in_scope
  path_third =
      onward body 1 (codes "_0") (codes "_1") two_in_scope (declares e) (returns ∷ []) path_second refl
      (0, omega arith, refl)

  -- the exit names the target
  named : AllByRecursion (IsNamed program.functions earlier) (continuations_of guard.instr)
  named = (
    record {
      body = leads.target;
      found = leads.found;
      label = leads.there;
      names = (omega (arith, leads.has_height), (leads.has_height, tt));
      differ = ((lower-other (numbered 0) (numbered 1) (omega arith), tt), (tt, tt));
      result = tt;
    },
    tt,
  )

  -- and it lands there
  lands : AllByRecursion (Lands program.functions earlier) (continuations_of guard.instr)
  lands = (record { body = leads.target; found = leads.found; count = 0; path = leads.path; free = tt }, tt)

  -- so do all exits, since there are no others
  exits : HasExits program.functions earlier body
  exits = record {
    named = (named, (tt, (tt, tt)));
    land = λ count from scope line rest path at.
        All-from_label (λ (line : Line). AllByRecursion (Lands program.functions earlier) (continuations_of line.instr))
        from body.lines line rest (lands, (tt, (tt, tt))) at.stands;
  }

  -- no label and no variable begins with the label of the return and `/`
  free : IsFreeFor body (codes "_1")
  free = record {
    labels = (
      not_begun (codes "_1/") (codes "_0") refl,
      (not_begun (codes "_1/") (codes "_0") refl, (not_begun (codes "_1/") (codes "_1") refl, tt)),
    );
    variables = (
      not_begun (codes "_1/") (codes "width") refl,
      (not_begun (codes "_1/") (codes "height") refl, (not_begun (codes "_1/") (codes "a") refl, tt)),
    );
  }

  -- all of it together
  pub specialised_made : IsMadeBody program earlier body
  specialised_made = record {
    is = is_body;
    takes = record { text = area_text; found = refl; count = refl; names = refl };
    differ = (
      (differs (codes "width") (codes "height") refl, (differs (codes "width") (codes "a") refl, tt)),
      ((differs (codes "height") (codes "a") refl, tt), (tt, tt)),
    );
    literals = (owed.literals, (owed.value_literals, (tt, tt)));
    scoped = ((0, two_in_scope, path_first), ((1, two_in_scope, path_second), ((2, three_in_scope, path_third), tt)));
    labels = (
      record { begins = refl; anchor = λ at. owed.never_traps },
      (
        record { begins = refl; anchor = λ at. absurd (false≢true at) },
        (record { begins = refl; anchor = λ at. absurd (false≢true at) }, tt),
      ),
    );
    free = ((λ none. absurd none), ((λ none. absurd none), ((λ some. free), tt)));
    exits = exits;
    lines = omega arith;
    few_variables = omega arith;
    instrs = ((owed.few, omega arith), (tt, (tt, tt)));
  }

-- the first line of the text version is there
pub leads_to_text : Leads [] (Text area 0) (codes "_0")
leads_to_text = record {
  target = area_text;
  found = refl;
  there = (0, omega arith, refl);
  has_height = omega arith;
  path = (refl, refl);
}

-- and so is that of body 1, after which body 2 comes
leads_to_first : Leads (first_body ∷ []) (Made 1) (codes "@_0")
leads_to_first = record {
  target = first_body;
  found = refl;
  there = (0, omega arith, refl);
  has_height = omega arith;
  path = (refl, refl);
}

-- body 1 has what it owes
first_owed : Owes (equals width 2 ∷ []) (Text area 0) (codes "_0") (expr.Plain width) (expr.Plain height) twice_height
first_owed = record {
  few = omega arith;
  never_traps = ((tt, tt), (tt, (tt, tt)));
  needs = (refl, (refl, (refl, tt)));
  literals = (refl, tt);
  value_needs = (refl, tt);
  value_literals = (refl, tt);
}

-- and so has body 2
second_owed : Owes (equals width 2 ∷ equals height 3 ∷ []) (Made 1) (codes "@_0")
    (expr.Plain width) (expr.Plain height) (expr.Plain (number 6))
second_owed = record {
  few = omega arith;
  never_traps = ((tt, (tt, tt)), (tt, (tt, tt)));
  needs = (refl, (refl, (refl, (refl, tt))));
  literals = (refl, (refl, tt));
  value_needs = tt;
  value_literals = (refl, tt);
}

-- body 1 is one of a bundle
first_made : IsMadeBody program [] first_body
first_made = specialised_made [] (equals width 2 ∷ []) (Text area 0) (codes "_0")
    (expr.Plain width) (expr.Plain height) twice_height first_owed leads_to_text

-- body 2 is one after body 1
second_made : IsMadeBody program (first_body ∷ []) second_body
second_made = specialised_made (first_body ∷ []) (equals width 2 ∷ equals height 3 ∷ []) (Made 1) (codes "@_0")
    (expr.Plain width) (expr.Plain height) (expr.Plain (number 6)) second_owed leads_to_first

-- so the bundle has its shape
pub bundle_has_shape : BundleHasShape
bundle_has_shape =
    record { each = (first_made, (second_made, tt)); few = omega arith; top = second_body; last = refl; own = refl }
