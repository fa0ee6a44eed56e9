-- What is the same of an instruction whose parts are mapped.
use Rattle.std.proofs.Common.{◌≡◌, arith, ℕ, Bool, true, false, List, [], ◌∷◌, ◌++◌, map, refl, sym, slice_set, subst}
use Rattle.std.specs.List.{AllByRecursion}
use Rattle.sour_syntax.specs.declared.literal.Literal.{Literal}
use Rattle.sour_syntax.specs.declared.literal.VarId.{VarId}
use Rattle.sour_syntax.specs.declared.expression.Simple.{Simple}
use Rattle.sour_syntax.specs.declared.expression.Expr.{Expr}
use Rattle.sour_syntax.specs.declared.exit.Exit.{Exit}
use Rattle.sour_syntax.specs.declared.instruction.Instr.{Instr}
use Rattle.sour_syntax.specs.declared.instruction.Instr.TheVariants.{Var, Drop, Assign, ArrayLength, ArrayList, Store, Print, Read, Branch, Goto, Call, Return, Stop, Assume}
use Rattle.sour_syntax.specs.Exits.{Continuation, continuations, continuations_of}
use Rattle.sour_syntax.specs.Jumps.{named_labels}
use Rattle.sour_syntax.specs.Limits.{IsShortInstr}
use Rattle.sour_syntax.specs.Literals.{simple_literals, literals_of_each, literals_of}
use Rattle.sour_syntax.specs.Scopes.{Scope, IsInScope, IsOutOfScope, simple_variables, variables_of_each, needed, declared_by, mentioned, following_labels, scope_after}
use Rattle.sour_syntax.specs.Terminator.{IsTerminator}
use Rattle.sour_semantics.specs.Shape.{IsAnchorInstr, IsCallOrReturn}
use Rattle.laws_renaming.specs.Laws.{ChangesNothing, GoesInSteps, KeepsKind, MayStand}
use Rattle.laws_renaming.specs.Mapping.{Mapping, mapped}
use Rattle.laws_renaming.specs.Keeps.{Keeps, KeepsVariables, KeepsLiterals, KeepsAnchor, KeepsShort}
use Rattle.laws_renaming.proofs.Expressions.{all-mapped, both-parts}

module _ (by : Mapping) (P Q : VarId → Type 0) (keeps : KeepsVariables by P Q) where
  -- of an operand and what comes after it
  two : (a : Simple) (xs ys : List VarId) → Keeps P Q xs ys
      → Keeps P Q (simple_variables a ++ xs) (simple_variables (by.operands a) ++ ys)
  two a xs ys rest all = both-parts P Q (simple_variables a) xs _ ys (keeps.operands a) rest all

  -- of an assume
  assume : (es : List Expr) (exit : Exit) → Keeps P Q (needed (Assume es exit)) (needed (mapped by (Assume es exit)))
  assume es exit all =
      both-parts P Q (variables_of_each es) _ _ _ (keeps.predicates es) (keeps.exits exit) all

  -- what holds of the variables that it needs
  pub needed-mapped : (instr : Instr) → Keeps P Q (needed instr) (needed (mapped by instr))
  needed-mapped (Var x e) all = keeps.values e all
  needed-mapped (Drop x) all = (keeps.variables x all.0, tt)
  needed-mapped (Assign x e) all = (keeps.variables x all.0, keeps.values e all.1)
  needed-mapped (ArrayLength x e) all = keeps.values e all
  needed-mapped (ArrayList x es) all = keeps.each es all
  needed-mapped (Store x index e) all = (keeps.variables x all.0, two index _ _ (keeps.values e) all.1)
  needed-mapped (Print e) all = keeps.values e all
  needed-mapped (Read x) all = tt
  needed-mapped (Branch e a b) all = keeps.values e all
  needed-mapped (Goto a) all = tt
  needed-mapped (Call x callee es) all = two callee _ _ (keeps.each es) all
  needed-mapped (Return e) all = keeps.values e all
  needed-mapped Stop all = tt
  needed-mapped (Assume es exit) all = assume es exit all

  -- and of those that it mentions
  pub mentioned-mapped : (instr : Instr) → Keeps P Q (mentioned instr) (mentioned (mapped by instr))
  mentioned-mapped (Var x e) all = (keeps.variables x all.0, keeps.values e all.1)
  mentioned-mapped (Drop x) all = (keeps.variables x all.0, tt)
  mentioned-mapped (Assign x e) all = (keeps.variables x all.0, keeps.values e all.1)
  mentioned-mapped (ArrayLength x e) all = (keeps.variables x all.0, keeps.values e all.1)
  mentioned-mapped (ArrayList x es) all = (keeps.variables x all.0, keeps.each es all.1)
  mentioned-mapped (Store x index e) all = (keeps.variables x all.0, two index _ _ (keeps.values e) all.1)
  mentioned-mapped (Print e) all = keeps.values e all
  mentioned-mapped (Read x) all = (keeps.variables x all.0, tt)
  mentioned-mapped (Branch e a b) all = keeps.values e all
  mentioned-mapped (Goto a) all = tt
  mentioned-mapped (Call x callee es) all = (keeps.variables x all.0, two callee _ _ (keeps.each es) all.1)
  mentioned-mapped (Return e) all = keeps.values e all
  mentioned-mapped Stop all = tt
  mentioned-mapped (Assume es exit) all = assume es exit all

-- what holds of its literals
module _ (by : Mapping) (P Q : Literal → Type 0) (keeps : KeepsLiterals by P Q) where
  pub literals_of-mapped : (instr : Instr) → Keeps P Q (literals_of instr) (literals_of (mapped by instr))
  literals_of-mapped (Var x e) all = keeps.values e all
  literals_of-mapped (Drop x) all = tt
  literals_of-mapped (Assign x e) all = keeps.values e all
  literals_of-mapped (ArrayLength x e) all = keeps.values e all
  literals_of-mapped (ArrayList x es) all = keeps.each es all
  literals_of-mapped (Store x index e) all =
      both-parts P Q (simple_literals index) _ _ _ (keeps.operands index) (keeps.values e) all
  literals_of-mapped (Print e) all = keeps.values e all
  literals_of-mapped (Read x) all = tt
  literals_of-mapped (Branch e a b) all = keeps.values e all
  literals_of-mapped (Goto a) all = tt
  literals_of-mapped (Call x callee es) all =
      both-parts P Q (simple_literals callee) _ _ _ (keeps.operands callee) (keeps.each es) all
  literals_of-mapped (Return e) all = keeps.values e all
  literals_of-mapped Stop all = tt
  literals_of-mapped (Assume es exit) all =
      both-parts P Q (literals_of_each es) _ _ _ (keeps.predicates es) (keeps.exits exit) all

-- to map each part to itself changes nothing
pub mapped-same : ChangesNothing
mapped-same (Var x e) = refl
mapped-same (Drop x) = refl
mapped-same (Assign x e) = refl
mapped-same (ArrayLength x e) = refl
mapped-same (ArrayList x es) = refl
mapped-same (Store x index e) = refl
mapped-same (Print e) = refl
mapped-same (Read x) = refl
mapped-same (Branch e a b) = refl
mapped-same (Goto a) = refl
mapped-same (Call x callee es) = refl
mapped-same (Return e) = refl
mapped-same Stop = refl
mapped-same (Assume es exit) = refl

-- to map the parts twice is to map them by both at once
pub mapped-both : GoesInSteps
mapped-both first second (Var x e) = refl
mapped-both first second (Drop x) = refl
mapped-both first second (Assign x e) = refl
mapped-both first second (ArrayLength x e) = refl
mapped-both first second (ArrayList x es) = refl
mapped-both first second (Store x index e) = refl
mapped-both first second (Print e) = refl
mapped-both first second (Read x) = refl
mapped-both first second (Branch e a b) = refl
mapped-both first second (Goto a) = refl
mapped-both first second (Call x callee es) = refl
mapped-both first second (Return e) = refl
mapped-both first second Stop = refl
mapped-both first second (Assume es exit) = refl

module _ (by : Mapping) where
  -- what it declares
  pub declared-mapped : (instr : Instr) → declared_by (mapped by instr) ≡ map by.variables (declared_by instr)
  declared-mapped (Var x e) = refl
  declared-mapped (Drop x) = refl
  declared-mapped (Assign x e) = refl
  declared-mapped (ArrayLength x e) = refl
  declared-mapped (ArrayList x es) = refl
  declared-mapped (Store x index e) = refl
  declared-mapped (Print e) = refl
  declared-mapped (Read x) = refl
  declared-mapped (Branch e a b) = refl
  declared-mapped (Goto a) = refl
  declared-mapped (Call x callee es) = refl
  declared-mapped (Return e) = refl
  declared-mapped Stop = refl
  declared-mapped (Assume es exit) = refl

  -- the labels to which it jumps
  pub named-mapped : (instr : Instr) → named_labels (mapped by instr) ≡ map by.labels (named_labels instr)
  named-mapped (Var x e) = refl
  named-mapped (Drop x) = refl
  named-mapped (Assign x e) = refl
  named-mapped (ArrayLength x e) = refl
  named-mapped (ArrayList x es) = refl
  named-mapped (Store x index e) = refl
  named-mapped (Print e) = refl
  named-mapped (Read x) = refl
  named-mapped (Branch e a b) = refl
  named-mapped (Goto a) = refl
  named-mapped (Call x callee es) = refl
  named-mapped (Return e) = refl
  named-mapped Stop = refl
  named-mapped (Assume es exit) = refl

  -- the labels that may follow it, where the next one counts only if it is no terminator
  pub following-mapped : (next there : List ℕ) (instr : Instr) → ((IsTerminator instr → ⊥) → there ≡ by.labels next)
      → following_labels (mapped by instr) there ≡ map by.labels (following_labels instr next)
  following-mapped next there (Var x e) at = λ i. at (λ none. none) i ∷ []
  following-mapped next there (Drop x) at = λ i. at (λ none. none) i ∷ []
  following-mapped next there (Assign x e) at = λ i. at (λ none. none) i ∷ []
  following-mapped next there (ArrayLength x e) at = λ i. at (λ none. none) i ∷ []
  following-mapped next there (ArrayList x es) at = λ i. at (λ none. none) i ∷ []
  following-mapped next there (Store x index e) at = λ i. at (λ none. none) i ∷ []
  following-mapped next there (Print e) at = λ i. at (λ none. none) i ∷ []
  following-mapped next there (Read x) at = λ i. at (λ none. none) i ∷ []
  following-mapped next there (Branch e a b) at = refl
  following-mapped next there (Goto a) at = refl
  following-mapped next there (Call x callee es) at = λ i. at (λ none. none) i ∷ []
  following-mapped next there (Return e) at = refl
  following-mapped next there Stop at = refl
  following-mapped next there (Assume es exit) at = λ i. at (λ none. none) i ∷ []

  -- the scope after it, in a scope that is made of another one
  pub after-mapped : (scopes : Scope → Scope)
      → ((x : VarId) (is : Bool) (scope : Scope)
      → slice_set (scopes scope) (by.variables x).0 is ≡ scopes (slice_set scope x.0 is))
      → (scope : Scope) (instr : Instr)
      → scope_after (mapped by instr) (scopes scope) ≡ scopes (scope_after instr scope)
  after-mapped scopes sets scope (Var x e) = sets x true scope
  after-mapped scopes sets scope (Drop x) = sets x false scope
  after-mapped scopes sets scope (Assign x e) = refl
  after-mapped scopes sets scope (ArrayLength x e) = sets x true scope
  after-mapped scopes sets scope (ArrayList x es) = sets x true scope
  after-mapped scopes sets scope (Store x index e) = refl
  after-mapped scopes sets scope (Print e) = refl
  after-mapped scopes sets scope (Read x) = sets x true scope
  after-mapped scopes sets scope (Branch e a b) = refl
  after-mapped scopes sets scope (Goto a) = refl
  after-mapped scopes sets scope (Call x callee es) = sets x true scope
  after-mapped scopes sets scope (Return e) = refl
  after-mapped scopes sets scope Stop = refl
  after-mapped scopes sets scope (Assume es exit) = refl

  -- whether it is a terminator
  pub terminator-mapped : (instr : Instr) → IsTerminator (mapped by instr) ≡ IsTerminator instr
  terminator-mapped (Var x e) = refl
  terminator-mapped (Drop x) = refl
  terminator-mapped (Assign x e) = refl
  terminator-mapped (ArrayLength x e) = refl
  terminator-mapped (ArrayList x es) = refl
  terminator-mapped (Store x index e) = refl
  terminator-mapped (Print e) = refl
  terminator-mapped (Read x) = refl
  terminator-mapped (Branch e a b) = refl
  terminator-mapped (Goto a) = refl
  terminator-mapped (Call x callee es) = refl
  terminator-mapped (Return e) = refl
  terminator-mapped Stop = refl
  terminator-mapped (Assume es exit) = refl

  -- whether it is a call or a return
  pub call_or_return-mapped : (instr : Instr) → IsCallOrReturn (mapped by instr) ≡ IsCallOrReturn instr
  call_or_return-mapped (Var x e) = refl
  call_or_return-mapped (Drop x) = refl
  call_or_return-mapped (Assign x e) = refl
  call_or_return-mapped (ArrayLength x e) = refl
  call_or_return-mapped (ArrayList x es) = refl
  call_or_return-mapped (Store x index e) = refl
  call_or_return-mapped (Print e) = refl
  call_or_return-mapped (Read x) = refl
  call_or_return-mapped (Branch e a b) = refl
  call_or_return-mapped (Goto a) = refl
  call_or_return-mapped (Call x callee es) = refl
  call_or_return-mapped (Return e) = refl
  call_or_return-mapped Stop = refl
  call_or_return-mapped (Assume es exit) = refl

  -- an anchor's instruction stays one
  pub anchor-mapped : KeepsAnchor by → (instr : Instr) → IsAnchorInstr instr → IsAnchorInstr (mapped by instr)
  anchor-mapped keeps (Var x e) is = is
  anchor-mapped keeps (Drop x) is = is
  anchor-mapped keeps (Assign x e) is = is
  anchor-mapped keeps (ArrayLength x e) is = is
  anchor-mapped keeps (ArrayList x es) is = is
  anchor-mapped keeps (Store x index e) is = is
  anchor-mapped keeps (Print e) is = is
  anchor-mapped keeps (Read x) is = is
  anchor-mapped keeps (Branch e a b) is = is
  anchor-mapped keeps (Goto a) is = is
  anchor-mapped keeps (Call x callee es) is = is
  anchor-mapped keeps (Return e) is = is
  anchor-mapped keeps Stop is = is
  anchor-mapped keeps (Assume es exit) is = (keeps.predicates es is.0, keeps.exits exit is.1)

  -- what holds of the frames that it may make
  pub continuations_of-mapped : (P Q : Continuation → Type 0)
      → ((exit : Exit) → Keeps P Q (continuations exit) (continuations (by.exits exit)))
      → (instr : Instr) → Keeps P Q (continuations_of instr) (continuations_of (mapped by instr))
  continuations_of-mapped P Q keeps (Var x e) all = tt
  continuations_of-mapped P Q keeps (Drop x) all = tt
  continuations_of-mapped P Q keeps (Assign x e) all = tt
  continuations_of-mapped P Q keeps (ArrayLength x e) all = tt
  continuations_of-mapped P Q keeps (ArrayList x es) all = tt
  continuations_of-mapped P Q keeps (Store x index e) all = tt
  continuations_of-mapped P Q keeps (Print e) all = tt
  continuations_of-mapped P Q keeps (Read x) all = tt
  continuations_of-mapped P Q keeps (Branch e a b) all = tt
  continuations_of-mapped P Q keeps (Goto a) all = tt
  continuations_of-mapped P Q keeps (Call x callee es) all = tt
  continuations_of-mapped P Q keeps (Return e) all = tt
  continuations_of-mapped P Q keeps Stop all = tt
  continuations_of-mapped P Q keeps (Assume es exit) all = keeps exit all

  -- it stays within the limits
  pub short-mapped : KeepsShort by → (instr : Instr) → IsShortInstr instr → IsShortInstr (mapped by instr)
  short-mapped keeps (Var x e) short = tt
  short-mapped keeps (Drop x) short = tt
  short-mapped keeps (Assign x e) short = tt
  short-mapped keeps (ArrayLength x e) short = tt
  short-mapped keeps (ArrayList x es) short = let fewer = keeps.each es in omega (arith, fewer, short)
  short-mapped keeps (Store x index e) short = tt
  short-mapped keeps (Print e) short = tt
  short-mapped keeps (Read x) short = tt
  short-mapped keeps (Branch e a b) short = tt
  short-mapped keeps (Goto a) short = tt
  short-mapped keeps (Call x callee es) short = let fewer = keeps.each es in omega (arith, fewer, short)
  short-mapped keeps (Return e) short = tt
  short-mapped keeps Stop short = tt
  short-mapped keeps (Assume es exit) short = (keeps.predicates es short.0, keeps.extras exit short.1)

-- whether it is a terminator, or a call or a return
pub kind-mapped : KeepsKind
kind-mapped by instr = record {
  ends = (subst (λ T. T) (terminator-mapped by instr), subst (λ T. T) (sym (terminator-mapped by instr)));
  calls = (subst (λ T. T) (call_or_return-mapped by instr), subst (λ T. T) (sym (call_or_return-mapped by instr)));
}

-- it may stand in a scope, if the old one may in another
pub fine-mapped : MayStand
fine-mapped by scope other instr keeps out fine = record {
  needs = needed-mapped by (IsInScope scope) (IsInScope other) keeps instr fine.needs;
  declares = subst (AllByRecursion (IsOutOfScope other)) (sym (declared-mapped by instr))
      (all-mapped (IsOutOfScope scope) (IsOutOfScope other) by.variables out (declared_by instr) fine.declares);
}
