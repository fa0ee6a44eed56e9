-- The functions that a plan names.
use Rattle.std.specs.Prelude.{◌<◌, ℕ, List, [], ◌∷◌, ◌++◌}
use Rattle.std.specs.List.{AllByRecursion}
use Rattle.sour_syntax.specs.declared.literal.Literal.{Literal}
use Rattle.sour_syntax.specs.declared.plan.PlanSimple.{PlanSimple}
use Rattle.sour_syntax.specs.declared.plan.PlanSimple.TheVariants.{Lit, Name}
use Rattle.sour_syntax.specs.declared.plan.PlanPredicate.{PlanPredicate}
use Rattle.sour_syntax.specs.declared.plan.Pass.{Pass}
use Rattle.sour_syntax.specs.declared.plan.Pass.TheVariants.{Inject, Constprop, Unreachable, Inline, Move, Hoist, Compose, Prune}
use Rattle.sour_syntax.specs.declared.plan.PlanJob.{PlanJob}
use Rattle.sour_syntax.specs.Literals.{IsLiteral}

-- the literals of a side of a predicate
abbrev pub side_literals : PlanSimple → List Literal
side_literals (Lit literal) = literal ∷ []
side_literals (Name name) = []

-- the literals of a predicate
abbrev pub predicate_literals : PlanPredicate → List Literal
predicate_literals predicate = side_literals predicate.left ++ side_literals predicate.right

-- the literals of a pass
abbrev pub pass_literals : Pass → List Literal
pass_literals (Inject anchor predicate) = predicate_literals predicate
pass_literals Constprop = []
pass_literals Unreachable = []
pass_literals (Inline call start) = []
pass_literals (Move anchor) = []
pass_literals (Hoist from to predicate) = predicate_literals predicate
pass_literals (Compose anchor) = []
pass_literals Prune = []

-- the literals of a pass are those of a program with so many functions
abbrev pub IsKnownPass : ℕ → Pass → Type 0
IsKnownPass functions pass = AllByRecursion (IsLiteral functions) (pass_literals pass)

-- the function of a job is one of a program with so many functions, and so are those that its predicates name
pub record IsKnownJob (functions : ℕ) (job : PlanJob) : Type 0 where
  pub function : job.function.0 < functions
  pub passes : AllByRecursion (IsKnownPass functions) job.passes
