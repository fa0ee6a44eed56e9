-- A bundle that has its shape, and four bodies each of which just misses it.
use Rattle.std.specs.Prelude.{[], ◌∷◌, codes}
use Rattle.sour_syntax.specs.declared.exit.Code.TheVariants.{Text, Made}
use Rattle.sour_syntax.specs.declared.expression.Expr.TheVariants as expr
use Rattle.sour_syntax.specs.declared.expression.Op.TheVariants as op
use Rattle.sour_syntax.specs.declared.instruction.Instr.TheVariants.{Stop}
use Rattle.sour_syntax.specs.BodyView.{BodyView}
use Rattle.sour_semantics.specs.State.{BundleView}
use Rattle.sour_semantics.specs.Shape.{HasShape}
use Rattle.laws_examples.specs.Words.{line, number, keeps}
use Rattle.laws_examples.specs.Area.{area, width, area_body, declares, returns, program, equals, keeps_both}
use Rattle.laws_examples.specs.Area.{exit_to, anchor, specialised, first_anchor, twice_height, area_bundle}

-- the bundle of area has its shape
abbrev pub BundleHasShape : Type 0
BundleHasShape = HasShape program area_bundle

-- a bundle of area with one body
abbrev pub alone : BodyView → BundleView
alone body = record { function = area; bodies = body ∷ [] }

-- a bundle with this body alone has no shape
abbrev pub IsRefused : BodyView → Type 0
IsRefused body = HasShape program (alone body) → ⊥

-- body 1 with the anchor `assume width < 3 else area.base._0 [width = width, height = height]`
abbrev pub ordering_body : BodyView
ordering_body = specialised
    (anchor (expr.Binary op.Lt width (number 3) ∷ []) (exit_to (Text area 0) (codes "_0") keeps_both)) twice_height

-- it is refused: predicates of anchors compare by `==` alone, since `<` traps if width is no number
abbrev pub OrderIsRefused : Type 0
OrderIsRefused = IsRefused ordering_body

-- body 1 with the anchor `assume width == 2 else area.base._0 [width = width]`
abbrev pub forgetting_body : BodyView
forgetting_body = specialised
    (anchor (equals width 2 ∷ []) (exit_to (Text area 0) (codes "_0") (keeps 0 ∷ []))) twice_height

-- it is refused: height is in scope at that label too
abbrev pub ShortMapIsRefused : Type 0
ShortMapIsRefused = IsRefused forgetting_body

-- body 1 with the anchor `assume width == 2 else %1.@_0 [width = width, height = height]`
abbrev pub circling_body : BodyView
circling_body = specialised (anchor (equals width 2 ∷ []) (exit_to (Made 1) (codes "@_0") keeps_both)) twice_height

-- it is refused: an exit leads to the text or to an earlier body, and not to its own
abbrev pub ExitToItselfIsRefused : Type 0
ExitToItselfIsRefused = IsRefused circling_body

-- body 1 with the line `_2: stop` after its return
abbrev pub longer_body : BodyView
longer_body = area_body (first_anchor ∷ declares twice_height ∷ returns ∷ line (codes "_2") Stop ∷ [])

-- it is refused: no path leads to that line
abbrev pub UnreachedLineIsRefused : Type 0
UnreachedLineIsRefused = IsRefused longer_body
