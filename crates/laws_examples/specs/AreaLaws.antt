-- The bundle of area is lawful; two others have their shape and aren't.
use Rattle.std.specs.Prelude.{[], codes}
use Rattle.sour_syntax.specs.declared.exit.Code.TheVariants.{Text}
use Rattle.sour_syntax.specs.declared.expression.Expr.TheVariants as expr
use Rattle.sour_syntax.specs.declared.expression.Op.TheVariants as op
use Rattle.sour_syntax.specs.BodyView.{BodyView}
use Rattle.sour_semantics.specs.Shape.{HasShape}
use Rattle.sour_semantics.specs.Agreement.{IsLawful}
use Rattle.laws_examples.specs.Words.{number}
use Rattle.laws_examples.specs.Area.{area, width, height, program, both}
use Rattle.laws_examples.specs.Area.{exit_to, anchor, specialised, first_anchor, area_bundle}
use Rattle.laws_examples.specs.AreaShapes.{alone}

-- whatever width and height are, and wherever its anchors leave, the bundle of area shows nothing that the text doesn't
abbrev pub BundleIsLawful : Type 0
BundleIsLawful = IsLawful program area_bundle

-- a bundle with this body alone has its shape, and isn't lawful
abbrev pub IsOnlyShaped : BodyView → Type 0
IsOnlyShaped body = HasShape program (alone body) × (IsLawful program (alone body) → ⊥)

-- body 1 with the line `_0: var a = 2 + height`
abbrev pub adding_body : BodyView
adding_body = specialised first_anchor (expr.Binary op.Add (number 2) height)

-- for 2 and 3 it returns 5, and the text 6
abbrev pub WrongValueIsUnlawful : Type 0
WrongValueIsUnlawful = IsOnlyShaped adding_body

-- the lines of the text version after the anchor `assume else area.base._0 [width = width, height = width]`
abbrev pub misleading_body : BodyView
misleading_body = specialised
    (anchor [] (exit_to (Text area 0) (codes "_0") (both (expr.Plain width) (expr.Plain width))))
    (expr.Binary op.Mul width height)

-- for 2 and 3 it returns 6 as the text does, but if it is told to leave, the text returns 4
abbrev pub WrongExitIsUnlawful : Type 0
WrongExitIsUnlawful = IsOnlyShaped misleading_body
