use Rattle.std.proofs.Common.{ℕ, List, Vec, Global, ap, ◌∙◌}
use Rattle.sour_scope.specs.Numbering.{number_at}
use Rattle.sour_scope.proofs.NumberLaws.{looked}
use Rattle.sour_scope.proofs.numbers.Numbers.get.Goals as goal

pub returns : goal.returns
returns c =
    let text : Vec ℕ Global → List ℕ = λ name. name.items in
    let numbers = c.self.inside.numbers.entries in
    c.copied.ensures ∙ c.get.ensures.value ∙ looked text numbers c.args.name.now
    ∙ ap (λ all. number_at all c.args.name.now) c.self.view_is
