use Rattle.std.proofs.Common.{List, ℕ, Vec, Global, subst}
use Rattle.sour_syntax.proofs.LabelSets.{Found, found, IfSome-Found, IfNone-Found}
use Rattle.sour_syntax.proofs.labels.Labels.place.Goals as goal

pub returns : goal.returns
returns c =
    let text : Vec ℕ Global → List ℕ = λ label. label.items in
    let there = subst (λ (names : List (List ℕ)). Found names c.args.label.now c.get_index_of.result) c.self.view_is
    (found text c.self.inside.labels.keys c.args.label.now c.get_index_of.result c.get_index_of.ensures.index) in
    record {
      found = IfSome-Found c.args.self.now c.args.label.now c.get_index_of.result there;
      none = IfNone-Found c.args.self.now c.args.label.now c.get_index_of.result there;
    }
