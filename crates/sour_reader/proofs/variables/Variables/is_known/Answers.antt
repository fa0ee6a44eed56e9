use Rattle.std.proofs.Common.{ℕ, List, Vec, Global, sym, ap, ◌∙◌}
use Rattle.sour_raw.specs.Variables.{is_known}
use Rattle.sour_reader.proofs.Counted.{known}
use Rattle.sour_reader.proofs.variables.Variables.is_known.Goals as goal

pub returns : goal.returns
returns c =
    let text : Vec ℕ Global → List ℕ = λ name. name.items in
    c.contains.ensures ∙ sym (known text c.self.inside.names.keys c.args.name.now)
    ∙ ap (λ names. is_known names c.args.name.now) c.self.view_is
