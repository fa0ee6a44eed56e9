use Rattle.std.proofs.Common.{◌+◌, ◌++◌, ◌∷◌, [], ℕ, List, Vec, Global, map, sym, ap, ◌∙◌, arith}
use Rattle.sour_raw.specs.Names.{is_name}
use Rattle.sour_raw.specs.Variables.{is_known}
use Rattle.sour_reader.proofs.Counted.{pushed, one_more, fewer}
use Rattle.sour_reader.proofs.variables.Variables.put.Goals as goal

pub prove-unreachable-requires : goal.prove-unreachable-requires
prove-unreachable-requires c =
    let text : Vec ℕ Global → List ℕ = λ name. name.items in
    let put = pushed text c.self.inside.names.keys c.insert.new.self.keys c.in_ok-copied.copied c.args.name.now c.in_ok-copied.ensures.items
    (ap (λ names. is_known names c.args.name.now) c.self.view_is ∙ c.requires) c.in_ok-insert.ensures.keys in
    omega (arith, fewer text is_name c.self.inside.names.keys c.insert.new.self.keys c.args.name.now put, c.self.invariant, c.len-len.ensures.len, c.if-prove.true)

pub invariant_of-self-then-is_name : goal.invariant_of-self-then-is_name
invariant_of-self-then-is_name c =
    let text : Vec ℕ Global → List ℕ = λ name. name.items in
    let put = pushed text c.self.inside.names.keys c.insert.new.self.keys c.in_ok-copied.copied c.args.name.now c.in_ok-copied.ensures.items
    (ap (λ names. is_known names c.args.name.now) c.self.view_is ∙ c.requires) c.in_ok-insert.ensures.keys in
    ap (λ n. n + 1) c.self.invariant
    ∙ one_more is_name (map text c.self.inside.names.keys) (map text c.insert.new.self.keys) c.args.name.now put (sym c.is_name.ensures ∙ c.if-is_name.true)

pub returns-then-is_name : goal.returns-then-is_name
returns-then-is_name c =
    let text : Vec ℕ Global → List ℕ = λ name. name.items in
    pushed text c.self.inside.names.keys c.insert.new.self.keys c.in_ok-copied.copied c.args.name.now c.in_ok-copied.ensures.items
    (ap (λ names. is_known names c.args.name.now) c.self.view_is ∙ c.requires) c.in_ok-insert.ensures.keys
    ∙ ap (λ names. names ++ c.args.name.now ∷ []) c.self.view_is

pub returns-else-is_name : goal.returns-else-is_name
returns-else-is_name c =
    let text : Vec ℕ Global → List ℕ = λ name. name.items in
    pushed text c.self.inside.names.keys c.insert.new.self.keys c.in_ok-copied.copied c.args.name.now c.in_ok-copied.ensures.items
    (ap (λ names. is_known names c.args.name.now) c.self.view_is ∙ c.requires) c.in_ok-insert.ensures.keys
    ∙ ap (λ names. names ++ c.args.name.now ∷ []) c.self.view_is
