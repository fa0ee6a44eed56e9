use Rattle.std.proofs.Common.{◌++◌, ◌∷◌, [], ℕ, List, Vec, Global, refl, ap, sym, ◌∙◌, subst}
use Rattle.sour_scope.specs.Numbering.{number_at, IsNumbering}
use Rattle.sour_scope.proofs.NumberLaws.{named, inserted, none_found, put_new, put_known}
use Rattle.sour_scope.proofs.numbers.Numbers.put.Goals as goal

pub returns-in_ok-insert : goal.returns-in_ok-insert
returns-in_ok-insert c = λ names are count.
    let text : Vec ℕ Global → List ℕ = λ name. name.items in
    let numbers = c.self.inside.numbers.entries in
    let name = c.args.name in
    let none = none_found c.args.self.now name.items c.get.result
    (c.get.ensures ∙ ap (number_at c.args.self.now) c.as_slice.ensures.value) c.if-is_none.ensures in
    let put = inserted text _ name c.args.number (λ other. refl) numbers (ap (λ zs. number_at zs name.items) c.self.view_is ∙ none) in
    subst (λ (zs : List (List ℕ × ℕ)). IsNumbering zs (names ++ name.items ∷ []))
    (sym (ap (named text) c.in_ok-insert.ensures.entries ∙ put ∙ ap (λ zs. zs ++ (name.items, c.args.number) ∷ []) c.self.view_is))
    (put_new c.args.self.now names name.items c.args.number are count)

pub returns-else-is_none : goal.returns-else-is_none
returns-else-is_none c = λ names are count.
    put_known c.args.self.now names c.args.name.items c.get.result are
    (c.get.ensures ∙ ap (number_at c.args.self.now) c.as_slice.ensures.value) c.if-is_none.ensures
