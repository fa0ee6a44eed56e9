use Rattle.std.proofs.Common.{◌≡◌, ◌++◌, ◌∙◌, List, map, ap, rules, append_assoc}
use Rattle.std.specs.Arc.{arc_value}
use Rattle.sour_syntax.specs.declared.program.Function.{Function}
use Rattle.sour_syntax.specs.BodyView.{BodyView}
use Rattle.sour_syntax.specs.Program.{ProgramView}
use Rattle.laws_printing.specs.Named.{function_name}
use Rattle.laws_printing.specs.Bundles.{bodies_lines}
use Rattle.laws_printing.specs.Text.{text_of}
use Rattle.laws_printing.proofs.Joined.{joined_text}
use Rattle.sour_printing.proofs.bundle.print_bundle.Goals as goal

pub returns : goal.returns
returns c =
    let bundle = c.args.bundle.now in
    let functions : c.functions-functions.result.now ≡ bundle.program.functions =
    c.functions-functions.ensures.value
    ∙ ap (λ (program : ProgramView). program.functions) (c.deref.ensures ∙ c.program.ensures) in
    let name : c.function_name.result.now ≡ function_name bundle.program.functions bundle.view.function =
    c.function_name.ensures
    ∙ ap (λ (all : List Function). function_name all c.function.result) functions
    ∙ ap (function_name bundle.program.functions) c.function.ensures.is in
    let put : c.put_bodies.new.text.items ≡ c.extend_from_slice-3.new.self.items
    ++ text_of (bodies_lines bundle.program.functions bundle.view.bodies 1 bundle.view.bodies) =
    c.in_ok-put_bodies.ensures
    ∙ ap (λ (all : List Function). c.extend_from_slice-3.new.self.items
    ++ text_of (bodies_lines all (map arc_value c.bodies.result.now) 1 (map arc_value c.bodies.result.now))) functions
    ∙ ap (λ (all : List BodyView). c.extend_from_slice-3.new.self.items
    ++ text_of (bodies_lines bundle.program.functions all 1 all)) c.bodies.ensures.are in
    search (rules, append_assoc, joined_text)
