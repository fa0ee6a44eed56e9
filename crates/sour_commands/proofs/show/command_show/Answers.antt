use Rattle.std.proofs.Common.{◌≡◌, ◌≤◌, ℕ, List, length, refl, ap, ◌∙◌}
use Rattle.std.proofs.lemmas.Option.{IfSome_then}
use Rattle.sour_syntax.specs.Program.{ProgramView}
use Rattle.laws_printing.specs.Named.{raw_of}
use Rattle.laws_printing.specs.Pieces.{job_lines}
use Rattle.laws_printing.specs.Text.{text_of}
use Rattle.sour_commands.specs.declared.command.Command.TheVariants.{Show}
use Rattle.sour_commands.specs.Accepted.{job_view, Accepts}
use Rattle.sour_commands.specs.Answer.{output}
use Rattle.sour_commands.specs.Due.{text_limit, IsDueOutput}
use Rattle.sour_commands.specs.Writes.{canonical_text}
use Rattle.sour_commands.proofs.show.command_show.Goals as goal

pub returns-in-Ok-print_program : goal.returns-in-Ok-print_program
returns-in-Ok-print_program g c =
    let job = job_view c.in-Ok.job in
    let written : List ℕ = c.as_slice.result.now in
    let same = ap (λ (program : ProgramView). text_of (job_lines (raw_of program))) c.deref.ensures in
    let text : written ≡ canonical_text job =
    c.as_slice.ensures.value ∙ c.in-Ok-print_program.ensures.text ∙ same in
    let P : List ℕ → Type 0 = λ bytes. (length bytes ≤ text_limit) × Accepts bytes job in
    let Q : List ℕ → Type 0 = λ bytes. (length bytes ≤ text_limit) × IsDueOutput Show 0 written bytes in
    record {
      answer = output 0 written;
      due = IfSome_then _ {P = P} {Q = Q} c.in-Ok.ensures.job
          (λ bytes accepted. (accepted.0, (job, accepted.1, (refl, text))));
      given = c.write_output.ensures;
    }
