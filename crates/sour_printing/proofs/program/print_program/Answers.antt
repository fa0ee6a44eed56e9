use Rattle.std.proofs.Common.{rules, ◌≡◌, ℕ, List, sym, subst}
use Rattle.sour_raw.specs.Reads.{Reads}
use Rattle.laws_printing.specs.Named.{raw_of}
use Rattle.laws_printing.specs.Pieces.{job_lines}
use Rattle.laws_printing.specs.Text.{text_of}
use Rattle.laws_printing.proofs.ProgramsChecked.{programs_are_checked}
use Rattle.laws_printing.proofs.ProgramsRead.{programs_are_read}
use Rattle.sour_printing.proofs.program.print_program.Goals as goal

pub returns-in_err-put_functions-clause-checked : goal.returns-in_err-put_functions-clause-checked
returns-in_err-put_functions-clause-checked c = programs_are_checked c.args.program.now c.functions.ensures.checked

pub returns-clause-reads : goal.returns-clause-reads
returns-clause-reads c =
    let put = c.in_ok-put_functions.ensures 1 in
    let text : c.put_functions.new.text.items ≡ text_of (job_lines (raw_of c.args.program.now)) = search rules in
    subst (λ (bytes : List ℕ). Reads bytes (raw_of c.args.program.now)) (sym text)
    (programs_are_read c.args.program.now c.functions.ensures.checked)

pub returns-clause-checked : goal.returns-clause-checked
returns-clause-checked c = programs_are_checked c.args.program.now c.functions.ensures.checked
