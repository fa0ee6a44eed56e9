use Rattle.std.proofs.Common.{rules, append_assoc, ap}
use Rattle.std.proofs.lemmas.Result.{IfOk-equal}
use Rattle.laws_printing.specs.Named.{raw_instr, raw_label}
use Rattle.laws_printing.specs.Pieces.{instr_pieces}
use Rattle.laws_printing.specs.Text.{bytes_of}
use Rattle.laws_printing.proofs.BundlePieces.{instr_text}
use Rattle.sour_printing.proofs.Blocks.{labelled_bytes}
use Rattle.sour_printing.proofs.lines.put_line.Goals as goal

pub returns : goal.returns
returns c =
    let text = ap bytes_of (instr_text c.args.functions.now c.args.names.now c.args.line.now.instr) in
    rw (
      labelled_bytes (raw_label c.args.place c.args.line.now.label)
          (instr_pieces (raw_instr c.args.functions.now c.args.names.now c.args.line.now.instr)),
      ← text,
    )
    (search (rules, IfOk-equal, append_assoc))
