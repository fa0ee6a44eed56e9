-- The canonical text of a raw job reads as it.
use Rattle.laws_printing.specs.Pieces.{job_lines}
use Rattle.laws_printing.specs.Text.{text_tokens}
use Rattle.laws_printing.specs.Laws.{ReadsAsItself}
use Rattle.laws_printing.proofs.TextTokens.{pieces_are_tokens}
use Rattle.laws_printing.proofs.ApartPieces.{pieces_are_apart}
use Rattle.laws_printing.proofs.SpelledJobs.{pieces_spell}

-- the law that the canonical text of a raw job reads as it
pub reads_as_itself : ReadsAsItself
reads_as_itself raw is short canonical = record {
  tokens = text_tokens 1 (job_lines raw);
  whole = pieces_are_tokens (job_lines raw) (pieces_are_apart raw is);
  spelled = pieces_spell raw is short canonical;
}
