-- The laws of printing, of which each is the contract of a function of this crate.
use Rattle.std.specs.Prelude.{◌≡◌, List, [], ◌++◌}
use Rattle.sour_lexer.specs.TokensOf.{HasTokens}
use Rattle.sour_syntax.specs.Program.{ProgramView, IsProgram}
use Rattle.sour_raw.specs.declared.raw.RawJob.{RawJob}
use Rattle.sour_raw.specs.Limits.{IsShort}
use Rattle.sour_raw.specs.Reads.{ReadsTokens, Reads}
use Rattle.sour_raw.specs.Written.{IsWritten}
use Rattle.sour_checked.specs.Checked.{IsChecked}
use Rattle.laws_printing.specs.Pieces.{Piece, job_lines}
use Rattle.laws_printing.specs.Text.{bytes_of, text_of, text_tokens, AreLinesApart}
use Rattle.laws_printing.specs.Numbered.{IsCanonical}
use Rattle.laws_printing.specs.Named.{raw_of}

-- pieces that stand apart are read as their tokens, at the places that the text gives
abbrev pub PiecesAreTokens : Type 0
PiecesAreTokens = (lines : List (List Piece)) → AreLinesApart lines → HasTokens (text_of lines) (text_tokens 1 lines)

-- the bytes of pieces are those of their parts, one after the other, and so are those of lines
abbrev pub BytesAreJoined : Type 0
BytesAreJoined =
    ((first second : List Piece) → bytes_of (first ++ second) ≡ bytes_of first ++ bytes_of second)
    × ((first second : List (List Piece)) → text_of (first ++ second) ≡ text_of first ++ text_of second)

-- the pieces of a raw job stand apart
abbrev pub PiecesAreApart : Type 0
PiecesAreApart = (raw : RawJob) → IsWritten raw → AreLinesApart (job_lines raw)

-- the tokens of the pieces of a raw job spell it
abbrev pub PiecesSpell : Type 0
PiecesSpell = (raw : RawJob) → IsWritten raw → IsShort raw → IsCanonical raw
    → ReadsTokens (text_tokens 1 (job_lines raw)) raw

-- the canonical text of a raw job reads as it
abbrev pub ReadsAsItself : Type 0
ReadsAsItself = (raw : RawJob) → IsWritten raw → IsShort raw → IsCanonical raw → Reads (text_of (job_lines raw)) raw

-- a program with names in place of numbers is written as a text must be
abbrev pub ProgramsAreWritten : Type 0
ProgramsAreWritten = (program : ProgramView) → IsProgram program → IsWritten (raw_of program)

-- it is within the limits
abbrev pub ProgramsAreShort : Type 0
ProgramsAreShort = (program : ProgramView) → IsProgram program → IsShort (raw_of program)

-- it has the line numbers of the canonical text
abbrev pub ProgramsAreCanonical : Type 0
ProgramsAreCanonical = (program : ProgramView) → IsCanonical (raw_of program)

-- so the canonical text of a program reads as it
abbrev pub ProgramsAreRead : Type 0
ProgramsAreRead =
    (program : ProgramView) → IsProgram program → Reads (text_of (job_lines (raw_of program))) (raw_of program)

-- and it is accepted as this very program, without a plan and without inputs
abbrev pub ProgramsAreChecked : Type 0
ProgramsAreChecked = (program : ProgramView) → IsProgram program → IsChecked (raw_of program) program [] []
