-- The canonical text of a program reads as it.
use Rattle.laws_printing.specs.Laws.{ProgramsAreRead}
use Rattle.laws_printing.specs.Named.{raw_of}
use Rattle.laws_printing.proofs.ProgramsShort.{programs_are_short, programs_are_canonical}
use Rattle.laws_printing.proofs.ProgramsWritten.{programs_are_written}
use Rattle.laws_printing.proofs.ReadsAsItself.{reads_as_itself}

-- the law that the canonical text of a program reads as it
pub programs_are_read : ProgramsAreRead
programs_are_read program is =
    reads_as_itself (raw_of program) (programs_are_written program is) (programs_are_short program is)
    (programs_are_canonical program)
