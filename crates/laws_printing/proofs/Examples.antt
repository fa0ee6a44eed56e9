-- The examples of the canonical text.
use Rattle.std.proofs.Common.{◌≡◌, ℕ, true, false, List, ◌∷◌, length, None, refl, leb-true, arith}
use Rattle.std.specs.Prelude.{nat_le}
use Rattle.std.specs.Char.{is_ascii_alphabetic}
use Rattle.std.proofs.lemmas.Fmt.{decimal_digit}
use Rattle.sour_syntax.specs.Name.{IsName, is_reserved}
use Rattle.sour_raw.specs.declared.raw.RawInstr.TheVariants.{Stop}
use Rattle.sour_raw.specs.Limits.{IsShort}
use Rattle.sour_raw.specs.Written.{IsWritten, IsWrittenLine}
use Rattle.laws_printing.specs.Numbered.{IsCanonical}
use Rattle.laws_printing.specs.Examples.{AreSpelledSo, IsTextSpelledSo, example_job}
use Rattle.laws_printing.proofs.Words.{is_word, tested_word}
use Rattle.laws_printing.proofs.ReadsAsItself.{reads_as_itself}

-- instructions are spelled as the examples say
pub are_spelled_so : AreSpelledSo
are_spelled_so = record {
  declaration = refl;
  removal = refl;
  reading = refl;
  jump = refl;
  call = refl;
  call_nothing = refl;
  store = refl;
  array = rw (decimal_digit 0 (omega arith)) refl;
  list = rw (decimal_digit 1 (omega arith)) refl;
  negation = refl;
  negative = rw (decimal_digit 1 (omega arith)) refl;
  branch = refl;
  exit = rw (decimal_digit 9 (omega arith)) refl;
  no_predicate = refl;
}

-- ---- the text

-- its lines are those of the raw job
example_canonical : IsCanonical example_job
example_canonical = record {
  plan = refl;
  inputs = refl;
  numbered = (
    refl,
    (refl, (refl, tt), (refl, (refl, (refl, tt)), tt)),
    (refl, (refl, (refl, tt), tt), tt),
  );
}

-- a word that passes the tests of names is one
tested_name : (b : ℕ) (bytes : List ℕ) → is_word (b ∷ bytes) ≡ true → is_ascii_alphabetic b ≡ true
    → is_reserved (b ∷ bytes) ≡ false → nat_le (length (b ∷ bytes)) 64 ≡ true → IsName (b ∷ bytes)
tested_name b bytes word letter free short = record {
  word = tested_word (b ∷ bytes) word;
  letter = letter;
  free = free;
  short = leb-true (length (b ∷ bytes)) 64 short;
}

-- `stop` is written as a line must be
stop_written : (line : ℕ) → IsWrittenLine record { line = line; label = None; instr = Stop }
stop_written line = record { label = tt; instr = tt }

-- the names and numbers of the raw job are written as they must be
example_written : IsWritten example_job
example_written = record {
  some = λ e. absurd cc;
  functions = (
    record {
      name = tested_name _ _ refl refl refl refl;
      parameters = tt;
      some = λ e. absurd cc;
      versions = (
        record { name = tested_name _ _ refl refl refl refl; lines = (stop_written 3, tt) },
        (
          record {
            name = tested_name _ _ refl refl refl refl;
            lines = (
              record { label = tested_name _ _ refl refl refl refl; instr = omega arith },
              (stop_written 6, tt),
            );
          },
          tt,
        ),
      );
    },
    (
      record {
        name = tested_name _ _ refl refl refl refl;
        parameters = (tested_name _ _ refl refl refl refl, (tested_name _ _ refl refl refl refl, tt));
        some = λ e. absurd cc;
        versions = (
          record {
            name = tested_name _ _ refl refl refl refl;
            lines = (record { label = tt; instr = tested_name _ _ refl refl refl refl }, tt);
          },
          tt,
        );
      },
      tt,
    ),
  );
  plan = tt;
  inputs = tt;
}

-- and it is within the limits
example_short : IsShort example_job
example_short = record {
  functions = omega arith;
  each = (
    record {
      parameters = omega arith;
      versions = omega arith;
      each = (
        record { lines = omega arith; variables = omega arith; instrs = (tt, tt) },
        (record { lines = omega arith; variables = omega arith; instrs = (tt, (tt, tt)) }, tt),
      );
    },
    (
      record {
        parameters = omega arith;
        versions = omega arith;
        each = (record { lines = omega arith; variables = leb-true _ 1024 refl; instrs = (tt, tt) }, tt);
      },
      tt,
    ),
  );
  plan = omega arith;
  each_job = tt;
  inputs = omega arith;
  each_input = tt;
}

-- so the text reads as the raw job
pub is_text_spelled_so : IsTextSpelledSo
is_text_spelled_so = record {
  text = rw (decimal_digit 7 (omega arith)) refl;
  canonical = example_canonical;
  reads = reads_as_itself example_job example_written example_short example_canonical;
}
