-- Whole runs, evaluated.
use Rattle.std.proofs.Common.{inl, inr, [], ◌∷◌, refl, arith}
use Rattle.std.specs.Fmt.{digits}
use Rattle.sour_semantics.specs.Run.{start, text_run}
use Rattle.laws_examples.specs.Words.{literal}
use Rattle.laws_examples.specs.Bill.{program}
use Rattle.laws_examples.specs.BillRuns.{ShowsWholeRun, ShowsCutRun, ShowsShortRun}

-- after 11 steps the run on the input 12 has ended
pub shows_whole_run : ShowsWholeRun
unfolding digits
shows_whole_run = record {
  state = text_run program 11 (start program (literal 12 ∷ []));
  rests = record { steps = 11; reached = refl; rests = inl (refl, omega arith) };
  ends_so = refl;
  written = refl;
}

-- after 10 steps it has taken 5 turns, and the next step takes another
pub shows_cut_run : ShowsCutRun
unfolding digits
shows_cut_run = record {
  state = text_run program 10 (start program (literal 12 ∷ []));
  rests = record { steps = 10; reached = refl; rests = inr (refl, refl, omega arith) };
  ends_so = refl;
  written = refl;
}

-- after 7 steps the run on the input 5 has ended
pub shows_short_run : ShowsShortRun
unfolding digits
shows_short_run = record {
  state = text_run program 7 (start program (literal 5 ∷ []));
  rests = record { steps = 7; reached = refl; rests = inl (refl, omega arith) };
  ends_so = refl;
  written = refl;
}
