-- The example of the text of a bundle.
use Rattle.std.proofs.Common.{refl, arith}
use Rattle.std.proofs.lemmas.Fmt.{decimal_digit}
use Rattle.laws_printing.specs.BundleExamples.{AreBundlesWrittenSo}

-- bundles are written as the example says
pub are_bundles_written_so : AreBundlesWrittenSo
are_bundles_written_so = record {
  bundle = rw (decimal_digit 1 (omega arith), decimal_digit 2 (omega arith)) refl;
  frames = rw (decimal_digit 1 (omega arith)) refl;
}
