use Rattle.laws_printing.proofs.BundleExamples.{are_bundles_written_so}
use Rattle.laws_printing.proofs.bundles_are_written_so.Goals as goal

pub returns : goal.returns
returns c = are_bundles_written_so
