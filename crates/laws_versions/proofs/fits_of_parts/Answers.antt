use Rattle.laws_versions.proofs.FitParts.{fits_of_parts}
use Rattle.laws_versions.proofs.fits_of_parts.Goals as goal

pub returns : goal.returns
returns c = fits_of_parts
