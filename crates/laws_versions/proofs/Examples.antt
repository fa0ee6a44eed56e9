-- A run of three calls, evaluated.
use Rattle.std.proofs.Common.{refl, arith}
use Rattle.laws_versions.specs.Examples.{ExampleRuns}

-- the run of three calls, of which the last enters a bundle
pub example_runs : ExampleRuns
example_runs = record {
  calls_are = refl;
  counted = refl;
  turned = refl;
  ended = refl;
  noted = refl;
  fit = (
    0,
    omega arith,
    omega arith,
    refl,
    (
      0,
      omega arith,
      omega arith,
      refl,
      (1, omega arith, omega arith, refl, tt),
    ),
  );
}
