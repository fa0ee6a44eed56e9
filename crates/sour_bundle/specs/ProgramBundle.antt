-- A bundle as contracts see it.
use Rattle.sour_syntax.specs.Program.{ProgramView}
use Rattle.sour_semantics.specs.State.{BundleView}

-- a bundle together with the program for which it was made
pub record ProgramBundle : Type 0 where
  pub program : ProgramView
  pub view : BundleView
