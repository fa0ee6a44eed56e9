-- What is known of a function before it is gone through.
use Rattle.std.specs.Prelude.{ℕ, List}
use Rattle.sour_scope.specs.declared.version_outline.VersionOutline.{VersionOutline}

-- its name, and its versions
pub record OutlinedFunction : Type 0 where
  pub name : List ℕ
  pub versions : List VersionOutline
