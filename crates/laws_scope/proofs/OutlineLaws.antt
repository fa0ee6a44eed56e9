-- The names of what a text has.
use Rattle.std.proofs.Common.{◌≡◌, List}
use Rattle.std.proofs.lemmas.Simd.{map-map}
use Rattle.sour_raw.specs.declared.raw.RawFunction.{RawFunction}
use Rattle.sour_checked.specs.Outline.{FunctionNames}
use Rattle.sour_checked.specs.Outline.{names_in, outline, own_names}
use Rattle.sour_checked.specs.Texts.{function_names}

-- the names of the functions are those that are written
pub own_names-outline : (raw : List RawFunction) → own_names (outline raw) ≡ function_names raw
own_names-outline raw = map-map (λ (function : FunctionNames). function.name) names_in raw
