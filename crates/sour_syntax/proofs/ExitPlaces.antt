-- The places that are kept for exits.
use Rattle.std.proofs.Common.{◌≡◌, ℕ, List, Option, None, Some, slice_get, refl, sym, subst}
use Rattle.sour_syntax.specs.declared.program.Function.{Function}
use Rattle.sour_syntax.specs.declared.program.Version.{Version}
use Rattle.sour_syntax.specs.BodyView.{BodyView}
use Rattle.sour_syntax.specs.Exits.{continuations_of}
use Rattle.sour_syntax.specs.ExitPlaces.{KeepsPlace, KeepsOfLine, KeepsOfVersion, KeepsOfFunction, KeepsOfEach, IsExitPlace}
use Rattle.sour_syntax.specs.Targets.{text_body, version_body}
use Rattle.sour_syntax.proofs.Everywhere.{zipped_at}

-- where what may be a version has a body, there is a version, and the body is its own
body_in : (found : Option Version) (body : BodyView) → version_body found ≡ Some body → (version : Version) × (found ≡ Some version) × (version.body ≡ body)
body_in None body is = cc
body_in (Some version) body is = let same : version.body ≡ body = cc in (version, refl, same)

-- and where a version of what may be a function has a body, both are there, and the body is that version's
version_in : (found : Option Function) (number : ℕ) (body : BodyView) → text_body found number ≡ Some body
    → (function : Function) × (version : Version) × (found ≡ Some function) × (slice_get function.versions number ≡ Some version) × (version.body ≡ body)
version_in None number body is = cc
version_in (Some function) number body is =
    let of = body_in (slice_get function.versions number) body is in (function, of.0, refl, of.1, of.2)

-- what is kept for a frame of an exit is the place to which it goes
pub IsExitPlace-kept : (functions : List Function) (table : List (List (List (List (Option ℕ))))) (versions : List (List (List (Option ℕ)))) (rows : List (List (Option ℕ))) (row : List (Option ℕ))
    → (function version place number found : ℕ) → KeepsOfEach functions functions table → slice_get table function ≡ Some versions → slice_get versions version ≡ Some rows
    → slice_get rows place ≡ Some row → slice_get row number ≡ Some (Some found) → IsExitPlace functions function version place number found
IsExitPlace-kept functions table versions rows row function version place number found kept of_function of_version of_line of_frame = λ body line continuation runs stands makes.
    let there = version_in (slice_get functions function) version body runs in
    let for_function : KeepsOfFunction functions there.0 versions = zipped_at (KeepsOfFunction functions) functions table function there.0 versions there.2 of_function kept in
    let for_version : KeepsOfVersion functions there.1 rows = zipped_at (KeepsOfVersion functions) there.0.versions versions version there.1 rows there.3 of_version for_function in
    let line_at : slice_get there.1.body.lines place ≡ Some line = subst (λ (body : BodyView). slice_get body.lines place ≡ Some line) (sym there.4) stands in
    let for_line : KeepsOfLine functions line row = zipped_at (KeepsOfLine functions) there.1.body.lines rows place line row line_at of_line for_version in
    zipped_at (KeepsPlace functions) (continuations_of line.instr) row number continuation (Some found) makes of_frame for_line
