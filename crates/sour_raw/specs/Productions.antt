-- How versions, functions and the whole job are read.
use Rattle.std.specs.Prelude.{ℕ, List, Some}
use Rattle.sour_lexer.specs.Placed.{LineEnd}
use Rattle.sour_raw.specs.declared.raw.RawLine.{RawLine}
use Rattle.sour_raw.specs.declared.raw.RawVersion.{RawVersion}
use Rattle.sour_raw.specs.declared.raw.RawFunction.{RawFunction}
use Rattle.sour_raw.specs.declared.raw.RawJob.{RawJob}
use Rattle.sour_raw.specs.Spelling.{alone}
use Rattle.sour_raw.specs.Combinators.{Reading, this, mapped, after, both, lined, complete, unseparated, repeated, listed_at, one_or_more_at}
use Rattle.sour_raw.specs.Lexemes.{open_paren, close_paren, comma, is}
use Rattle.sour_raw.specs.Keys.{keyword}
use Rattle.sour_raw.specs.Variables.{with_line}
use Rattle.sour_raw.specs.Grammar.{no_names, parameter_names}
use Rattle.sour_raw.specs.Expressions.{name_at, says_name}
use Rattle.sour_raw.specs.Instructions.{line_at, begins_line}
use Rattle.sour_raw.specs.Plan.{sections_at}

-- reads the lines of a version
unfoldable pub lines_at : List (List ℕ) → Reading (List RawLine)
lines_at names = repeated (unseparated begins_line line_at with_line) (Some 4096) names

-- reads a version of a function with these parameters
unfoldable pub version_at : List (List ℕ) → Reading RawVersion
version_at parameters =
    mapped (λ p. record { line = p.0; name = p.1.0; lines = p.1.1 })
    (lined (after (keyword "ver") (both name_at (λ v. after LineEnd (lines_at (parameter_names parameters))))))

-- reads the versions of a function with these parameters
unfoldable pub versions_at : List (List ℕ) → Reading (List RawVersion)
versions_at parameters =
    one_or_more_at (unseparated (is (keyword "ver")) (λ names. version_at parameters) alone) (Some 16) no_names

-- reads the parameters of a function
unfoldable pub parameters_at : Reading (List (List ℕ))
parameters_at = listed_at says_name comma (λ names. name_at) alone (Some 255) no_names

-- reads a function
unfoldable pub function_at : Reading RawFunction
function_at =
    mapped (λ p. record { line = p.0; name = p.1.0; parameters = p.1.1.0; versions = p.1.1.1.0 })
    (lined (after (keyword "fun") (both name_at (λ f. after open_paren (both parameters_at
    (λ xs. after close_paren (after LineEnd (both (versions_at xs) (λ vs. after (keyword "end") (this LineEnd))))))))))

-- reads the functions
unfoldable pub functions_at : Reading (List RawFunction)
functions_at = one_or_more_at (unseparated (is (keyword "fun")) (λ names. function_at) alone) (Some 256) no_names

-- reads a job
unfoldable pub job_at : Reading RawJob
job_at = mapped (λ p. record { functions = p.0; plan = p.1.0; inputs = p.1.1 }) (both functions_at (λ fs. sections_at))

-- reads a job from all of the tokens
unfoldable pub whole_at : Reading RawJob
whole_at = complete job_at
