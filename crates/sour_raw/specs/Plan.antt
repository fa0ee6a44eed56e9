-- How the plan and the inputs are read.
use Rattle.std.specs.Prelude.{ℕ, Bool, List, [], None, Some, is_some}
use Rattle.sour_syntax.specs.declared.plan.Start.{Start}
use Rattle.sour_lexer.specs.Placed.{Lexeme, LineEnd}
use Rattle.sour_raw.specs.declared.raw.RawPlanSimple.{RawPlanSimple}
use Rattle.sour_raw.specs.declared.raw.RawPlanSimple.TheVariants.{Lit, Name}
use Rattle.sour_raw.specs.declared.raw.RawPredicate.{RawPredicate}
use Rattle.sour_raw.specs.declared.raw.RawPass.{RawPass}
use Rattle.sour_raw.specs.declared.raw.RawPass.TheVariants.{Inject, Constprop, Unreachable, Inline, Move, Hoist, Compose, Prune}
use Rattle.sour_raw.specs.declared.raw.RawPlanJob.{RawPlanJob}
use Rattle.sour_raw.specs.declared.raw.RawLiteral.{RawLiteral}
use Rattle.sour_raw.specs.declared.raw.RawInput.{RawInput}
use Rattle.sour_raw.specs.declared.parts.PassWord.{PassWord}
use Rattle.sour_raw.specs.declared.parts.PassWord.TheVariants as word
use Rattle.sour_raw.specs.declared.parts.Section.{Section}
use Rattle.sour_raw.specs.declared.parts.Section.TheVariants as section
use Rattle.sour_raw.specs.Spelling.{limit, after_all, alone}
use Rattle.sour_raw.specs.Words.{word_at, saying_at}
use Rattle.sour_raw.specs.Combinators.{Reading, leading, mapped, after, ended, both, choose, nothing, lined, unseparated, repeated, listed_at}
use Rattle.sour_raw.specs.Lexemes.{equal_equal, slash, percent, colon, semicolon, at_sign, is}
use Rattle.sour_raw.specs.Keys.{keyword, pass_word_of, start_of, section_of}
use Rattle.sour_raw.specs.Names.{is_short_if_name, label_of, part_of}
use Rattle.sour_raw.specs.Grammar.{no_names, with_part}
use Rattle.sour_raw.specs.Expressions.{name_at, label_at, literal_at, begins_literal}

-- reads a part of a path
unfoldable pub part_at : Reading (List ℕ)
part_at = word_at part_of limit is_short_if_name

-- reads the parts of a path after its label
unfoldable pub parts_at : Reading (List (List ℕ))
parts_at = repeated (unseparated (is slash) (λ names. after slash part_at) alone) None no_names

-- reads a path
unfoldable pub path_at : Reading (List ℕ)
path_at = mapped (λ p. after_all with_part p.0 p.1) (both label_at (λ first. parts_at))

-- reads an anchor
unfoldable pub anchor_at : Reading (List ℕ)
anchor_at = after at_sign path_at

-- whether the token is a label
abbrev pub says_label : Lexeme → Bool
says_label lexeme = is_some (label_of lexeme)

-- reads a side of a predicate
unfoldable pub psimple_at : Reading RawPlanSimple
psimple_at = choose says_label (mapped (λ a. Name a) path_at) (mapped (λ a. Lit a) literal_at)

-- reads a predicate
unfoldable pub pred_at : Reading RawPredicate
pred_at = mapped (λ p. record { left = p.0; right = p.1 }) (both psimple_at (λ l. after equal_equal psimple_at))

-- reads what a job starts from
unfoldable pub start_at : Reading Start
start_at = saying_at start_of

-- reads what follows the word of a pass
unfoldable pub pass_body_at : PassWord → Reading RawPass
pass_body_at word.Inject = mapped (λ p. Inject p.0 p.1) (both anchor_at (λ a. pred_at))
pass_body_at word.Constprop = nothing Constprop
pass_body_at word.Unreachable = nothing Unreachable
pass_body_at word.Inline = mapped (λ p. Inline p.0 p.1) (both path_at (λ a. start_at))
pass_body_at word.Move = mapped (λ a. Move a) anchor_at
pass_body_at word.Hoist = mapped (λ p. Hoist p.0 p.1.0 p.1.1) (both anchor_at (λ a. both anchor_at (λ b. pred_at)))
pass_body_at word.Compose = mapped (λ a. Compose a) anchor_at
pass_body_at word.Prune = nothing Prune

-- reads a pass
unfoldable pub pass_at : Reading RawPass
pass_at = leading (saying_at pass_word_of) pass_body_at

-- whether a pass begins with the token
abbrev pub begins_pass : Lexeme → Bool
begins_pass lexeme = is_some (pass_word_of lexeme)

-- reads the passes of a job
unfoldable pub passes_at : Reading (List RawPass)
passes_at = listed_at begins_pass semicolon (λ names. pass_at) alone (Some 64) no_names

-- reads a job of the plan
unfoldable pub plan_job_at : Reading RawPlanJob
plan_job_at =
    mapped (λ p. record { line = p.0; function = p.1.0; start = p.1.1.0; passes = p.1.1.1 })
    (lined (after (keyword "job") (both name_at
    (λ f. after (keyword "from") (both start_at (λ s. after colon (ended passes_at LineEnd)))))))

-- reads the jobs of the plan
unfoldable pub plan_jobs_at : Reading (List RawPlanJob)
plan_jobs_at = repeated (unseparated (is (keyword "job")) (λ names. plan_job_at) alone) (Some 1024) no_names

-- reads the values of an input
unfoldable pub values_at : Reading (List RawLiteral)
values_at = repeated (unseparated begins_literal (λ names. literal_at) alone) (Some 65536) no_names

-- reads an input
unfoldable pub input_at : Reading RawInput
input_at =
    mapped (λ p. record { line = p.0; values = p.1 }) (lined (after (keyword "input") (ended values_at LineEnd)))

-- reads the inputs
unfoldable pub each_input_at : Reading (List RawInput)
each_input_at = repeated (unseparated (is (keyword "input")) (λ names. input_at) alone) (Some 4096) no_names

-- reads the inputs after a plan, or none
unfoldable pub inputs_at : Reading (List RawInput)
inputs_at =
    choose (is percent) (after percent (after (keyword "inputs") (after LineEnd each_input_at))) (nothing [])

-- reads what follows the word of a section, and then what may follow the section
unfoldable pub section_at : Section → Reading (List RawPlanJob × List RawInput)
section_at section.Plan = after LineEnd (both plan_jobs_at (λ jobs. inputs_at))
section_at section.Inputs = mapped (λ given. ([], given)) (after LineEnd each_input_at)

-- reads the plan and the inputs, either of which may be left out
unfoldable pub sections_at : Reading (List RawPlanJob × List RawInput)
sections_at = choose (is percent) (after percent (leading (saying_at section_of) section_at)) (nothing ([], []))
