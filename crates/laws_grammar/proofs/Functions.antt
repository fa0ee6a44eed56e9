-- The laws of versions, functions and the whole job.
use Rattle.std.proofs.Common.{◌≡◌, ℕ, true, false, List, Some, refl}
use Rattle.sour_lexer.specs.Placed.{Lexeme, LineEnd}
use Rattle.sour_raw.specs.Lexemes.{open_paren, close_paren, comma, is}
use Rattle.sour_raw.specs.Spelling.{Tokens, each, one_or_more, alone}
use Rattle.sour_raw.specs.Combinators.{next}
use Rattle.sour_raw.specs.Keys.{keyword}
use Rattle.sour_raw.specs.Names.{is_short}
use Rattle.sour_raw.specs.Variables.{with_line}
use Rattle.sour_raw.specs.Grammar.{no_names, line, parameter_names, version, parameters, function, job}
use Rattle.sour_raw.specs.Expressions.{says_name}
use Rattle.sour_raw.specs.Instructions.{begins_line}
use Rattle.sour_raw.specs.Productions.{lines_at, version_at, versions_at, parameters_at, function_at, functions_at, job_at, whole_at}
use Rattle.laws_grammar.proofs.Kit.{Exact, Any, exact_as, exact_image, out, begins_full}
use Rattle.laws_grammar.proofs.Leaves.{exact_this, exact_both, exact_free, exact_after, exact_lined, exact_complete, IsNone, headed, Next, next_is}
use Rattle.laws_grammar.proofs.Lists.{unseparated_law, exact_repeated, exact_one_or_more, exact_listed}
use Rattle.laws_grammar.proofs.Keys.{may_begin_items}
use Rattle.laws_grammar.proofs.Names.{names_say, name_begins, exact_name}
use Rattle.laws_grammar.proofs.Paths.{starts_with}
use Rattle.laws_grammar.proofs.Lines.{exact_line, lines_begin}
use Rattle.laws_grammar.proofs.Inputs.{exact_sections, sections_begin}

-- no line comes next
abbrev NoLine : Tokens
NoLine ts = next begins_line ts ≡ false

-- the law of the lines of a version
exact_lines : (names : List (List ℕ)) → Exact (each line with_line (Some 4096) names) NoLine (lines_at names)
unfolding lines_at
exact_lines names =
    exact_repeated (unseparated_law begins_line with_line exact_line lines_begin (λ rest f. (f, tt))
    (λ names k l u rest s. tt)) (Some 4096) names

-- the word with which a version begins
abbrev version_word : Lexeme
version_word = keyword "ver"

-- the law of a version
exact_version : (xs : List (List ℕ)) → Exact (version xs) NoLine (version_at xs)
unfolding version_at
exact_version xs =
    exact_as
    (exact_image (λ p. record { line = p.0; name = p.1.0; lines = p.1.1 })
    (exact_lined
    (exact_after version_word (exact_free exact_name (λ v. exact_after LineEnd (exact_lines (parameter_names xs)))))
    (λ k p s. begins_full (is version_word) (headed version_word (is version_word) true refl) s)))
    (λ k v u s. out (version xs) s) (λ k v u s. ((v.line, (v.name, v.lines)), refl, s))

-- the word after the versions
abbrev end_word : Lexeme
end_word = keyword "end"

-- the law of the versions of a function
exact_versions : (xs : List (List ℕ))
    → Exact (one_or_more (λ (names : List (List ℕ)). version xs) alone (Some 16) no_names) (Next end_word)
    (versions_at xs)
unfolding versions_at
exact_versions xs =
    exact_one_or_more
    (unseparated_law (is version_word) alone (λ names. exact_version xs)
    (λ names. starts_with version_word refl
    (λ k v u rest s. headed version_word (is version_word) true refl u rest s.0))
    (λ rest f. (next_is end_word (is version_word) false refl rest f, next_is end_word begins_line false refl rest f))
    (λ names k v u rest s. headed version_word begins_line false refl u rest s.0))
    (Some 16) no_names

-- the law of the parameters of a function
exact_parameters : Exact parameters (Next close_paren) parameters_at
unfolding parameters_at
exact_parameters =
    exact_listed says_name comma alone refl (λ names. exact_name)
    (λ names. record {
      starts = λ k x u rest s. name_begins says_name true is_short names_say k x u rest s;
      items = may_begin_items says_name refl;
    })
    (λ rest f. (
      record {
        none = next_is close_paren says_name false refl rest f;
        no_other = next_is close_paren (is comma) false refl rest f;
      },
      tt,
    ))
    (λ t rest e. tt) (Some 255) no_names

-- the word with which a function begins
abbrev function_word : Lexeme
function_word = keyword "fun"

-- the law of a function
exact_function : Exact function Any function_at
unfolding function_at
exact_function =
    exact_as
    (exact_image (λ p. record { line = p.0; name = p.1.0; parameters = p.1.1.0; versions = p.1.1.1.0 })
    (exact_lined
    (exact_after function_word (exact_free exact_name (λ f. exact_after open_paren (exact_both exact_parameters
    (λ xs. exact_after close_paren
    (exact_after LineEnd (exact_both (exact_versions xs) (λ vs. exact_after end_word (exact_this LineEnd))
    (λ k vs z v rest s f. headed end_word (is end_word) true refl v rest s))))
    (λ k xs p v rest s f. headed close_paren (is close_paren) true refl v rest s)))))
    (λ k p s. begins_full (is function_word) (headed function_word (is function_word) true refl) s)))
    (λ k f u s. out function s) (λ k f u s. ((f.line, (f.name, (f.parameters, (f.versions, tt)))), refl, s))

-- no function comes next
abbrev NoFunction : Tokens
NoFunction ts = next (is function_word) ts ≡ false

-- the law of the functions
exact_functions : Exact (one_or_more (λ (names : List (List ℕ)). function) alone (Some 256) no_names) NoFunction
    functions_at
unfolding functions_at
exact_functions =
    exact_one_or_more
    (unseparated_law (is function_word) alone (λ names. exact_function)
    (λ names. starts_with function_word refl
    (λ k f u rest s. headed function_word (is function_word) true refl u rest s.0))
    (λ rest f. (f, tt)) (λ names k f u rest s. tt))
    (Some 256) no_names

-- the law of a job
exact_job : Exact job IsNone job_at
unfolding job_at
exact_job =
    exact_as
    (exact_image (λ p. record { functions = p.0; plan = p.1.0; inputs = p.1.1 })
    (exact_both exact_functions (λ fs. exact_sections)
    (λ k fs p v rest s f. sections_begin (is function_word) refl k p v rest s f)))
    (λ k j u s. out job s) (λ k j u s. ((j.functions, (j.plan, j.inputs)), refl, s))

-- the law of a job from all of the tokens
pub exact_whole : Exact job IsNone whole_at
unfolding whole_at
exact_whole = exact_complete exact_job refl
