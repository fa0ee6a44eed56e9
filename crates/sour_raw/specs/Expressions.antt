-- How names, literals, operands and expressions are read.
use Rattle.std.specs.Prelude.{ℕ, ℤ, pos, neg_ℤ, Bool, List, Some, is_some, ◌||◌}
use Rattle.sour_syntax.specs.declared.expression.Op.{Op}
use Rattle.sour_lexer.specs.Placed.{Lexeme}
use Rattle.sour_raw.specs.declared.raw.RawLiteral.{RawLiteral}
use Rattle.sour_raw.specs.declared.raw.RawLiteral.TheVariants.{Number, Truth, Nil, Function}
use Rattle.sour_raw.specs.declared.raw.RawSimple.{RawSimple}
use Rattle.sour_raw.specs.declared.raw.RawSimple.TheVariants.{Lit, Name}
use Rattle.sour_raw.specs.declared.raw.RawExpr.{RawExpr}
use Rattle.sour_raw.specs.declared.raw.RawExpr.TheVariants.{Plain, Cell, Length, Not, Binary}
use Rattle.sour_raw.specs.Spelling.{number as in_range, limit}
use Rattle.sour_raw.specs.Fault.{is_digits}
use Rattle.sour_raw.specs.Words.{word_at, saying_at}
use Rattle.sour_raw.specs.Combinators.{Reading, leading, mapped, after, ended, choose, nothing, listed_at}
use Rattle.sour_raw.specs.Lexemes.{minus, bang, open_bracket, close_bracket, comma, ampersand, is}
use Rattle.sour_raw.specs.Keys.{keyword, op_of, truth_of}
use Rattle.sour_raw.specs.Mentions.{with_name}
use Rattle.sour_raw.specs.Names.{is_short, is_short_if_name, name_of, label_of}
use Rattle.sour_raw.specs.Variables.{with_simple, with_expr, may_mention}
use Rattle.sour_raw.specs.Grammar.{digits_of, is_at_most}

-- reads a name, which isn't looked up
unfoldable pub name_at : Reading (List ℕ)
name_at = word_at name_of limit is_short

-- reads a variable, where these are the names so far
unfoldable pub mention_at : List (List ℕ) → Reading (List ℕ)
mention_at names = word_at name_of limit (may_mention names)

-- reads a label
unfoldable pub label_at : Reading (List ℕ)
label_at = word_at label_of limit is_short_if_name

-- reads digits of a number that is no more than the most
unfoldable pub digits_at : ℕ → Reading ℕ
digits_at most = word_at digits_of in_range (is_at_most most)

-- reads a number
unfoldable pub number_at : Reading ℤ
number_at =
    choose (is minus) (mapped (λ d. neg_ℤ (pos d)) (after minus (digits_at 9223372036854775808)))
    (mapped (λ d. pos d) (digits_at 9223372036854775807))

-- whether a number begins with the token
abbrev pub begins_number : Lexeme → Bool
begins_number lexeme = is minus lexeme || is_digits lexeme

-- reads a literal
unfoldable pub literal_at : Reading RawLiteral
literal_at =
    choose begins_number (mapped (λ n. Number n) number_at)
    (choose (is ampersand) (mapped (λ f. Function f) (after ampersand name_at))
    (choose (is (keyword "nil")) (after (keyword "nil") (nothing Nil)) (mapped (λ b. Truth b) (saying_at truth_of))))

-- whether a literal begins with the token
abbrev pub begins_literal : Lexeme → Bool
begins_literal lexeme =
    begins_number lexeme || is ampersand lexeme || is (keyword "nil") lexeme || is_some (truth_of lexeme)

-- whether the token is a name
abbrev pub says_name : Lexeme → Bool
says_name lexeme = is_some (name_of lexeme)

-- whether an operand begins with the token
abbrev pub begins_simple : Lexeme → Bool
begins_simple lexeme = says_name lexeme || begins_literal lexeme

-- reads an operand
unfoldable pub simple_at : List (List ℕ) → Reading RawSimple
simple_at names = choose says_name (mapped (λ x. Name x) (mention_at names)) (mapped (λ a. Lit a) literal_at)

-- whether the token is a binary operator
abbrev pub says_op : Lexeme → Bool
says_op lexeme = is_some (op_of lexeme)

-- reads a binary operator
unfoldable pub op_at : Reading Op
op_at = saying_at op_of

-- reads an operator and an operand after the first operand, or nothing
unfoldable pub operation_at : List (List ℕ) → RawSimple → Reading RawExpr
operation_at names a =
    choose says_op (leading op_at (λ op. mapped (λ b. Binary op a b) (simple_at (with_simple names a))))
    (nothing (Plain a))

-- reads an index in brackets
unfoldable pub index_at : List (List ℕ) → Reading RawSimple
index_at names = after open_bracket (ended (simple_at names) close_bracket)

-- reads what an expression has after its first operand
unfoldable pub tail_at : List (List ℕ) → RawSimple → Reading RawExpr
tail_at names (Lit a) = operation_at names (Lit a)
tail_at names (Name x) =
    choose (is open_bracket) (mapped (λ index. Cell x index) (index_at (with_name names x)))
    (operation_at names (Name x))

-- reads an expression
unfoldable pub expr_at : List (List ℕ) → Reading RawExpr
expr_at names =
    choose (is (keyword "length")) (mapped (λ a. Length a) (after (keyword "length") (simple_at names)))
    (choose (is bang) (mapped (λ a. Not a) (after bang (simple_at names))) (leading (simple_at names) (tail_at names)))

-- whether an expression begins with the token
abbrev pub begins_expr : Lexeme → Bool
begins_expr lexeme = begins_simple lexeme || is (keyword "length") lexeme || is bang lexeme

-- reads expressions with commas between them, at most so many
unfoldable pub exprs_at : ℕ → List (List ℕ) → Reading (List RawExpr)
exprs_at most names = listed_at begins_expr comma expr_at with_expr (Some most) names
