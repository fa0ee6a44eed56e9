-- Words and symbols that stand for something, and which of several a token is.
use Rattle.std.specs.Prelude.{Bool, true, false, List, [], ◌∷◌, Option, Some, None, codes, if◌then◌else◌}
use Prim.Native.String.{String}
use Rattle.sour_tokens.specs.declared.symbols.Symbol.TheVariants as symbol
use Rattle.sour_syntax.specs.declared.expression.Op.{Op}
use Rattle.sour_syntax.specs.declared.expression.Op.TheVariants as op
use Rattle.sour_syntax.specs.declared.plan.Start.{Start}
use Rattle.sour_syntax.specs.declared.plan.Start.TheVariants as start
use Rattle.sour_lexer.specs.Placed.{Lexeme, Word, Sign}
use Rattle.sour_raw.specs.declared.parts.InstrWord.{InstrWord}
use Rattle.sour_raw.specs.declared.parts.InstrWord.TheVariants as instr
use Rattle.sour_raw.specs.declared.parts.PassWord.{PassWord}
use Rattle.sour_raw.specs.declared.parts.PassWord.TheVariants as pass
use Rattle.sour_raw.specs.declared.parts.Heading.{Heading}
use Rattle.sour_raw.specs.declared.parts.Heading.TheVariants as heading
use Rattle.sour_raw.specs.declared.parts.Section.{Section}
use Rattle.sour_raw.specs.declared.parts.Section.TheVariants as section
use Rattle.sour_raw.specs.Lexemes.{arrow, minus, slash, percent, equal_equal, open_bracket, colon, is}

-- the word that is spelled so
abbrev pub keyword : String → Lexeme
keyword spelling = Word (codes spelling)

-- the first of these keys whose token it is
abbrev pub key_of : {K : Type 0} → (K → Lexeme) → List K → Lexeme → Option K
key_of token [] lexeme = None
key_of token (key ∷ keys) lexeme = if is (token key) lexeme then Some key else key_of token keys lexeme

-- the token of a binary operator
abbrev pub op_token : Op → Lexeme
op_token op.Add = Sign symbol.Plus
op_token op.Sub = minus
op_token op.Mul = Sign symbol.Star
op_token op.Div = slash
op_token op.Rem = percent
op_token op.Eq = equal_equal
op_token op.Ne = Sign symbol.NotEqual
op_token op.Lt = Sign symbol.Less
op_token op.Le = Sign symbol.LessEqual
op_token op.Gt = Sign symbol.Greater
op_token op.Ge = Sign symbol.GreaterEqual
op_token op.And = Sign symbol.AndAnd
op_token op.Or = Sign symbol.OrOr

-- the binary operators
abbrev pub all_ops : List Op
all_ops =
    op.Add ∷ op.Sub ∷ op.Mul ∷ op.Div ∷ op.Rem ∷ op.Eq ∷ op.Ne ∷ op.Lt ∷ op.Le ∷ op.Gt ∷ op.Ge ∷ op.And ∷ op.Or ∷ []

-- the binary operator that a token is
abbrev pub op_of : Lexeme → Option Op
op_of = key_of op_token all_ops

-- the word of a truth value
abbrev pub truth_token : Bool → Lexeme
truth_token true = keyword "true"
truth_token false = keyword "false"

-- the truth values
abbrev pub all_truths : List Bool
all_truths = true ∷ false ∷ []

-- the truth value that a token is
abbrev pub truth_of : Lexeme → Option Bool
truth_of = key_of truth_token all_truths

-- the word with which an instruction begins
abbrev pub instr_token : InstrWord → Lexeme
instr_token instr.Var = keyword "var"
instr_token instr.Drop = keyword "drop"
instr_token instr.Array = keyword "array"
instr_token instr.Branch = keyword "branch"
instr_token instr.Goto = keyword "goto"
instr_token instr.Print = keyword "print"
instr_token instr.Read = keyword "read"
instr_token instr.Call = keyword "call"
instr_token instr.Return = keyword "return"
instr_token instr.Stop = keyword "stop"
instr_token instr.Assume = keyword "assume"

-- the words with which instructions begin
abbrev pub all_instr_words : List InstrWord
all_instr_words =
    instr.Var ∷ instr.Drop ∷ instr.Array ∷ instr.Branch ∷ instr.Goto ∷ instr.Print ∷ instr.Read ∷ instr.Call
    ∷ instr.Return ∷ instr.Stop ∷ instr.Assume ∷ []

-- the kind of instruction that begins with a token
abbrev pub instr_word_of : Lexeme → Option InstrWord
instr_word_of = key_of instr_token all_instr_words

-- the token after a name at the head of a line
abbrev pub heading_token : Heading → Lexeme
heading_token heading.Label = colon
heading_token heading.Target = arrow
heading_token heading.Array = open_bracket

-- what a name at the head of a line may be
abbrev pub all_headings : List Heading
all_headings = heading.Label ∷ heading.Target ∷ heading.Array ∷ []

-- what a token after it makes of a name at the head of a line
abbrev pub heading_of : Lexeme → Option Heading
heading_of = key_of heading_token all_headings

-- the word with which a pass begins
abbrev pub pass_token : PassWord → Lexeme
pass_token pass.Inject = keyword "inject"
pass_token pass.Constprop = keyword "constprop"
pass_token pass.Unreachable = keyword "unreachable"
pass_token pass.Inline = keyword "inline"
pass_token pass.Move = keyword "move"
pass_token pass.Hoist = keyword "hoist"
pass_token pass.Compose = keyword "compose"
pass_token pass.Prune = keyword "prune"

-- the words with which passes begin
abbrev pub all_pass_words : List PassWord
all_pass_words =
    pass.Inject ∷ pass.Constprop ∷ pass.Unreachable ∷ pass.Inline ∷ pass.Move ∷ pass.Hoist ∷ pass.Compose ∷ pass.Prune
    ∷ []

-- the kind of pass that begins with a token
abbrev pub pass_word_of : Lexeme → Option PassWord
pass_word_of = key_of pass_token all_pass_words

-- the word for what a job of the plan, or inlining, starts from
abbrev pub start_token : Start → Lexeme
start_token start.Text = keyword "text"
start_token start.Active = keyword "active"

-- the starts
abbrev pub all_starts : List Start
all_starts = start.Text ∷ start.Active ∷ []

-- the start that a token is
abbrev pub start_of : Lexeme → Option Start
start_of = key_of start_token all_starts

-- the word with which a part of a text begins, after `%`
abbrev pub section_token : Section → Lexeme
section_token section.Plan = keyword "plan"
section_token section.Inputs = keyword "inputs"

-- the sections
abbrev pub all_sections : List Section
all_sections = section.Plan ∷ section.Inputs ∷ []

-- the part of a text that begins with a token
abbrev pub section_of : Lexeme → Option Section
section_of = key_of section_token all_sections
