-- How exits, instructions and lines are read.
use Rattle.std.specs.Prelude.{ℕ, Bool, List, [], ◌∷◌, Option, Some, None, Ok, Err, is_some, true, ◌||◌, if◌then◌else◌}
use Rattle.sour_lexer.specs.Placed.{Lexeme, Placed, LineEnd}
use Rattle.sour_raw.specs.declared.raw.RawPlace.{RawPlace}
use Rattle.sour_raw.specs.declared.raw.RawBind.{RawBind}
use Rattle.sour_raw.specs.declared.raw.RawExtra.{RawExtra}
use Rattle.sour_raw.specs.declared.raw.RawExit.{RawExit}
use Rattle.sour_raw.specs.declared.raw.RawInstr.{RawInstr}
use Rattle.sour_raw.specs.declared.raw.RawInstr.TheVariants.{Var, Drop, Assign, ArrayLength, ArrayList, Store, Print, Read, Branch, Goto, Call, Return, Stop, Assume}
use Rattle.sour_raw.specs.declared.raw.RawLine.{RawLine}
use Rattle.sour_raw.specs.declared.parts.InstrWord.{InstrWord}
use Rattle.sour_raw.specs.declared.parts.InstrWord.TheVariants as word
use Rattle.sour_raw.specs.declared.parts.Heading.{Heading}
use Rattle.sour_raw.specs.declared.parts.Heading.TheVariants as heading
use Rattle.sour_raw.specs.Spelling.{form, limit}
use Rattle.sour_raw.specs.Words.{saying_at}
use Rattle.sour_raw.specs.Combinators.{Out, Reading, leading, mapped, after, ended, both, choose, nothing, lined, repeated, others, listed_at}
use Rattle.sour_raw.specs.Lexemes.{arrow, equal, open_paren, close_paren, open_bracket, close_bracket, comma, dot, is}
use Rattle.sour_raw.specs.Keys.{keyword, instr_word_of, heading_of}
use Rattle.sour_raw.specs.Mentions.{with_name}
use Rattle.sour_raw.specs.Names.{name_of}
use Rattle.sour_raw.specs.Variables.{with_simple, with_exprs, with_bind, with_map, with_extra, fits, has_room}
use Rattle.sour_raw.specs.Expressions.{name_at, mention_at, label_at, says_name, simple_at, expr_at, exprs_at}

-- reads a place
unfoldable pub place_at : Reading RawPlace
place_at =
    mapped (λ p. record { function = p.0; version = p.1.0; label = p.1.1 })
    (both name_at (λ f. after dot (both name_at (λ v. after dot label_at))))

-- reads a name of a map and its value
unfoldable pub bind_at : List (List ℕ) → Reading RawBind
bind_at names = mapped (λ p. record { name = p.0; value = p.1 }) (both name_at (λ x. after equal (expr_at names)))

-- reads a map
unfoldable pub map_at : List (List ℕ) → Reading (List RawBind)
map_at names = after open_bracket (ended (listed_at says_name comma bind_at with_bind None names) close_bracket)

-- reads a further continuation
unfoldable pub extra_at : List (List ℕ) → Reading RawExtra
extra_at names =
    mapped (λ p. record { target = p.0; result = p.1.0; map = p.1.1 })
    (both place_at (λ p. both name_at (λ x. map_at names)))

-- reads the further continuations, each after a comma
unfoldable pub extras_at : List (List ℕ) → Reading (List RawExtra)
extras_at names = repeated (others comma extra_at with_extra) (Some 16) names

-- reads an exit
unfoldable pub exit_at : List (List ℕ) → Reading RawExit
exit_at names =
    mapped (λ p. record { target = p.0; map = p.1.0; extras = p.1.1 })
    (both place_at (λ p. both (map_at names) (λ binds. extras_at (with_map names binds))))

-- reads what follows the name of an array that is made
unfoldable pub array_at : List (List ℕ) → List ℕ → Reading RawInstr
array_at names x =
    choose (is open_bracket)
    (mapped (λ e. ArrayLength x e) (after open_bracket (ended (expr_at (with_name names x)) close_bracket)))
    (mapped (λ es. ArrayList x es)
    (after equal (after open_bracket (ended (exprs_at 1024 (with_name names x)) close_bracket))))

-- reads what follows the name of the variable of a call
unfoldable pub call_at : List (List ℕ) → List ℕ → Reading RawInstr
call_at names x =
    mapped (λ p. Call x p.0 p.1)
    (after equal (both (simple_at (with_name names x))
    (λ f. after open_paren (ended (exprs_at 255 (with_simple (with_name names x) f)) close_paren))))

-- reads the predicates of an assume, and its exit
unfoldable pub assume_at : List (List ℕ) → Reading RawInstr
assume_at names =
    mapped (λ p. Assume p.0 p.1)
    (both (exprs_at 16 names) (λ es. after (keyword "else") (exit_at (with_exprs names es))))

-- reads what follows the word of an instruction
unfoldable pub body_at : List (List ℕ) → InstrWord → Reading RawInstr
body_at names word.Var =
    mapped (λ p. Var p.0 p.1) (both (mention_at names) (λ x. after equal (expr_at (with_name names x))))
body_at names word.Drop = mapped (λ x. Drop x) (mention_at names)
body_at names word.Array = leading (mention_at names) (array_at names)
body_at names word.Branch =
    mapped (λ p. Branch p.0 p.1.0 p.1.1) (both (expr_at names) (λ e. both label_at (λ a. label_at)))
body_at names word.Goto = mapped (λ a. Goto a) label_at
body_at names word.Print = mapped (λ e. Print e) (expr_at names)
body_at names word.Read = mapped (λ x. Read x) (mention_at names)
body_at names word.Call = leading (mention_at names) (call_at names)
body_at names word.Return = mapped (λ e. Return e) (expr_at names)
body_at names word.Stop = nothing Stop
body_at names word.Assume = assume_at names

-- reads an instruction that begins with its word
unfoldable pub by_word_at : List (List ℕ) → Reading RawInstr
by_word_at names = leading (saying_at instr_word_of) (body_at names)

-- reads the value that a variable gets, after `<-`
unfoldable pub assign_at : List (List ℕ) → List ℕ → Reading RawInstr
assign_at names x = mapped (λ e. Assign x e) (expr_at (with_name names x))

-- reads the index of a cell and the value that it gets, after `[`
unfoldable pub store_at : List (List ℕ) → List ℕ → Reading RawInstr
store_at names x =
    mapped (λ p. Store x p.0 p.1)
    (both (simple_at (with_name names x))
    (λ index. after close_bracket (after arrow (expr_at (with_simple (with_name names x) index)))))

-- reads what follows a variable with which an instruction begins
unfoldable pub setting_at : List (List ℕ) → List ℕ → Reading RawInstr
setting_at names x = choose (is arrow) (after arrow (assign_at names x)) (after open_bracket (store_at names x))

-- reads an instruction
unfoldable pub instr_at : List (List ℕ) → Reading RawInstr
instr_at names = choose says_name (leading (mention_at names) (setting_at names)) (by_word_at names)

-- whether there is room for what a name at the head of a line is
abbrev pub has_room_for : List (List ℕ) → Heading → List ℕ → Bool
has_room_for names heading.Label x = true
has_room_for names heading.Target x = has_room names x
has_room_for names heading.Array x = has_room names x

-- reads a name t at the head of a line and the token u after it, which makes it this
abbrev pub headed_by : List (List ℕ) → Placed → List ℕ → Placed → List Placed → Option Heading → Out (Heading × List ℕ)
headed_by names t x u us None = Err (form, u ∷ us)
headed_by names t x u us (Some h) = if has_room_for names h x then Ok ((h, x), us) else Err (limit, t ∷ u ∷ us)

-- reads what follows a name t at the head of a line
abbrev pub after_head : List (List ℕ) → Placed → List ℕ → List Placed → Out (Heading × List ℕ)
after_head names t x [] = Err (form, [])
after_head names t x (u ∷ us) = headed_by names t x u us (heading_of u.lexeme)

-- reads a token t at the head of a line, which is this name
abbrev pub head_by : List (List ℕ) → Placed → List Placed → Option (List ℕ) → Out (Heading × List ℕ)
head_by names t ts None = Err (form, t ∷ ts)
head_by names t ts (Some x) = if fits names x then after_head names t x ts else Err (limit, t ∷ ts)

-- reads a name at the head of a line, and the token after it, which says what it is
abbrev pub heading_at : List (List ℕ) → Reading (Heading × List ℕ)
heading_at names [] = Err (form, [])
heading_at names (t ∷ ts) = head_by names t ts (name_of t.lexeme)

-- reads the rest of a line that begins with a name
unfoldable pub headed_at : List (List ℕ) → Heading → List ℕ → Reading (Option (List ℕ) × RawInstr)
headed_at names heading.Label x = mapped (λ i. (Some x, i)) (instr_at names)
headed_at names heading.Target x = mapped (λ i. (None, i)) (assign_at names x)
headed_at names heading.Array x = mapped (λ i. (None, i)) (store_at names x)

-- reads a line up to its end
unfoldable pub content_at : List (List ℕ) → Reading (Option (List ℕ) × RawInstr)
content_at names =
    choose says_name (leading (heading_at names) (λ h. headed_at names h.0 h.1))
    (mapped (λ i. (None, i)) (by_word_at names))

-- reads a line
unfoldable pub line_at : List (List ℕ) → Reading RawLine
line_at names =
    mapped (λ p. record { line = p.0; label = p.1.0; instr = p.1.1 }) (lined (ended (content_at names) LineEnd))

-- whether a line begins with the token
abbrev pub begins_line : Lexeme → Bool
begins_line lexeme = says_name lexeme || is_some (instr_word_of lexeme)
