-- Reading from the front: what a reading gives, and how readings are put together.
use Rattle.std.specs.Prelude.{ℕ, zero, suc, Bool, false, List, [], ◌∷◌, length, Option, Some, None, Result, Ok, Err, nat_eq, if◌then◌else◌}
use Rattle.sour_lexer.specs.Placed.{Lexeme, Placed}
use Rattle.sour_raw.specs.Spelling.{Kind, form, limit, less, line_of}
use Rattle.sour_raw.specs.Lexemes.{is}

-- a value with the tokens that are left, or the kind of a fault with those that are left where it stands
abbrev pub Out : Type 0 → Type 0
Out X = Result (X × List Placed) (Kind × List Placed)

-- what is given for each list of tokens
abbrev pub Reading : Type 0 → Type 0
Reading X = List Placed → Out X

-- the first, and then what it leads to
infixl 10 ◌>>=◌
abbrev pub ◌>>=◌ : {A B : Type 0} → Result A (Kind × List Placed) → (A → Result B (Kind × List Placed))
    → Result B (Kind × List Placed)
(Ok x) >>= f = f x
(Err e) >>= f = Err e

-- whether the next token passes
abbrev pub next : (Lexeme → Bool) → List Placed → Bool
next p [] = false
next p (t ∷ ts) = p t.lexeme

-- reads this very token
abbrev pub this : Lexeme → Reading (Unit {0})
this lexeme [] = Err (form, [])
this lexeme (t ∷ ts) = if is lexeme t.lexeme then Ok (tt, ts) else Err (form, t ∷ ts)

-- reads nothing
abbrev pub nothing : {X : Type 0} → X → Reading X
nothing x ts = Ok (x, ts)

-- reads one, and then what it leads to
abbrev pub leading : {A X : Type 0} → Reading A → (A → Reading X) → Reading X
leading ra k ts = ra ts >>= λ a. k a.0 a.1

-- reads what g makes of another
abbrev pub mapped : {A X : Type 0} → (A → X) → Reading A → Reading X
mapped g r ts = r ts >>= λ a. Ok (g a.0, a.1)

-- reads what stands after this token
abbrev pub after : {X : Type 0} → Lexeme → Reading X → Reading X
after lexeme r ts = this lexeme ts >>= λ a. r a.1

-- reads what stands before this token
abbrev pub ended : {X : Type 0} → Reading X → Lexeme → Reading X
ended r lexeme ts = r ts >>= λ a. this lexeme a.1 >>= λ b. Ok (a.0, b.1)

-- reads one, and then the other, with both
abbrev pub both : {A B : Type 0} → Reading A → (A → Reading B) → Reading (A × B)
both ra rb ts = ra ts >>= λ a. rb a.0 a.1 >>= λ b. Ok ((a.0, b.0), b.1)

-- reads one or the other, as the next token says
abbrev pub choose : {X : Type 0} → (Lexeme → Bool) → Reading X → Reading X → Reading X
choose p r s ts = if next p ts then r ts else s ts

-- reads one, with the line of its first token
abbrev pub lined : {X : Type 0} → Reading X → Reading (ℕ × X)
lined r ts = r ts >>= λ a. Ok ((line_of ts, a.0), a.1)

-- no token is left
abbrev pub at_end : {X : Type 0} → X → Reading X
at_end x [] = Ok (x, [])
at_end x (t ∷ ts) = Err (form, t ∷ ts)

-- reads one from all of the tokens
abbrev pub complete : {X : Type 0} → Reading X → Reading X
complete r ts = r ts >>= λ a. at_end a.0 a.1

-- the fault of an item that is one too many: its own where that stands at its first token, else Limit there
abbrev pub refuse : {X : Type 0} → List Placed → Out X → Out X
refuse ts (Ok x) = Err (limit, ts)
refuse ts (Err e) = if nat_eq (length e.1) (length ts) then Err (e.0, ts) else Err (limit, ts)

-- refuses an item, which is one too many
abbrev pub too_many : {X : Type 0} → Reading X → Reading X
too_many r ts = refuse ts (r ts)

-- how items are read one after the other, where st is what is known so far
pub record Items (St X : Type 0) : Type 0 where
  -- whether the token begins one
  pub first : Lexeme → Bool
  -- reads one
  pub item : St → Reading X
  -- refuses one that is one too many
  pub over : St → Reading X
  -- what is known after one
  pub step : St → X → St

-- the first while there is room, else the second
abbrev pub by_room : {X : Type 0} → Option ℕ → Reading X → Reading X → Reading X
by_room None r o = r
by_room (Some zero) r o = o
by_room (Some (suc n)) r o = r

-- reads items while the next token begins one; fuel is no less than the number of tokens
abbrev pub many : {St X : Type 0} → Items St X → ℕ → Option ℕ → St → Reading (List X)
many w zero room st ts = Ok ([], ts)
many w (suc fuel) room st ts =
    if next w.first ts
    then by_room room (w.item st) (w.over st) ts
    >>= (λ a. many w fuel (less room) (w.step st a.0) a.1 >>= λ b. Ok (a.0 ∷ b.0, b.1))
    else Ok ([], ts)

-- reads items while the next token begins one
abbrev pub repeated : {St X : Type 0} → Items St X → Option ℕ → St → Reading (List X)
repeated w room st ts = many w (length ts) room st ts

-- items that stand side by side
abbrev pub unseparated : {St X : Type 0} → (Lexeme → Bool) → (St → Reading X) → (St → X → St) → Items St X
unseparated p r step = record { first = p; item = r; over = λ st. too_many (r st); step = step }

-- items with this token before each
abbrev pub others : {St X : Type 0} → Lexeme → (St → Reading X) → (St → X → St) → Items St X
others separator r step = record {
  first = is separator;
  item = λ st. after separator (r st);
  over = λ st. after separator (too_many (r st));
  step = step;
}

-- reads none, or one and then others after this token
abbrev pub listed_at : {St X : Type 0} → (Lexeme → Bool) → Lexeme → (St → Reading X) → (St → X → St) → Option ℕ → St
    → Reading (List X)
listed_at p separator r step room st =
    choose p
    (mapped (λ x. x.0 ∷ x.1) (both (r st) (λ x. repeated (others separator r step) (less room) (step st x)))) (nothing [])

-- reads one and then others
abbrev pub one_or_more_at : {St X : Type 0} → Items St X → Option ℕ → St → Reading (List X)
one_or_more_at w room st = mapped (λ x. x.0 ∷ x.1) (both (w.item st) (λ x. repeated w (less room) (w.step st x)))
