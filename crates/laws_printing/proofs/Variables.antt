-- Names, labels and digits pass the tests of the grammar, and variables where those of the version are few.
use Rattle.std.proofs.Common.{◌≡◌, ℕ, suc, ◌<◌, ◌≤◌, Bool, true, false, ◌||◌, List, [], ◌∷◌, ◌++◌, length, length-append, refl, ap, subst, inl, inr, le-leb, lt-ltb, ne_eqb, arith}
use Rattle.std.specs.Prelude.{filter}
use Rattle.std.specs.Char.{is_ascii_digit}
use Rattle.std.proofs.lemmas.Bool.{and_from}
use Rattle.std.proofs.lemmas.List.Sums.{list_all-from_AllPass}
use Rattle.sour_syntax.specs.Name.{IsName}
use Rattle.sour_raw.specs.declared.raw.RawSimple.{RawSimple}
use Rattle.sour_raw.specs.declared.raw.RawSimple.TheVariants.{Lit, Name}
use Rattle.sour_raw.specs.declared.raw.RawExpr.{RawExpr}
use Rattle.sour_raw.specs.declared.raw.RawExpr.TheVariants.{Plain, Cell, Length, Not, Binary}
use Rattle.sour_raw.specs.declared.raw.RawBind.{RawBind}
use Rattle.sour_raw.specs.declared.raw.RawExtra.{RawExtra}
use Rattle.sour_raw.specs.declared.raw.RawExit.{RawExit}
use Rattle.sour_raw.specs.declared.raw.RawInstr.{RawInstr}
use Rattle.sour_raw.specs.declared.raw.RawInstr.TheVariants.{Var, Drop, Assign, ArrayLength, ArrayList, Store, Print, Read, Branch, Goto, Call, Return, Stop, Assume}
use Rattle.sour_raw.specs.declared.raw.RawLine.{RawLine}
use Rattle.sour_raw.specs.Spelling.{after_all}
use Rattle.sour_raw.specs.Mentions.{with_name}
use Rattle.sour_raw.specs.Names.{is_name, is_short, is_short_if_name, is_decimal, is_label}
use Rattle.sour_raw.specs.Variables.{with_simple, with_expr, with_exprs, with_bind, with_map, with_extra, with_exit, with_instr, with_line, is_known, fits, may_mention}
use Rattle.sour_raw.specs.Written.{IsDecimal, IsLabel}

-- ---- names and labels

-- what is true or not, or true, is true
or_true : (b : Bool) → (b || true) ≡ true
or_true true = refl
or_true false = refl

-- a name passes the test of names
pub name_passes : (x : List ℕ) → IsName x → is_name x ≡ true
name_passes [] is = absurd is.letter
name_passes (b ∷ x) is = rw (is.letter, is.free) refl

-- and that of short words
pub name_short : (x : List ℕ) → IsName x → is_short x ≡ true
name_short x is = le-leb (length x) 64 is.short

-- a decimal number passes the test of those
decimal_passes : (digits : List ℕ) → IsDecimal digits → is_decimal digits ≡ true
decimal_passes [] is = absurd is
decimal_passes (d ∷ []) is = is.0
decimal_passes (d ∷ e ∷ digits) is =
    rw (ne_eqb d 48 is.0, is.1.0, list_all-from_AllPass is_ascii_digit (e ∷ digits) is.1.1) refl

-- a label passes the test of labels
pub label_passes : (x : List ℕ) → IsLabel x → is_label x ≡ true
label_passes x (inl is) = rw (name_passes x is) refl
label_passes x (inr (digits, whole, is)) = rw (whole, decimal_passes digits is) refl

-- and is short if it is a name
pub label_short : (x : List ℕ) → IsLabel x → is_short_if_name x ≡ true
label_short x (inl is) = rw (name_short x is) refl
label_short x (inr (digits, whole, is)) = rw whole (or_true (is_short (95 ∷ digits)))

-- ---- variables

-- the names so far are few enough
abbrev pub AreFew : List (List ℕ) → Type 0
AreFew names = length names ≤ 1024

-- no more pass a test than there are
filter_length : (p : List ℕ → Bool) (names : List (List ℕ)) → length (filter p names) ≤ length names
filter_length p [] = omega arith
filter_length p (x ∷ names) = by (p x) refl (filter_length p names) where
  by : (b : Bool) → p x ≡ b → length (filter p names) ≤ length names
      → length (filter p (x ∷ names)) ≤ suc (length names)
  by true e le = rw e (omega (arith, le))
  by false e le = rw e (omega (arith, le))

-- few names are few without the last
pub back_name : (names : List (List ℕ)) (x : List ℕ) → AreFew (with_name names x) → AreFew names
back_name names x few = by (is_known names x) refl few where
  by : (b : Bool) → is_known names x ≡ b → AreFew (with_name names x) → AreFew names
  by true e few = subst AreFew (rw e refl) few
  by false e few =
      let longer : with_name names x ≡ names ++ x ∷ [] = rw e refl in
      omega (arith, few, ap length longer, length-append names (x ∷ []))

-- a name may be mentioned where the names are few after it
pub mention_passes : (names : List (List ℕ)) (x : List ℕ) → IsName x → AreFew (with_name names x)
    → may_mention names x ≡ true
mention_passes names x is few = by (is_known names x) refl where
  short : fits names x ≡ true
  short = rw (name_short x is) refl

  by : (b : Bool) → is_known names x ≡ b → may_mention names x ≡ true
  by true e = and_from _ _ short (rw e refl)
  by false e =
      let longer : with_name names x ≡ names ++ x ∷ [] = rw e refl in
      let left : length (filter is_name names) < 1024 =
      omega (arith, few, ap length longer, length-append names (x ∷ []), filter_length is_name names) in
      and_from _ _ short (rw (e, lt-ltb (length (filter is_name names)) 1024 left) refl)

-- a label at the head of a line passes its test
pub heading_passes : (names : List (List ℕ)) (x : List ℕ) → IsName x → fits names x ≡ true
heading_passes names x is = rw (name_short x is) refl

-- ---- few names after a part of a version are few before it

-- before an operand
pub back_simple : (names : List (List ℕ)) (a : RawSimple) → AreFew (with_simple names a) → AreFew names
back_simple names (Lit a) few = few
back_simple names (Name x) few = back_name names x few

-- before an expression
pub back_expr : (names : List (List ℕ)) (e : RawExpr) → AreFew (with_expr names e) → AreFew names
back_expr names (Plain a) few = back_simple names a few
back_expr names (Cell x index) few = back_name names x (back_simple (with_name names x) index few)
back_expr names (Length a) few = back_simple names a few
back_expr names (Not a) few = back_simple names a few
back_expr names (Binary op a b) few = back_simple names a (back_simple (with_simple names a) b few)

-- before all of these
back_items : {X : Type 0} (step : List (List ℕ) → X → List (List ℕ))
    → ((names : List (List ℕ)) (x : X) → AreFew (step names x) → AreFew names) → (names : List (List ℕ)) (xs : List X)
    → AreFew (after_all step names xs) → AreFew names
back_items step one names [] few = few
back_items step one names (x ∷ xs) few = one names x (back_items step one (step names x) xs few)

-- before expressions
pub back_exprs : (names : List (List ℕ)) (es : List RawExpr) → AreFew (with_exprs names es) → AreFew names
back_exprs names es few = back_items with_expr back_expr names es few

-- before a variable of a map and its value
pub back_bind : (names : List (List ℕ)) (b : RawBind) → AreFew (with_bind names b) → AreFew names
back_bind names b few = back_expr names b.value few

-- before a map
pub back_map : (names : List (List ℕ)) (binds : List RawBind) → AreFew (with_map names binds) → AreFew names
back_map names binds few = back_items with_bind back_bind names binds few

-- before a further continuation
pub back_extra : (names : List (List ℕ)) (e : RawExtra) → AreFew (with_extra names e) → AreFew names
back_extra names e few = back_map names e.map few

-- before further continuations
pub back_extras : (names : List (List ℕ)) (es : List RawExtra) → AreFew (after_all with_extra names es) → AreFew names
back_extras names es few = back_items with_extra back_extra names es few

-- before an exit
pub back_exit : (names : List (List ℕ)) (e : RawExit) → AreFew (with_exit names e) → AreFew names
back_exit names e few = back_map names e.map (back_extras (with_map names e.map) e.extras few)

-- before an instruction
back_instr : (names : List (List ℕ)) (i : RawInstr) → AreFew (with_instr names i) → AreFew names
back_instr names (Var x e) few = back_name names x (back_expr (with_name names x) e few)
back_instr names (Drop x) few = back_name names x few
back_instr names (Assign x e) few = back_name names x (back_expr (with_name names x) e few)
back_instr names (ArrayLength x e) few = back_name names x (back_expr (with_name names x) e few)
back_instr names (ArrayList x es) few = back_name names x (back_exprs (with_name names x) es few)
back_instr names (Store x index e) few =
    back_name names x (back_simple (with_name names x) index (back_expr (with_simple (with_name names x) index) e few))
back_instr names (Print e) few = back_expr names e few
back_instr names (Read x) few = back_name names x few
back_instr names (Branch e a b) few = back_expr names e few
back_instr names (Goto a) few = few
back_instr names (Call x callee es) few =
    back_name names x
    (back_simple (with_name names x) callee (back_exprs (with_simple (with_name names x) callee) es few))
back_instr names (Return e) few = back_expr names e few
back_instr names Stop few = few
back_instr names (Assume es e) few = back_exprs names es (back_exit (with_exprs names es) e few)

-- before a line
pub back_line : (names : List (List ℕ)) (l : RawLine) → AreFew (with_line names l) → AreFew names
back_line names l few = back_instr names l.instr few
