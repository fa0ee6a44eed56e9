-- What well-formed tokens spell within the limits is written and short: expressions, exits and instructions.
use Rattle.std.proofs.Common.{ℕ, pos, neg_ℤ, zero, suc, ◌≤◌, List, [], ◌∷◌, length, Some, None, sym, subst, inl, inr, arith}
use Rattle.std.specs.Prelude.{FitsSigned}
use Rattle.std.specs.Int.{w64}
use Rattle.std.proofs.lemmas.Bool.{leb-true}
use Rattle.sour_syntax.specs.Name.{IsName}
use Rattle.sour_raw.specs.declared.kind.Kind.TheVariants.{Limit as limit}
use Rattle.sour_raw.specs.declared.raw.RawLiteral.{RawLiteral}
use Rattle.sour_raw.specs.declared.raw.RawLiteral.TheVariants.{Number, Truth, Nil, Function}
use Rattle.sour_raw.specs.declared.raw.RawSimple.{RawSimple}
use Rattle.sour_raw.specs.declared.raw.RawSimple.TheVariants.{Lit, Name}
use Rattle.sour_raw.specs.declared.raw.RawExpr.{RawExpr}
use Rattle.sour_raw.specs.declared.raw.RawExpr.TheVariants.{Plain, Cell, Length, Not, Binary}
use Rattle.sour_raw.specs.declared.raw.RawPlace.{RawPlace}
use Rattle.sour_raw.specs.declared.raw.RawBind.{RawBind}
use Rattle.sour_raw.specs.declared.raw.RawExit.{RawExit}
use Rattle.sour_raw.specs.declared.raw.RawInstr.{RawInstr}
use Rattle.sour_raw.specs.declared.raw.RawInstr.TheVariants.{Var, Drop, Assign, ArrayLength, ArrayList, Store, Print, Read, Branch, Goto, Call, Return, Stop, Assume}
use Rattle.sour_raw.specs.Lexemes.{comma}
use Rattle.sour_raw.specs.Spelling.{listed}
use Rattle.sour_raw.specs.Mentions.{with_name}
use Rattle.sour_raw.specs.Variables.{with_simple, with_expr, with_exprs, with_bind, with_map, with_extra, with_exit, with_instr}
use Rattle.sour_raw.specs.Grammar.{literal, simple, expr, exprs, place, bind, map, extra, exit, instr}
use Rattle.sour_raw.specs.Written.{IsWrittenLiteral, IsWrittenSimple, IsWrittenExpr, IsWrittenPlace, IsWrittenMap, IsWrittenExtra, IsWrittenExit, IsWrittenInstr}
use Rattle.sour_raw.specs.Limits.{IsShortInstr}
use Rattle.laws_grammar.proofs.Held.{Held, cut, skip, Keeps, AreKept, each_kept, separated, first_kept}
use Rattle.laws_grammar.proofs.WrittenNames.{name_written, label_written, IsState, mention_written}

-- ---- literals and operands

-- a number of 63 bits fits 64 bits with its sign
fits_positive : (d : ℕ) → d ≤ 9223372036854775807 → FitsSigned w64 (pos d)
fits_positive d le = omega (arith, le)

-- and so does a negative one
fits_negative : (d : ℕ) → d ≤ 9223372036854775808 → FitsSigned w64 (neg_ℤ (pos d))
fits_negative zero le = omega arith
fits_negative (suc d) le = omega (arith, le)

-- a literal is written so
pub literal_written : (a : RawLiteral) → Held (literal limit a) → IsWrittenLiteral a
literal_written (Number n) (u, s, known) = elim s [
  | inl s ↦ subst (FitsSigned w64) (sym s.1) (fits_positive s.0 (leb-true s.0 9223372036854775807 s.2.3))
  | inr s ↦ subst (FitsSigned w64) (sym s.1) (fits_negative s.0 (leb-true s.0 9223372036854775808 s.2.4.3))
]
literal_written (Truth b) h = tt
literal_written Nil h = tt
literal_written (Function f) h = name_written f (skip h)

-- an operand is written so
simple_written : (names : List (List ℕ)) → IsState names → (a : RawSimple) → Held (simple names limit a)
    → IsWrittenSimple a × IsState (with_simple names a)
simple_written names state (Lit a) h = (literal_written a h, state)
simple_written names state (Name x) h = mention_written names state x h

-- ---- expressions

-- an expression is written so
expr_written : (names : List (List ℕ)) → IsState names → (e : RawExpr) → Held (expr names limit e)
    → IsWrittenExpr e × IsState (with_expr names e)
expr_written names state (Plain a) h = simple_written names state a h
expr_written names state (Cell x index) h =
    let c = cut h in
    let m = mention_written names state x c.0 in
    let i = simple_written (with_name names x) m.1 index (cut (skip c.1)).0 in
    ((m.0, i.0), i.1)
expr_written names state (Length a) h = simple_written names state a (skip h)
expr_written names state (Not a) h = simple_written names state a (skip h)
expr_written names state (Binary op a b) h =
    let c = cut h in
    let l = simple_written names state a c.0 in
    let r = simple_written (with_simple names a) l.1 b (skip c.1) in
    ((l.0, r.0), r.1)

-- so expressions keep the state
exprs_keep : Keeps expr with_expr IsState IsWrittenExpr
exprs_keep = record { item = expr_written }

-- a list of them is written so
exprs_written : (most : ℕ) (names : List (List ℕ)) → IsState names → (es : List RawExpr)
    → Held (exprs (suc most) names limit es)
    → AreKept with_expr IsState IsWrittenExpr (Some (suc most)) names es
exprs_written most names state [] h = (tt, state, omega arith)
exprs_written most names state (e ∷ es) h =
    first_kept exprs_keep (separated comma exprs_keep) (Some (suc most)) tt names state e es h

-- ---- exits

-- a place is written so
place_written : (p : RawPlace) → Held (place limit p) → IsWrittenPlace p
place_written p h =
    let c = cut h in
    let d = cut (skip c.1) in
    record {
      function = name_written p.function c.0;
      version = name_written p.version d.0;
      label = label_written p.label (skip d.1);
    }

-- names with their values keep the state
binds_keep : Keeps bind with_bind IsState (λ (b : RawBind). IsName b.name × IsWrittenExpr b.value)
binds_keep = record {
  item = λ names state b h.
      let c = cut h in
      let e = expr_written names state b.value (skip c.1) in
      ((name_written b.name c.0, e.0), e.1);
}

-- a map is written so
map_written : (names : List (List ℕ)) → IsState names → (binds : List RawBind) → Held (map names limit binds)
    → IsWrittenMap binds × IsState (with_map names binds)
map_written names state binds h = by binds (cut (skip h)).0 where
  by : (binds : List RawBind) → Held (listed comma bind with_bind None names limit binds)
      → IsWrittenMap binds × IsState (with_map names binds)
  by [] h = (tt, state)
  by (b ∷ binds) h =
      let all = first_kept binds_keep (separated comma binds_keep) None tt names state b binds h in (all.0, all.1)

-- further continuations keep the state
extras_keep : Keeps extra with_extra IsState IsWrittenExtra
extras_keep = record {
  item = λ names state e h.
      let c = cut h in
      let d = cut c.1 in
      let m = map_written names state e.map d.1 in
      (record { target = place_written e.target c.0; result = name_written e.result d.0; map = m.0 }, m.1);
}

-- an exit is written so, and has at most 16 extras
exit_written : (names : List (List ℕ)) → IsState names → (e : RawExit) → Held (exit names limit e)
    → IsWrittenExit e × IsState (with_exit names e) × (length e.extras ≤ 16)
exit_written names state e h =
    let c = cut h in
    let d = cut c.1 in
    let m = map_written names state e.map d.0 in
    let more = each_kept (separated comma extras_keep) (Some 16) (with_map names e.map) m.1 e.extras d.1 in
    (record { target = place_written e.target c.0; map = m.0; extras = more.0 }, more.1, more.2)

-- ---- instructions

-- what is known of an instruction
abbrev pub IsWell : RawInstr → Type 0
IsWell i = IsWrittenInstr i × IsShortInstr i

-- an instruction is written so, and short
pub instr_written : (names : List (List ℕ)) → IsState names → (i : RawInstr) → Held (instr names limit i)
    → IsWell i × IsState (with_instr names i)
instr_written names state (Var x e) h =
    let c = cut (skip h) in
    let m = mention_written names state x c.0 in
    let v = expr_written (with_name names x) m.1 e (skip c.1) in
    (((m.0, v.0), tt), v.1)
instr_written names state (Drop x) h = let m = mention_written names state x (skip h) in ((m.0, tt), m.1)
instr_written names state (Assign x e) h =
    let c = cut h in
    let m = mention_written names state x c.0 in
    let v = expr_written (with_name names x) m.1 e (skip c.1) in
    (((m.0, v.0), tt), v.1)
instr_written names state (ArrayLength x e) h =
    let c = cut (skip h) in
    let m = mention_written names state x c.0 in
    let v = expr_written (with_name names x) m.1 e (cut (skip c.1)).0 in
    (((m.0, v.0), tt), v.1)
instr_written names state (ArrayList x es) h =
    let c = cut (skip h) in
    let m = mention_written names state x c.0 in
    let v = exprs_written 1023 (with_name names x) m.1 es (cut (skip (skip c.1))).0 in
    (((m.0, v.0), v.2), v.1)
instr_written names state (Store x index e) h =
    let c = cut h in
    let m = mention_written names state x c.0 in
    let d = cut (skip c.1) in
    let i = simple_written (with_name names x) m.1 index d.0 in
    let v = expr_written (with_simple (with_name names x) index) i.1 e (skip (skip d.1)) in
    (((m.0, i.0, v.0), tt), v.1)
instr_written names state (Branch e a b) h =
    let c = cut (skip h) in
    let v = expr_written names state e c.0 in
    let d = cut c.1 in
    (((v.0, label_written a d.0, label_written b d.1), tt), v.1)
instr_written names state (Goto a) h = ((label_written a (skip h), tt), state)
instr_written names state (Print e) h = let v = expr_written names state e (skip h) in ((v.0, tt), v.1)
instr_written names state (Read x) h = let m = mention_written names state x (skip h) in ((m.0, tt), m.1)
instr_written names state (Call x callee es) h =
    let c = cut (skip h) in
    let m = mention_written names state x c.0 in
    let d = cut (skip c.1) in
    let f = simple_written (with_name names x) m.1 callee d.0 in
    let v = exprs_written 254 (with_simple (with_name names x) callee) f.1 es (cut (skip d.1)).0 in
    (((m.0, f.0, v.0), v.2), v.1)
instr_written names state (Return e) h = let v = expr_written names state e (skip h) in ((v.0, tt), v.1)
instr_written names state Stop h = ((tt, tt), state)
instr_written names state (Assume es e) h =
    let c = cut (skip h) in
    let v = exprs_written 15 names state es c.0 in
    let x = exit_written (with_exprs names es) v.1 e (skip c.1) in
    (((v.0, x.0), (v.2, x.2)), x.1)
