-- The items of what bytes read as stand on lines that ascend in the order of the text.
use Rattle.std.proofs.Common.{ℕ, ◌+◌, ◌<◌, ◌≤◌, List, [], ◌∷◌, ◌++◌, map, flat_map, Option, Some, sym, subst, arith, inl, inr}
use Rattle.std.specs.List.{AllByRecursion}
use Rattle.std.proofs.lemmas.List.Concat.{flat_map_single}
use Rattle.sour_syntax.proofs.Everywhere.{AllByRecursion-weaker}
use Rattle.sour_lexer.specs.Placed.{Lexeme, LineEnd, Placed}
use Rattle.sour_lexer.proofs.LinesRise.{line_after, Rises, rises_lower, rises_higher, rises_up, rises_parts, tokens_rise}
use Rattle.sour_raw.specs.declared.kind.Kind.TheVariants.{Limit as limit}
use Rattle.sour_raw.specs.declared.raw.RawLine.{RawLine}
use Rattle.sour_raw.specs.declared.raw.RawPlanJob.{RawPlanJob}
use Rattle.sour_raw.specs.declared.raw.RawInput.{RawInput}
use Rattle.sour_raw.specs.declared.raw.RawJob.{RawJob}
use Rattle.sour_raw.specs.Spelling.{Tokens, ◌·◌, one, from_line, Language, less, HasRoom, each, one_or_more, alone}
use Rattle.sour_raw.specs.Grammar.{no_names, line, version, function, plan_job, plan, input, inputs, optional, job}
use Rattle.sour_raw.specs.Variables.{with_line}
use Rattle.sour_raw.specs.Order.{version_lines, function_lines, item_lines, Ascends, IsInOrder}
use Rattle.sour_raw.specs.Reads.{Reads}

-- ---- tokens of a text, cut apart as the grammar says

-- some tokens in the set, whose lines rise from the first to the last
record Rising (first last : ℕ) (A : Tokens) : Type 0 where
  tokens : List Placed
  are : A tokens
  rise : Rises first tokens last

-- the tokens of the first set, and those of the second
record Cut (first last : ℕ) (A B : Tokens) : Type 0 where
  middle : ℕ
  front : Rising first middle A
  rest : Rising middle last B

cut : {first last : ℕ} {A B : Tokens} → Rising first last (A · B) → Cut first last A B
cut {first} {last} h =
    let (u, v, whole, a, b) = h.are in
    let parts = rises_parts first u v last (subst (λ some. Rises first some last) whole h.rise) in
    record {
      middle = parts.0;
      front = record { tokens = u; are = a; rise = parts.1 };
      rest = record { tokens = v; are = b; rise = parts.2 };
    }

-- what stands behind some tokens
behind : {first last : ℕ} {A B : Tokens} → Rising first last (A · B) → Rising first last B
behind {first} {last} h =
    let c = cut h in
    let up = rises_up first c.front.tokens c.middle c.front.rise in
    record {
      tokens = c.rest.tokens;
      are = c.rest.are;
      rise = rises_lower first c.middle c.rest.tokens last up c.rest.rise;
    }

-- what stands before others
before : {first last : ℕ} {A B : Tokens} → Rising first last (A · B) → Rising first last A
before {first} {last} h =
    let c = cut h in
    let up = rises_up c.middle c.rest.tokens last c.rest.rise in
    record {
      tokens = c.front.tokens;
      are = c.front.are;
      rise = rises_higher first c.front.tokens c.middle last up c.front.rise;
    }

-- the end of a line is followed by a later one
ended : {first last : ℕ} → Rising first last (one LineEnd) → first + 1 ≤ last
ended {first} {last} h =
    let (t, is, whole) = h.are in
    let rise = subst (λ some. Rises first some last) whole h.rise in
    let next = subst (λ some. line_after some t.line ≤ last) is rise.1 in
    omega (arith, rise.0, next)

-- and so is what stands behind it
below : {first last : ℕ} {A : Tokens} → Rising first last (one LineEnd · A) → Rising (first + 1) last A
below {first} {last} h =
    let c = cut h in
    record {
      tokens = c.rest.tokens;
      are = c.rest.are;
      rise = rises_lower (first + 1) c.middle c.rest.tokens last (ended c.front) c.rest.rise;
    }

-- no list in the set is empty
abbrev AreSome : Tokens → Type 0
AreSome A = A [] → ⊥

-- a token is some
some_one : {lexeme : Lexeme} → AreSome (one lexeme)
some_one (t, is, whole) = absurd cc

-- what begins with some is some
some_front : {A B : Tokens} → AreSome A → AreSome (A · B)
some_front {A} some ([], v, whole, a, b) = some a
some_front {A} some (t ∷ u, v, whole, a, b) = absurd cc

-- so is what ends in some
some_rest : {A B : Tokens} → AreSome B → AreSome (A · B)
some_rest {B = B} some ([], v, whole, a, b) = some (subst B (sym whole) b)
some_rest {B = B} some (t ∷ u, v, whole, a, b) = absurd cc

-- what begins on a line, where it is some
record Begins (first line last : ℕ) (A : Tokens) : Type 0 where
  low : first ≤ line
  rising : Rising line last A

on_line : {first line last : ℕ} {A : Tokens} → AreSome A → Rising first last (from_line line A)
    → Begins first line last A
on_line {first} {line} {last} {A} some h = by h.tokens h.are h.rise where
  by : (tokens : List Placed) → from_line line A tokens → Rises first tokens last → Begins first line last A
  by [] are rise = absurd (some are.0)
  by (t ∷ ts) are rise = record {
    low = omega (arith, rise.0, are.1);
    rising = record { tokens = t ∷ ts; are = are.0; rise = (omega (arith, are.1), rise.1) };
  }

-- ---- lines that ascend

-- they ascend from the first line on, and end before the last
abbrev Climbs : ℕ → List ℕ → ℕ → Type 0
Climbs first [] last = first ≤ last
Climbs first (line ∷ lines) last = (first ≤ line) × Climbs (line + 1) lines last

-- some, and then others from where they end
climbs_append : (first : ℕ) (lines : List ℕ) (middle : ℕ) (others : List ℕ) (last : ℕ) → Climbs first lines middle
    → Climbs middle others last → Climbs first (lines ++ others) last
climbs_append first [] middle [] last front rest = omega (arith, front, rest)
climbs_append first [] middle (line ∷ others) last front rest = (omega (arith, front, rest.0), rest.1)
climbs_append first (line ∷ lines) middle others last front rest =
    (front.0, climbs_append (line + 1) lines middle others last front.1 rest)

-- none stands before the first line
climbs_from : (first : ℕ) (lines : List ℕ) (last : ℕ) → Climbs first lines last
    → AllByRecursion (λ line. first ≤ line) lines
climbs_from first [] last climbs = tt
climbs_from first (line ∷ lines) last climbs = (
  climbs.0,
  AllByRecursion-weaker (λ other. line + 1 ≤ other) (λ other. first ≤ other)
      (λ other le. omega (arith, le, climbs.0)) lines (climbs_from (line + 1) lines last climbs.1),
)

-- each is below those that follow
climbs_ascends : (first : ℕ) (lines : List ℕ) (last : ℕ) → Climbs first lines last → Ascends lines
climbs_ascends first [] last climbs = tt
climbs_ascends first (line ∷ lines) last climbs = (
  AllByRecursion-weaker (λ other. line + 1 ≤ other) (λ other. line < other) (λ other le. omega (arith, le)) lines
      (climbs_from (line + 1) lines last climbs.1),
  climbs_ascends (line + 1) lines last climbs.1,
)

-- ---- items

-- the lines of an item ascend within those of its tokens
record Climbing {St X : Type 0} (S : St → Language X) (lines : X → List ℕ) : Type 0 where
  item : (st : St) (x : X) (first last : ℕ) → Rising first last (S st limit x) → Climbs first (lines x) last

-- so do those of items, one behind the other
each_climbs : {St X : Type 0} {S : St → Language X} {lines : X → List ℕ} → Climbing S lines
    → (step : St → X → St) (room : Option ℕ) (st : St) (xs : List X) (first last : ℕ)
    → Rising first last (each S step room st limit xs) → Climbs first (flat_map lines xs) last
each_climbs climbing step room st [] first last h = rises_up first h.tokens last h.rise
each_climbs {S = S} {lines = lines} climbing step room st (x ∷ xs) first last h =
    let some : Rising first last (S st limit x · each S step (less room) (step st x) limit xs) =
    record { tokens = h.tokens; are = h.are.1; rise = h.rise } in
    let c = cut some in
    climbs_append first (lines x) c.middle (flat_map lines xs) last (climbing.item st x first c.middle c.front)
    (each_climbs climbing step (less room) (step st x) xs c.middle last c.rest)

-- and those of one item and then others
first_climbs : {St X : Type 0} {S : St → Language X} {lines : X → List ℕ} → Climbing S lines
    → (step : St → X → St) (room : Option ℕ) → HasRoom limit room → (st : St) (xs : List X) (first last : ℕ)
    → Rising first last (one_or_more S step room st limit xs) → Climbs first (flat_map lines xs) last
first_climbs climbing step room has st [] first last h = absurd h.are
first_climbs climbing step room has st (x ∷ xs) first last h =
    each_climbs climbing step room st (x ∷ xs) first last
    (record { tokens = h.tokens; are = (has, h.are); rise = h.rise })

-- where each item stands on one line
single_climbs : {X : Type 0} (line_of : X → ℕ) (xs : List X) (first last : ℕ)
    → Climbs first (flat_map (λ x. line_of x ∷ []) xs) last → Climbs first (map line_of xs) last
single_climbs line_of xs first last = subst (λ lines. Climbs first lines last) (flat_map_single line_of xs)

-- a line stands on its own
line_climbs : Climbing line (λ (l : RawLine). l.line ∷ [])
line_climbs = record {
  item = λ names l first last h.
      let b = on_line (some_rest some_one) h in (b.low, ended (behind b.rising));
}

-- a version stands before its lines
version_climbs : (parameters : List (List ℕ))
    → Climbing (λ (names : List (List ℕ)). version parameters) version_lines
version_climbs parameters = record {
  item = λ names v first last h.
      let b = on_line (some_front some_one) h in (
        b.low,
        single_climbs (λ (l : RawLine). l.line) v.lines (v.line + 1) last
            (each_climbs line_climbs with_line _ _ v.lines (v.line + 1) last (below (behind (behind b.rising)))),
      );
}

-- a function stands before its versions
function_climbs : Climbing (λ (names : List (List ℕ)). function) function_lines
function_climbs = record {
  item = λ names f first last h.
      let b = on_line (some_front some_one) h in (
        b.low,
        first_climbs (version_climbs f.parameters) alone (Some 16) tt no_names f.versions (f.line + 1) last
            (before (below (behind (behind (behind (behind (behind b.rising))))))),
      );
}

-- a job of the plan stands on its own
job_climbs : Climbing (λ (names : List (List ℕ)). plan_job) (λ (j : RawPlanJob). j.line ∷ [])
job_climbs = record {
  item = λ names j first last h.
      let b = on_line (some_front some_one) h in
      (b.low, ended (behind (behind (behind (behind (behind (behind b.rising)))))));
}

-- so does an input
input_climbs : Climbing (λ (names : List (List ℕ)). input) (λ (i : RawInput). i.line ∷ [])
input_climbs = record {
  item = λ names i first last h.
      let b = on_line (some_front some_one) h in (b.low, ended (behind (behind b.rising)));
}

-- the jobs of a plan
plan_climbs : (jobs : List RawPlanJob) (first last : ℕ) → Rising first last (optional plan limit jobs)
    → Climbs first (map (λ (j : RawPlanJob). j.line) jobs) last
plan_climbs jobs first last h = elim h.are [
  | inl none ↦ rw none.0 (rises_up first h.tokens last h.rise)
  | inr some ↦
      let own : Rising first last (plan limit jobs) = record { tokens = h.tokens; are = some; rise = h.rise } in
      single_climbs (λ (j : RawPlanJob). j.line) jobs first last
      (each_climbs job_climbs alone _ _ jobs first last (behind (behind (behind own))))
]

-- the inputs
inputs_climb : (given : List RawInput) (first last : ℕ) → Rising first last (optional inputs limit given)
    → Climbs first (map (λ (i : RawInput). i.line) given) last
inputs_climb given first last h = elim h.are [
  | inl none ↦ rw none.0 (rises_up first h.tokens last h.rise)
  | inr some ↦
      let own : Rising first last (inputs limit given) = record { tokens = h.tokens; are = some; rise = h.rise } in
      single_climbs (λ (i : RawInput). i.line) given first last
      (each_climbs input_climbs alone _ _ given first last (behind (behind (behind own))))
]

-- ---- the whole text

-- the items of a job
items_climb : (raw : RawJob) (first last : ℕ) → Rising first last (job limit raw) → Climbs first (item_lines raw) last
items_climb raw first last h =
    let c = cut h in
    let d = cut c.rest in
    let functions =
    first_climbs function_climbs alone (Some 256) tt no_names raw.functions first c.middle c.front in
    climbs_append first _ d.middle _ last
    (climbs_append first (flat_map function_lines raw.functions) c.middle _ d.middle functions
    (plan_climbs raw.plan c.middle d.middle d.front))
    (inputs_climb raw.inputs d.middle last d.rest)

-- the law that the lines of what bytes read as are in order
pub lines_in_order : (bytes : List ℕ) (raw : RawJob) → Reads bytes raw → IsInOrder raw
lines_in_order bytes raw reads =
    let (last, rise) = tokens_rise bytes reads.tokens reads.whole in
    let climbs = items_climb raw 1 last (record { tokens = reads.tokens; are = reads.spelled; rise = rise }) in
    record {
      from_one = climbs_from 1 (item_lines raw) last climbs;
      ascends = climbs_ascends 1 (item_lines raw) last climbs;
    }
