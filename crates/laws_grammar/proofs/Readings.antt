-- What is read of a list of tokens: exactly what it spells, or its one fault.
use Rattle.std.proofs.Common.{◌≡◌, ◌↔◌, List, [], Ok, Err, sym, ap, subst, ◌∙◌, ◌⊎◌, inl, inr}
use Rattle.sour_lexer.specs.Placed.{Placed}
use Rattle.sour_raw.specs.declared.kind.Kind.{Kind}
use Rattle.sour_raw.specs.declared.raw.RawJob.{RawJob}
use Rattle.sour_raw.specs.Combinators.{Out}
use Rattle.sour_raw.specs.Grammar.{job}
use Rattle.sour_raw.specs.Productions.{job_at, whole_at}
use Rattle.sour_raw.specs.Reads.{ReadsTokens, HasFault}
use Rattle.laws_grammar.proofs.Same.{same_refl}
use Rattle.laws_grammar.proofs.Kit.{err_kind, within_limit}
use Rattle.laws_grammar.proofs.Unique.{fault_is_one}
use Rattle.laws_grammar.proofs.Whole.{Outcome, Whole, Fault, outcome, whole_again}
use Rattle.laws_grammar.proofs.Functions.{exact_whole}

-- the outcome of reading a list of tokens
abbrev RawOutcome : List Placed → Type 0
RawOutcome tokens = Outcome job whole_at tokens

-- each list of tokens has one
raw_outcome : (tokens : List Placed) → RawOutcome tokens
unfolding whole_at
raw_outcome tokens = outcome job_at exact_whole tokens

-- the raw job that is read, or else this one
read_or : RawJob → Out RawJob → RawJob
read_or other (Ok x) = x.0
read_or other (Err e) = other

-- the tokens that are left
left_of : Out RawJob → List Placed
left_of (Ok x) = x.1
left_of (Err e) = e.1

-- one raw job at most is read
read_same : (raw other : RawJob) (o : Out RawJob) → o ≡ Ok (raw, []) → o ≡ Ok (other, []) → raw ≡ other
unfolding read_or
read_same raw other o a b = ap (read_or raw) (sym a ∙ b)

-- what is spelled is read
pub read_back : (tokens : List Placed) (raw : RawJob) → ReadsTokens tokens raw → whole_at tokens ≡ Ok (raw, [])
read_back tokens raw s = whole_again exact_whole raw tokens s

-- one raw job at most is spelled
pub reads_once : (tokens : List Placed) (raw other : RawJob) → ReadsTokens tokens raw → ReadsTokens tokens other
    → raw ≡ other
reads_once tokens raw other a b =
    read_same raw other (whole_at tokens) (read_back tokens raw a) (read_back tokens other b)

-- one fault at most stands in a list of tokens
pub faults_once : (tokens : List Placed) (kind kind' : Kind) (rest rest' : List Placed) → HasFault tokens kind rest
    → HasFault tokens kind' rest'
    → (kind ≡ kind') × (rest ≡ rest')
faults_once tokens kind kind' rest rest' a b = fault_is_one job exact_whole.looser tokens kind kind' rest rest' a b

-- what is spelled has no fault
pub never_both : (tokens : List Placed) (raw : RawJob) (kind : Kind) (rest : List Placed) → ReadsTokens tokens raw
    → HasFault tokens kind rest → ⊥
never_both tokens raw kind rest s f =
    let a = f.reached in
    f.stops raw rest (same_refl a.spot.ahead rest)
    (subst (λ (w : List Placed). job kind raw w) a.whole (within_limit exact_whole.looser kind raw tokens s))

-- each list of tokens spells a raw job or has a fault
pub reads_or_faults : (tokens : List Placed)
    → ((raw : RawJob) × ReadsTokens tokens raw) ⊎ ((kind : Kind) × (rest : List Placed) × HasFault tokens kind rest)
reads_or_faults tokens = elim (raw_outcome tokens) [
  | Whole raw e s ↦ inl (raw, s)
  | Fault kind rest e s ↦ inr (kind, rest, s)
]

-- what is read is spelled, and no other
pub reads_exactly : (tokens : List Placed) (raw : RawJob) → ReadsTokens tokens raw ↔ (whole_at tokens ≡ Ok (raw, []))
reads_exactly tokens raw = (
  read_back tokens raw,
  λ e. elim (raw_outcome tokens) [
    | Whole other e' s ↦ subst (λ it. ReadsTokens tokens it) (read_same other raw (whole_at tokens) e' e) s
    | Fault kind rest e' s ↦ absurd cc
  ],
)

-- where reading stops is the fault, and nowhere else
pub faults_exactly : (tokens : List Placed) (kind : Kind) (rest : List Placed)
    → HasFault tokens kind rest ↔ (whole_at tokens ≡ Err (kind, rest))
unfolding left_of
faults_exactly tokens kind rest = (
  (λ f. elim (raw_outcome tokens) [
    | Whole raw e s ↦ absurd (never_both tokens raw kind rest s f)
    | Fault other left e s ↦ let one = faults_once tokens other kind left rest s f in
        e ∙ ap (λ (it : Kind). Err (it, left)) one.0 ∙ ap (λ (it : List Placed). Err (kind, it)) one.1
  ]),
  λ e. elim (raw_outcome tokens) [
    | Whole raw e' s ↦ absurd cc
    | Fault other left e' s ↦
        let same_left : left ≡ rest = ap left_of (sym e' ∙ e) in
        let same_kind : other ≡ kind = ap err_kind (sym e' ∙ e) in
        subst (λ (it : Kind). HasFault tokens it rest) same_kind
        (subst (λ (it : List Placed). HasFault tokens other it) same_left s)
  ],
)
