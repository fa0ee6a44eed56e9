-- What the bytes read as, by what is read of their tokens.
use Rattle.std.proofs.Common.{◌≡◌, ◌↔◌, ℕ, List, [], Ok, Err, refl, sym, ap, subst, ◌∙◌}
use Rattle.sour_lexer.specs.Placed.{Placed}
use Rattle.sour_lexer.specs.TokensOf.{HasTokens, text_end}
use Rattle.sour_raw.specs.declared.kind.Kind.{Kind}
use Rattle.sour_raw.specs.declared.raw.RawJob.{RawJob}
use Rattle.sour_raw.specs.Combinators.{Out}
use Rattle.sour_raw.specs.Productions.{whole_at}
use Rattle.sour_raw.specs.Reads.{ReadsTokens, Reads, IsFirstFault, fault_number, place_of}
use Rattle.laws_grammar.proofs.Readings.{reads_exactly, faults_exactly}

-- the value that is read, or another where there is none
value : RawJob → Out RawJob → RawJob
value other (Ok x) = x.0
value other (Err e) = other

-- two values that are read are one
one_value : (a b : RawJob) (read : Out RawJob) → read ≡ Ok (a, []) → read ≡ Ok (b, []) → a ≡ b
unfolding value
one_value a b read ra rb = ap (value a) (sym ra ∙ rb)

module _ (bytes : List ℕ) (tokens : List Placed) (exact : (other : List Placed) → HasTokens bytes other ↔ (other ≡ tokens)) where
  -- the bytes have the tokens
  has : HasTokens bytes tokens
  has = (exact tokens).1 refl

  -- what is read of the tokens is what the bytes read as, and nothing else
  pub is_found : (job : RawJob) → whole_at tokens ≡ Ok (job, []) → (other : RawJob) → Reads bytes other ↔ (other ≡ job)
  is_found job read other = (
    λ r. let spelled : ReadsTokens tokens other = subst (λ ts. ReadsTokens ts other) ((exact r.tokens).0 r.whole) r.spelled in
        one_value other job (whole_at tokens) ((reads_exactly tokens other).0 spelled) read,
    λ e. record {
      tokens = tokens;
      whole = has;
      spelled = (reads_exactly tokens other).1 (read ∙ ap (λ (it : RawJob). Ok (it, [])) (sym e));
    },
  )

  -- where reading the tokens stops is the first fault of the bytes
  pub is_fault : (kind : Kind) (rest : List Placed) → whole_at tokens ≡ Err (kind, rest) → (number line column : ℕ)
      → number ≡ fault_number kind rest → record { line = line; column = column } ≡ place_of (text_end bytes) rest → IsFirstFault bytes number line column
  is_fault kind rest read number line column n p = record {
    tokens = tokens;
    whole = has;
    kind = kind;
    rest = rest;
    fault = (faults_exactly tokens kind rest).1 read;
    told = n;
    place = p;
  }
