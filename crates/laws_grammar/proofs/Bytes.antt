-- What texts read as, and their faults, by their tokens.
use Rattle.std.proofs.Common.{inl, inr, ◌≡◌, ℕ, List, refl, sym, ap, subst, ◌∙◌}
use Rattle.sour_lexer.specs.Placed.{Placed}
use Rattle.sour_lexer.specs.TokensOf.{HasTokens, Position, text_end}
use Rattle.sour_lexer.proofs.OneList.{one_list}
use Rattle.sour_raw.specs.declared.kind.Kind.{Kind}
use Rattle.sour_raw.specs.declared.raw.RawJob.{RawJob}
use Rattle.sour_raw.specs.Reads.{ReadsTokens, HasFault, Reads, fault_number, place_of}
use Rattle.laws_grammar.specs.Laws.{ReadsOnce, FaultsOnce, NeverBoth, ReadsOrFaults, ReadsExactly}
use Rattle.sour_lexer.proofs.SomeList.{some_tokens}
use Rattle.laws_grammar.proofs.Readings.{reads_or_faults, reads_once, faults_once, never_both, reads_exactly, faults_exactly}

-- what one list of tokens of a text reads as, another does
same_reads : (bytes : List ℕ) (tokens : List Placed) (raw : RawJob) → HasTokens bytes tokens → Reads bytes raw
    → ReadsTokens tokens raw
same_reads bytes tokens raw has reads =
    subst (λ (it : List Placed). ReadsTokens it raw) (one_list bytes reads.tokens tokens reads.whole has) reads.spelled

-- the law that a text reads as one raw job at most
pub bytes_read_once : ReadsOnce
bytes_read_once bytes raw other a b = reads_once b.tokens raw other (same_reads bytes b.tokens raw b.whole a) b.spelled

-- the law that it has one first fault at most
pub bytes_fault_once : FaultsOnce
bytes_fault_once bytes number line column number' line' column' a b =
    let same : a.tokens ≡ b.tokens = one_list bytes a.tokens b.tokens a.whole b.whole in
    let one = faults_once b.tokens a.kind b.kind a.rest b.rest
    (subst (λ (it : List Placed). HasFault it a.kind a.rest) same a.fault) b.fault in
    let at : place_of (text_end bytes) a.rest ≡ place_of (text_end bytes) b.rest =
    ap (place_of (text_end bytes)) one.1 in
    let place : record { line = line; column = column } ≡ record { line = line'; column = column' } =
    a.place ∙ at ∙ sym b.place in (
      a.told ∙ ap (λ (it : Kind). fault_number it a.rest) one.0 ∙ ap (fault_number b.kind) one.1 ∙ sym b.told,
      ap (λ (it : Position). it.line) place,
      ap (λ (it : Position). it.column) place,
    )

-- the law that it never reads and has a fault
pub bytes_never_both : NeverBoth
bytes_never_both bytes raw number line column reads fault =
    never_both fault.tokens raw fault.kind fault.rest (same_reads bytes fault.tokens raw fault.whole reads) fault.fault

-- the law that it reads or has a fault
pub bytes_read_or_fault : ReadsOrFaults
bytes_read_or_fault bytes =
    let some = some_tokens bytes in
    elim (reads_or_faults some.0) [
      | inl read ↦ inl (read.0, record { tokens = some.0; whole = some.1; spelled = read.1 })
      | inr fault ↦
          let place = place_of (text_end bytes) fault.1 in
          inr (
            fault_number fault.0 fault.1,
            place.line,
            place.column,
            record {
              tokens = some.0;
              whole = some.1;
              kind = fault.0;
              rest = fault.1;
              fault = fault.2;
              told = refl;
              place = refl;
            },
          )
    ]

-- the law of the reading
pub tokens_read_exactly : ReadsExactly
tokens_read_exactly = (reads_exactly, faults_exactly)
