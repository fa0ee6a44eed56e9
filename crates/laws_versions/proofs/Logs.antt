-- What a log keeps of each call is true.
use Rattle.std.proofs.Common.{◌≡◌, ◌≤◌, ◌<◌, ◌+◌, ◌++◌, ◌&&◌, ℕ, suc, Bool, true, false, cond, List, [], ◌∷◌}
use Rattle.std.proofs.Common.{length, nat_eq, nat_le, take, refl, sym, ap, subst, ◌∙◌, arith}
use Rattle.std.specs.List.{AllByRecursion}
use Rattle.std.specs.Cmp.Derive.{both_true}
use Rattle.std.proofs.lemmas.Bool.{eqb-true, eq-eqb, leb-true, le-leb}
use Rattle.sour_syntax.specs.declared.literal.FunId.{FunId}
use Rattle.sour_syntax.proofs.Everywhere.{AllByRecursion-weaker, AllByRecursion-append}
use Rattle.sour_semantics.specs.Step.{Entry}
use Rattle.sour_versions.specs.History.{History, number_of, active_of, TableRead, read_of, Extends}
use Rattle.sour_versions.specs.Fits.{FitsFrom}
use Rattle.sour_versions.specs.CallLog.{Switched, UsedVersion, CallLog, number_at, entry_used, by_log}
use Rattle.sour_versions.specs.Notes.{noted, log_from, empty_log, IsNoted, HasUsed, IsLog}
use Rattle.sour_versions.specs.GoesOn.{AnswerAlike}
use Rattle.laws_versions.specs.LogLaws.{NotesAreTrue}
use Rattle.sour_versions.proofs.Histories.{Extends-take, Extends-whole}
use Rattle.laws_versions.proofs.UsedVersions.{has-extended, found-noted, noted-stays, noted-active, has-active}

-- the last switch of some and of further ones
number_at-append : (call : ℕ) (f : FunId) (first second : List Switched) (number : ℕ)
    → number_at call f (first ++ second) number ≡ number_at call f second (number_at call f first number)
number_at-append call f [] second number = refl
number_at-append call f (s ∷ first) second number = number_at-append call f first second _

-- a switch at a later call doesn't matter
late-test : (s : Switched) (call : ℕ) (f : FunId) (number : ℕ) (b : Bool) → call < s.call → nat_le s.call call ≡ b
    → cond (b && nat_eq s.function.0 f.0) s.number number ≡ number
late-test s call f number true later test = absurd (omega (arith, later, leb-true s.call call test))
late-test s call f number false later test = refl

-- a switch of this function at this call does
now-test : (call : ℕ) (f : FunId) (number other : ℕ) → cond (nat_le call call && nat_eq f.0 f.0) number other ≡ number
now-test call f number other =
    let test : (nat_le call call && nat_eq f.0 f.0) ≡ true =
    both_true (le-leb call call (omega arith)) (eq-eqb f.0 f.0 refl) in
    ap (λ b. cond b number other) test

-- by the noted switches a call has its number, whether or not it was one
number-test : (call : ℕ) (f : FunId) (number : ℕ) (switches : List Switched) (b : Bool)
    → nat_eq number (number_at call f switches 0) ≡ b
    → number_at call f (cond b switches (switches ++ record { call = call; function = f; number = number } ∷ [])) 0
    ≡ number
number-test call f number switches true test = sym (eqb-true number (number_at call f switches 0) test)
number-test call f number switches false test =
    number_at-append call f switches _ 0 ∙ now-test call f number (number_at call f switches 0)

-- and calls before have the numbers that they had
earlier-cond : (call last : ℕ) (g f : FunId) (number : ℕ) (switches : List Switched) (b : Bool) → call < last
    → number_at call g (cond b switches (switches ++ record { call = last; function = f; number = number } ∷ [])) 0
    ≡ number_at call g switches 0
earlier-cond call last g f number switches true before = refl
earlier-cond call last g f number switches false before =
    number_at-append call g switches _ 0
    ∙ late-test (record { call = last; function = f; number = number }) call g (number_at call g switches 0)
    (nat_le last call) before refl

-- the number of a call is noted, whether or not the first switch gives it
noted-test : (f : FunId) (s : Switched) (number : ℕ) (used : List UsedVersion) (before own : Bool)
    → nat_eq s.function.0 f.0 ≡ own → IsNoted s.function s.number used → IsNoted f number used
    → IsNoted f (cond (before && own) s.number number) used
noted-test f s number used false own test switched noted = noted
noted-test f s number used true false test switched noted = noted
noted-test f s number used true true test switched noted =
    let numbered : ℕ → FunId = λ n. record { 0 = n } in
    let Noted : FunId → Type 0 = λ g. IsNoted g s.number used in
    subst Noted (ap numbered (eqb-true s.function.0 f.0 test)) switched

-- the number of each call is noted, if those of the switches are
noted-at : (call : ℕ) (f : FunId) (switches : List Switched) (number : ℕ) (used : List UsedVersion)
    → AllByRecursion (λ s. IsNoted s.function s.number used) switches → IsNoted f number used
    → IsNoted f (number_at call f switches number) used
noted-at call f [] number used all noted = noted
noted-at call f (s ∷ switches) number used all noted =
    noted-at call f switches _ used all.1
    (noted-test f s number used (nat_le s.call call) (nat_eq s.function.0 f.0) refl all.0 noted)

-- it holds of each switch, whether or not one more is put last
all-switches : (P : Switched → Type 0) (b : Bool) (switches : List Switched) (s : Switched) → AllByRecursion P switches
    → P s → AllByRecursion P (cond b switches (switches ++ s ∷ []))
all-switches P true switches s all last = all
all-switches P false switches s all last = AllByRecursion-append P switches (s ∷ []) all (last, tt)

module _ (early late : History) (log : CallLog) (calls : ℕ) (f : FunId) where
  -- the later history has what was used, once the call is noted
  has-after : HasUsed early log.used → Extends early late
      → HasUsed late (noted log (calls + 1) (read_of f late)).used
  has-after has extends = has-active late f log.used (has-extended early late log.used extends has)

  -- the log says what was answered
  pub says-after : IsLog calls log → HasUsed early log.used → Extends early late
      → by_log (noted log (calls + 1) (read_of f late)) (calls + 1) f ≡ read_of f late
  says-after is has extends =
      let used : List UsedVersion = (noted log (calls + 1) (read_of f late)).used in
      let same : Bool = nat_eq (number_of f late) (number_at (calls + 1) f log.switches 0) in
      let by_number : ℕ → TableRead = λ n. record { function = f; number = n; entry = entry_used f used n } in
      let by_entry : Entry → TableRead = λ entry. record { function = f; number = number_of f late; entry = entry } in
      ap by_number (number-test (calls + 1) f (number_of f late) log.switches same refl)
      ∙ ap by_entry (found-noted late f used (number_of f late) (has-after has extends) (noted-active late f log.used))

  -- and the same as before of the calls before
  pub keeps-after : IsLog calls log → HasUsed early log.used → Extends early late
      → AnswerAlike calls (by_log log) (by_log (noted log (calls + 1) (read_of f late)))
  keeps-after is has extends call g within =
      let used : List UsedVersion = (noted log (calls + 1) (read_of f late)).used in
      let number : ℕ = number_at call g log.switches 0 in
      let same : Bool = nat_eq (number_of f late) (number_at (calls + 1) f log.switches 0) in
      let before : call < calls + 1 = omega (arith, within) in
      let noted_before : IsNoted g number log.used = noted-at call g log.switches 0 log.used is.noted tt in
      let by_number : ℕ → TableRead = λ n. record { function = g; number = n; entry = entry_used g used n } in
      let by_entry : Entry → TableRead = λ entry. record { function = g; number = number; entry = entry } in
      ap by_entry (found-noted late g log.used number (has-extended early late log.used extends has) noted_before
      ∙ sym (found-noted late g used number (has-after has extends)
      (noted-stays g f number (number_of f late) (active_of f late) log.used noted_before)))
      ∙ sym (ap by_number (earlier-cond call (calls + 1) g f (number_of f late) log.switches same before))

  -- it is a log of one call more
  log-after : IsLog calls log → IsLog (calls + 1) (noted log (calls + 1) (read_of f late))
  log-after is =
      let used : List UsedVersion = (noted log (calls + 1) (read_of f late)).used in
      let same : Bool = nat_eq (number_of f late) (number_at (calls + 1) f log.switches 0) in
      let Earlier : Switched → Type 0 = λ s. s.call ≤ calls + 1 in
      let Noted : Switched → Type 0 = λ s. IsNoted s.function s.number used in
      record {
        earlier = all-switches Earlier same log.switches _
            (AllByRecursion-weaker (λ (s : Switched). s.call ≤ calls) Earlier (λ s le. omega (arith, le)) log.switches
            is.earlier)
            (omega arith);
        noted = all-switches Noted same log.switches _
            (AllByRecursion-weaker (λ (s : Switched). IsNoted s.function s.number log.used) Noted
            (λ s one. noted-stays s.function f s.number (number_of f late) (active_of f late) log.used one)
            log.switches is.noted)
            (noted-active late f log.used);
      }

-- what a log keeps is true
pub notes_are_true : NotesAreTrue
notes_are_true = record {
  says = says-after;
  keeps = keeps-after;
  is_log = λ late log calls f is. log-after late late log calls f is;
  has = λ early late log calls f has extends. has-after early late log calls f has extends;
}

-- a log is one of so many calls, and the history has what they used
pub record IsLogOver (history : History) (calls : ℕ) (log : CallLog) : Type 0 where
  pub is : IsLog calls log
  pub has : HasUsed history log.used

-- the log of no call is
pub empty-over : (history : History) → IsLogOver history 0 empty_log
empty-over history = record { is = record { earlier = tt; noted = tt }; has = tt }

-- so is a log after calls that fit the history
pub log-fits : (least : ℕ) (history : History) (log : CallLog) (calls : ℕ) (reads : List TableRead)
    → FitsFrom least history reads → IsLogOver (take least history) calls log
    → IsLogOver history (calls + length reads) (log_from log (calls + 1) reads)
log-fits least history log calls [] fits over =
    let Log : ℕ → Type 0 = λ n. IsLogOver history n log in
    let e : calls + 0 ≡ calls = omega arith in
    let front : History = take least history in
    let has : HasUsed history log.used = has-extended front history log.used (Extends-whole least history) over.has in
    subst Log (sym e) (record { is = over.is; has = has })
log-fits least history log calls (read ∷ reads) (seen, low, high, answered, rest) over =
    let now : History = take seen history in
    let f : FunId = read.function in
    let Log : ℕ → Type 0 = λ n. IsLogOver history n (log_from (noted log (calls + 1) read) (calls + 1 + 1) reads) in
    let e : calls + 1 + length reads ≡ calls + suc (length reads) = omega arith in
    let Over : TableRead → Type 0 = λ one. IsLogOver now (calls + 1) (noted log (calls + 1) one) in
    subst Log e (log-fits seen history (noted log (calls + 1) read) (calls + 1) reads rest
    (subst Over (sym answered) (record {
      is = log-after now now log calls f over.is;
      has = has-after (take least history) now log calls f over.has (Extends-take least seen history low);
    })))

-- a log of some calls and then of others
pub log_from-append : (log : CallLog) (call : ℕ) (first second : List TableRead)
    → log_from log call (first ++ second) ≡ log_from (log_from log call first) (call + length first) second
log_from-append log call [] second =
    let e : call + 0 ≡ call = omega arith in
    ap (λ n. log_from log n second) (sym e)
log_from-append log call (read ∷ first) second =
    let e : call + 1 + length first ≡ call + suc (length first) = omega arith in
    log_from-append (noted log call read) (call + 1) first second
    ∙ ap (λ n. log_from (log_from (noted log call read) (call + 1) first) n second) e
