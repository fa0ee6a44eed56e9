-- How a run keeps its log, call by call.
use Rattle.std.specs.Prelude.{◌≡◌, ◌≤◌, ◌+◌, ℕ, zero, suc, List, [], ◌∷◌, ◌++◌, nat_eq, if◌then◌else◌}
use Rattle.std.specs.List.{AllByRecursion}
use Rattle.sour_syntax.specs.declared.literal.FunId.{FunId}
use Rattle.sour_semantics.specs.Step.{Entry, text_version, bundle}
use Rattle.sour_versions.specs.History.{History, bundles_of, entry_numbered, TableRead}
use Rattle.sour_versions.specs.CallLog.{Switched, UsedVersion, CallLog, number_at, used_as}

-- a used version is put last, unless one was found in its place
abbrev pub unless_used : Entry → UsedVersion → List UsedVersion → List UsedVersion
unless_used text_version u used = used ++ u ∷ []
unless_used (bundle view) u used = used

-- a made version that is entered is noted once
abbrev pub noted_use : Entry → FunId → ℕ → List UsedVersion → List UsedVersion
noted_use text_version f number used = used
noted_use (bundle view) f number used =
    unless_used (used_as f number used) (record { function = f; number = number; view = view }) used

-- a switch is noted if the number isn't that of the function's call before, which is 0 before its first
abbrev pub noted_switch : ℕ → FunId → ℕ → List Switched → List Switched
noted_switch call f number switches =
    if nat_eq number (number_at call f switches 0)
    then switches
    else switches ++ record { call = call; function = f; number = number } ∷ []

-- the log after a call with this number
abbrev pub noted : CallLog → ℕ → TableRead → CallLog
noted log call read = record {
  switches = noted_switch call read.function read.number log.switches;
  used = noted_use read.entry read.function read.number log.used;
}

-- the log after calls, the first of which has this number
abbrev pub log_from : CallLog → ℕ → List TableRead → CallLog
log_from log call [] = log
log_from log call (read ∷ reads) = log_from (noted log call read) (call + 1) reads

-- the log before the first call
abbrev pub empty_log : CallLog
empty_log = record { switches = []; used = [] }

-- a version was made
abbrev pub IsMade : Entry → Type 0
IsMade text_version = ⊥
IsMade (bundle view) = Unit {0}

-- the version with this number is among those that were used; the text version needs no note
abbrev pub IsNoted : FunId → ℕ → List UsedVersion → Type 0
IsNoted f zero used = Unit {0}
IsNoted f (suc place) used = IsMade (used_as f (suc place) used)

-- the history has each used version as its function's bundle of that number
abbrev pub HasUsed : History → List UsedVersion → Type 0
HasUsed history used =
    AllByRecursion (λ u. bundle u.view ≡ entry_numbered (bundles_of u.function history) u.number) used

-- a log of so many calls: each switch was at one of them, to a version that is noted
pub record IsLog (calls : ℕ) (log : CallLog) : Type 0 where
  pub earlier : AllByRecursion (λ s. s.call ≤ calls) log.switches
  pub noted : AllByRecursion (λ s. IsNoted s.function s.number log.used) log.switches
