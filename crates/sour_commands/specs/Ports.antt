-- What a call found at its ports and left there, as far as they tell it.
use Rattle.std.specs.Prelude.{ℕ, List, Option}

pub record SourceMoves : Type 0 where
  -- the bytes that were to come before the call
  pub left : Option (List ℕ)
  pub faults_before : ℕ
  pub faults_after : ℕ

pub record SinkMoves : Type 0 where
  pub taken_before : Option (List ℕ)
  pub taken_after : Option (List ℕ)
  pub faults_before : ℕ
  pub faults_after : ℕ

-- what a call did with a source that was this before it and is that after it
abbrev pub source_moves : {A : Type 0} → (A → Option (List ℕ)) → (A → ℕ) → A → A → SourceMoves
source_moves left faults before after =
    record { left = left before; faults_before = faults before; faults_after = faults after }

-- and with a sink
abbrev pub sink_moves : {A : Type 0} → (A → Option (List ℕ)) → (A → ℕ) → A → A → SinkMoves
sink_moves taken faults before after = record {
  taken_before = taken before;
  taken_after = taken after;
  faults_before = faults before;
  faults_after = faults after;
}
