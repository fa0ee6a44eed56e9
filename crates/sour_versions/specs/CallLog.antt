-- What a run keeps of its calls, and what that says of each of them.
use Rattle.std.specs.Prelude.{◌≡◌, ◌&&◌, ℕ, zero, suc, List, [], ◌∷◌, nat_eq, nat_le, if◌then◌else◌}
use Rattle.sour_syntax.specs.declared.literal.FunId.{FunId}
use Rattle.sour_syntax.specs.Program.{ProgramView}
use Rattle.sour_semantics.specs.State.{BundleView}
use Rattle.sour_semantics.specs.Step.{Entry, text_version, bundle}
use Rattle.sour_semantics.specs.Agreement.{IsLawful}
use Rattle.sour_versions.specs.History.{Answers}

-- a call at which a run entered another version of a function than at its call before
pub record Switched : Type 0 where
  pub call : ℕ
  pub function : FunId
  pub number : ℕ

-- a bundle that a run entered, with its number among those of its function
pub record UsedVersion : Type 0 where
  pub function : FunId
  pub number : ℕ
  pub view : BundleView

-- what a run keeps of its calls; the switches stand in the order of the calls
pub record CallLog : Type 0 where
  pub switches : List Switched
  pub used : List UsedVersion

-- the number of the function's last switch at or before a call, and before the first a given one
abbrev pub number_at : ℕ → FunId → List Switched → ℕ → ℕ
number_at call f [] number = number
number_at call f (s ∷ switches) number =
    number_at call f switches (if nat_le s.call call && nat_eq s.function.0 f.0 then s.number else number)

-- the used version of the function that has this number, or the text version if none has
abbrev pub used_as : FunId → ℕ → List UsedVersion → Entry
used_as f number [] = text_version
used_as f number (u ∷ used) =
    if nat_eq u.function.0 f.0 && nat_eq u.number number then bundle u.view else used_as f number used

-- the version that has this number; the text version has the number 0
abbrev pub entry_used : FunId → List UsedVersion → ℕ → Entry
entry_used f used zero = text_version
entry_used f used (suc place) = used_as f (suc place) used

-- what each call was answered, by a log
abbrev pub by_log : CallLog → Answers
by_log log call f = record {
  function = f;
  number = number_at call f log.switches 0;
  entry = entry_used f log.used (number_at call f log.switches 0);
}

-- a used bundle is a lawful one of its function
pub record IsLawfulUse (program : ProgramView) (u : UsedVersion) : Type 0 where
  pub lawful : IsLawful program u.view
  pub own : u.view.function ≡ u.function
