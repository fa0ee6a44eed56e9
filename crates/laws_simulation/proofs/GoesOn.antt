-- How the frame that goes on or waits may stand.
use Rattle.std.proofs.Common.{◌≡◌, ℕ, List, [], ◌∷◌, Bool, Some, refl, sym, subst, Contains, arith}
use Rattle.sour_syntax.specs.declared.instruction.Instr.{Instr}
use Rattle.sour_syntax.specs.BodyView.{BodyView}
use Rattle.sour_syntax.specs.Program.{ProgramView}
use Rattle.sour_syntax.specs.Scopes.{following_labels}
use Rattle.sour_semantics.specs.State.{Frame}
use Rattle.laws_effects.specs.Effect.{World, Deed, goes, asks, gives, lands, finishes, effect}
use Rattle.laws_simulation.specs.Carries.{StandsBy, StandsAt, GoesOnAs}
use Rattle.laws_effects.specs.Onward.{IsDeedOf}
use Rattle.laws_effects.proofs.Onward.{effect-is}

-- of the frame that goes on or waits nothing has to be known
abbrev pub Any : Frame → Type 0
Any frame = Unit {0}

-- so it is known
pub any-goes-on : (frame : Frame) (deed : Deed) → GoesOnAs Any frame deed
any-goes-on frame (goes label environment world) = tt
any-goes-on frame (asks x f values next) = tt
any-goes-on frame (gives value) = tt
any-goes-on frame (lands frames) = tt
any-goes-on frame (finishes ending) = tt

-- it may stand in its code, if what is known of it says so
pub goes-on-so : (new : List BodyView) (Stands : ℕ → Frame → Type 0) (Fact : Frame → Type 0) (frame : Frame)
    (deed : Deed) → ((other : Frame) → Fact other → StandsBy new Stands frame.code other)
    → GoesOnAs Fact frame deed → GoesOnAs (StandsAt new Stands) frame deed
goes-on-so new Stands Fact frame (goes label environment world) so after =
    so (record frame { label = label; environment = environment }) after
goes-on-so new Stands Fact frame (asks x f values next) so after =
    so (record frame { label = next; waits = Some x.0 }) after
goes-on-so new Stands Fact frame (gives value) so after = tt
goes-on-so new Stands Fact frame (lands frames) so after = tt
goes-on-so new Stands Fact frame (finishes ending) so after = tt

-- it may stand in its code, if frames may stand there anyhow
pub goes-on-all : (new : List BodyView) (Stands : ℕ → Frame → Type 0) (frame : Frame) (deed : Deed)
    → ((other : Frame) → StandsBy new Stands frame.code other)
    → GoesOnAs (StandsAt new Stands) frame deed
goes-on-all new Stands frame deed all =
    goes-on-so new Stands Any frame deed (λ other any. all other) (any-goes-on frame deed)

-- it may stand in its code, if it may at each label that follows
pub goes-on-labels : (program : ProgramView) (new : List BodyView) (Stands : ℕ → Frame → Type 0) (frame : Frame)
    (world : World) (leaves : Bool) (instr : Instr) (next : List ℕ)
    → ((label : List ℕ) → Contains (following_labels instr next) label → (other : Frame) → other.label ≡ label
    → StandsBy new Stands frame.code other)
    → GoesOnAs (StandsAt new Stands) frame (effect program leaves frame world instr next).deed
goes-on-labels program new Stands frame world leaves instr next all =
    by-deed (effect program leaves frame world instr next).deed (effect-is program frame next world leaves instr).does
  where
    -- by what the instruction does
    by-deed : (deed : Deed) → IsDeedOf program frame world.heap instr next deed
        → GoesOnAs (StandsAt new Stands) frame deed
    by-deed (goes label environment after) is =
        all label is.0 (record frame { label = label; environment = environment }) refl
    by-deed (asks x f values label) is =
        let Follows : Instr → Type 0 = λ i. Contains (following_labels i next) label in
        let Next : List ℕ → Type 0 = λ l. Contains (next ∷ []) l in
        all label (subst Follows (sym is.2) (subst Next (sym is.3) (0, omega arith, refl)))
        (record frame { label = label; waits = Some x.0 }) refl
    by-deed (gives value) is = tt
    by-deed (lands frames) is = tt
    by-deed (finishes ending) is = tt
