-- Bodies under other numbers run as they did.
use Rattle.std.proofs.Common.{◌≡◌, ℕ, Option, List, [], ◌∷◌, length, map, refl, sym, subst}
use Rattle.std.specs.List.{AllByRecursion}
use Rattle.std.proofs.lemmas.List.{map-id}
use Rattle.sour_syntax.specs.declared.exit.Code.{Code}
use Rattle.sour_syntax.specs.declared.exit.Code.TheVariants.{Text, Made}
use Rattle.sour_syntax.specs.declared.expression.Expr.{Expr}
use Rattle.sour_syntax.specs.declared.instruction.Instr.{Instr}
use Rattle.sour_syntax.specs.BodyView.{BodyView}
use Rattle.sour_syntax.specs.Exits.{Continuation, continuations, continuations_of}
use Rattle.sour_syntax.specs.Program.{ProgramView}
use Rattle.sour_semantics.specs.State.{Environment, Frame, FrameCode, made}
use Rattle.sour_semantics.specs.Step.{body_of, exit_code}
use Rattle.laws_renaming.specs.Mapping.{mapped_continuation}
use Rattle.laws_renaming.proofs.Expressions.{continuations-mapped}
use Rattle.laws_simulation.specs.Carry.{Carrying, back_code, back_label, IsCarried, LandsAlike, AllLandAlike}
use Rattle.laws_simulation.specs.Renumbered.{renumbered_code, renumbered_exit, renumbered, StandsUnder, CodeStands, RenumberedIsCarried}
use Rattle.laws_simulation.proofs.Instructions.{assume-cases}
use Rattle.laws_simulation.proofs.Landed.{alike_lands_back, carried-stays}

module _ (program : ProgramView) (by : Carrying) (news olds : List BodyView) (numbers : ℕ → ℕ) (new old : ℕ)
    (own : StandsUnder program by news new (made olds old)) where
  -- the code to which a renumbered code leads
  abbrev there : Code → FrameCode
  there code = exit_code (made news new) (renumbered_code numbers code)

  -- it stands for the one to which the old code leads, label by label, and has as many variables
  record LeadsAlike (code : Code) : Type 0 where
    pub code_is : exit_code (by.codes new) code ≡ back_code by (there code)
    pub label_is : (label : List ℕ) → label ≡ back_label by (there code) label
    pub rows : length (body_of program (back_code by (there code))).variables
        ≡ length (body_of program (there code)).variables

  -- so it does if the code stands
  leads-alike : (code : Code) → CodeStands program by news olds numbers code → LeadsAlike code
  leads-alike (Text f version) stands = record { code_is = refl; label_is = λ label. refl; rows = refl }
  leads-alike (Made number) stands = record {
    code_is = subst (λ code. exit_code code (Made number) ≡ by.codes (numbers number)) (sym own.code) (sym stands.code);
    label_is = λ label. sym (stands.labels label);
    rows = stands.rows;
  }

  abbrev renumbered_continuation : Continuation → Continuation
  renumbered_continuation = mapped_continuation (renumbered_code numbers) (λ (e : Expr). e)

  -- a renumbered continuation lands alike
  lands-alike : (c : Continuation) → CodeStands program by news olds numbers c.target.code
      → LandsAlike program by (made news new) (renumbered_continuation c) c
  lands-alike c stands =
      let leads : LeadsAlike c.target.code = leads-alike c.target.code stands in
      record {
        binds = sym (map-id c.binds);
        waits = refl;
        code_is = leads.code_is;
        label_is = leads.label_is c.target.label;
        rows = leads.rows;
      }

  -- so do all
  all-alike : (cs : List Continuation)
      → AllByRecursion (λ c. CodeStands program by news olds numbers c.target.code) cs
      → AllLandAlike program by (made news new) (map renumbered_continuation cs) cs
  all-alike [] stand = tt
  all-alike (c ∷ cs) stand = (lands-alike c stand.0, all-alike cs stand.1)

  -- the instruction of a frame that runs the renumbered body
  renumbered-carried : (label : List ℕ) (row : Environment) (waits : Option ℕ) (instr : Instr)
      → AllByRecursion (λ c. CodeStands program by news olds numbers c.target.code) (continuations_of instr)
      → IsCarried program by (record { code = made news new; label = label; environment = row; waits = waits })
      (renumbered numbers instr) instr
  renumbered-carried label row waits instr stand =
      let frame : Frame = record { code = made news new; label = label; environment = row; waits = waits } in
      let Stand : List Continuation → Type 0 =
      AllByRecursion (λ c. CodeStands program by news olds numbers c.target.code) in
      assume-cases (λ other one. Stand (continuations_of other) → IsCarried program by frame one other)
      (λ es. es) (renumbered_exit numbers)
      (λ other none stand. carried-stays program by frame other own.labels
      (subst (λ cs. AllLandAlike program by (made news new) cs cs) (sym none) tt))
      (λ es exit stand. (
        exit,
        refl,
        alike_lands_back program by frame (renumbered_exit numbers exit) exit
            (subst (λ cs. AllLandAlike program by (made news new) cs (continuations exit))
            (sym (continuations-mapped (λ (e : Expr). e) (renumbered_code numbers) exit))
            (all-alike (continuations exit) stand)),
      )) instr stand

-- a renumbered instruction is carried
pub renumbered_is_carried : RenumberedIsCarried
renumbered_is_carried program by news olds numbers new old frame instr is own stand =
    subst (λ code. IsCarried program by (record frame { code = code }) (renumbered numbers instr) instr) (sym is)
    (renumbered-carried program by news olds numbers new old own frame.label frame.environment frame.waits instr stand)
