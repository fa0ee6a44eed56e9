-- An instruction that passes change: an assume, or where a jump goes.
use Rattle.std.specs.Prelude.{ℕ, List, if◌then◌else◌}
use Rattle.std.specs.Str.{bytes_eq}
use Rattle.sour_syntax.specs.declared.exit.Exit.{Exit}
use Rattle.sour_syntax.specs.declared.expression.Expr.{Expr}
use Rattle.sour_syntax.specs.declared.instruction.Instr.{Instr}
use Rattle.laws_renaming.specs.Mapping.{mapped, same}

-- the instruction, with other predicates and another exit if it is an assume
abbrev pub with_assume : (List Expr → List Expr) → (Exit → Exit) → Instr → Instr
with_assume predicates exits = mapped (record same { predicates = predicates; exits = exits })

-- the instruction, with other labels if it is a jump
abbrev pub with_jumps : (List ℕ → List ℕ) → Instr → Instr
with_jumps labels = mapped (record same { labels = labels })

-- the instruction of the line with one label is changed, and that of any other stays
abbrev pub changed_at : List ℕ → (Instr → Instr) → List ℕ → Instr → Instr
changed_at at change label instr = if bytes_eq label at then change instr else instr
