-- A run of three calls, of which the last enters a bundle.
use Rattle.std.specs.Prelude.{◌≡◌, ℕ, List, [], ◌∷◌, Some, pos, codes}
use Rattle.sour_syntax.specs.declared.expression.Simple.TheVariants as simple
use Rattle.sour_syntax.specs.declared.expression.Expr.TheVariants as expr
use Rattle.sour_syntax.specs.declared.instruction.Instr.TheVariants.{Call, Return, Stop}
use Rattle.sour_syntax.specs.declared.instruction.Line.{Line}
use Rattle.sour_syntax.specs.declared.literal.FunId.{FunId}
use Rattle.sour_syntax.specs.declared.literal.Literal.TheVariants.{Number, Function}
use Rattle.sour_syntax.specs.BodyView.{BodyView}
use Rattle.sour_syntax.specs.Program.{ProgramView}
use Rattle.sour_semantics.specs.State.{stopped, BundleView}
use Rattle.sour_semantics.specs.Step.{text_version, bundle}
use Rattle.sour_versions.specs.History.{publish, TableRead}
use Rattle.sour_versions.specs.Fits.{Fits}
use Rattle.sour_versions.specs.VersionRun.{Counted, version_run, version_start, all_calls}
use Rattle.sour_versions.specs.CallLog.{CallLog, by_log}
use Rattle.sour_versions.specs.Notes.{log_from, empty_log}

-- the function that is called
abbrev pub callee : FunId
callee = record { 0 = 1 }

-- the function that calls it
abbrev pub main : FunId
main = record { 0 = 0 }

-- a line that calls it
abbrev pub calling : List ℕ → Line
calling label = record { label = label; instr = Call (record { 0 = 0 }) (simple.Lit (Function callee)) [] }

-- main calls it twice, and stops
abbrev pub main_body : BodyView
main_body = record {
  function = main;
  parameters = 0;
  variables = codes "x" ∷ [];
  lines = calling (codes "_0") ∷ calling (codes "_1") ∷ record { label = codes "_2"; instr = Stop } ∷ [];
}

-- the called function returns 7
abbrev pub callee_body : BodyView
callee_body = record {
  function = callee;
  parameters = 0;
  variables = [];
  lines = record { label = codes "_0"; instr = Return (expr.Plain (simple.Lit (Number (pos 7)))) } ∷ [];
}

-- both are a program
abbrev pub program : ProgramView
program = record {
  functions = record { name = codes "main"; versions = record { name = codes "v"; body = main_body } ∷ [] }
      ∷ record { name = codes "f"; versions = record { name = codes "v"; body = callee_body } ∷ [] } ∷ [];
  main = main;
}

-- the called function, as a bundle of one body
abbrev pub view : BundleView
view = record { function = callee; bodies = callee_body ∷ [] }

-- at call 3 a run enters that bundle, which was published as number 1
abbrev pub log : CallLog
log = record {
  switches = record { call = 3; function = callee; number = 1 } ∷ [];
  used = record { function = callee; number = 1; view = view } ∷ [];
}

-- the calls: main, the text version of the called function, and the bundle
abbrev pub calls : List TableRead
calls =
    record { function = main; number = 0; entry = text_version }
    ∷ record { function = callee; number = 0; entry = text_version }
    ∷ record { function = callee; number = 1; entry = bundle view } ∷ []

-- the moment after so many steps of a run by this log
abbrev pub after : ℕ → Counted
after steps = version_run program (by_log log) steps (version_start program [] (by_log log))

-- five steps make these calls, take four turns, two to call and two to return, and stop; the calls are noted so
pub record ExampleRuns : Type 0 where
  pub calls_are : all_calls program [] (by_log log) 5 ≡ calls
  pub counted : (after 5).calls ≡ 3
  pub turned : (after 5).state.turns ≡ 4
  pub ended : (after 5).state.ending ≡ Some stopped
  pub noted : log_from empty_log 1 calls ≡ log
  -- they fit a history in which the bundle was published between the second and the third
  pub fit : Fits (publish view ∷ []) calls
