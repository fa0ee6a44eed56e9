-- A body of a bundle, by what holds of its lines.
use Rattle.std.proofs.Common.{◌≡◌, ◌≤◌, ℕ, List, ◌∷◌, sym, ap, subst, ◌∙◌, length}
use Rattle.std.specs.List.{AllByRecursion}
use Rattle.sour_syntax.specs.declared.instruction.Line.{Line}
use Rattle.sour_syntax.specs.BodyView.{BodyView}
use Rattle.sour_syntax.specs.Labels.{LabelsDiffer, from_label}
use Rattle.sour_syntax.specs.Program.{ProgramView}
use Rattle.sour_syntax.specs.Scopes.{Scope, HasScope}
use Rattle.sour_syntax.proofs.Everywhere.{AllByRecursion-weaker}
use Rattle.sour_syntax.proofs.NoExits.{All-from_label, label-from_label}
use Rattle.sour_semantics.specs.Shape.{HasSomeScope, IsMadeBody}
use Rattle.laws_simulation.proofs.FoundLines.{from_label-found}
use Rattle.laws_shape.specs.MadeLines.{IsMadeLine, IsLined}
use Rattle.laws_shape.proofs.Between.{each-between, all-between}

module _ (program : ProgramView) (earlier : List BodyView) (body : BodyView) where
  -- a part of what holds of each line
  part : (P : Line → Type 0) → ((line : Line) → IsMadeLine program earlier body line → P line)
      → AllByRecursion (IsMadeLine program earlier body) body.lines → AllByRecursion P body.lines
  part P takes all = AllByRecursion-weaker (IsMadeLine program earlier body) P takes body.lines all

  -- what holds of the line at a label
  at-label : AllByRecursion (IsMadeLine program earlier body) body.lines
      → (label : List ℕ) (line : Line) (rest : List Line) → from_label label body.lines ≡ line ∷ rest
      → IsMadeLine program earlier body line
  at-label all label line rest stands =
      All-from_label (IsMadeLine program earlier body) label body.lines line rest all stands

  -- a body is one of a bundle if its lines are
  pub made-of-lines : IsLined program earlier body → AllByRecursion (λ line. HasSomeScope body line.label) body.lines
      → length body.lines ≤ 4096 → IsMadeBody program earlier body
  made-of-lines is scoped few =
      let Path : (ℕ → List ℕ → Scope → Type 0) = HasScope body in
      record {
        is = record {
          parameters = is.parameters;
          labels = is.labels;
          end = is.end;
          jumps = part _ (λ line it. it.jumps) is.each;
          mentions = part _ (λ line it. it.mentions) is.each;
          scopes = record {
            one = is.one;
            fine = λ count label scope line rest path stands.
                let At : List ℕ → Type 0 = λ name. HasScope body count name scope in
                (at-label is.each label line rest stands.stands).fine count scope
                (subst At (sym (label-from_label label body.lines line rest stands.stands)) path);
          };
        };
        takes = is.takes;
        differ = is.differ;
        literals = part _ (λ line it. it.literals) is.each;
        scoped = scoped;
        labels = part _ (λ line it. it.label) is.each;
        free = part _ (λ line it. it.free) is.each;
        exits = record {
          named = part _ (λ line it. it.named) is.each;
          land = λ count label scope line rest path stands.
              let At : List ℕ → Type 0 = λ name. HasScope body count name scope in
              (at-label is.each label line rest stands.stands).land count scope
              (subst At (sym (label-from_label label body.lines line rest stands.stands)) path);
        };
        lines = few;
        few_variables = is.few_variables;
        instrs = part _ (λ line it. it.short) is.each;
      }

  -- the lines of a body of a bundle are lines of one
  pub lines-of-made : IsMadeBody program earlier body → IsLined program earlier body
  lines-of-made is = record {
    parameters = is.is.parameters;
    labels = is.is.labels;
    end = is.is.end;
    one = is.is.scopes.one;
    takes = is.takes;
    differ = is.differ;
    few_variables = is.few_variables;
    each = each-between (IsMadeLine program earlier body) body.lines (λ before line after whole.
        let stands : from_label line.label body.lines ≡ line ∷ after =
        ap (from_label line.label) whole ∙ from_label-found before line after (subst LabelsDiffer whole is.is.labels) in
        record {
          jumps = all-between _ body.lines before line after whole is.is.jumps;
          mentions = all-between _ body.lines before line after whole is.is.mentions;
          literals = all-between _ body.lines before line after whole is.literals;
          label = all-between _ body.lines before line after whole is.labels;
          free = all-between _ body.lines before line after whole is.free;
          named = all-between _ body.lines before line after whole is.exits.named;
          short = all-between _ body.lines before line after whole is.instrs;
          fine =
              λ count scope path. is.is.scopes.fine count line.label scope line after path (record { stands = stands });
          land = λ count scope path. is.exits.land count line.label scope line after path (record { stands = stands });
        });
  }
