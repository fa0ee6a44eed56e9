-- The shape of a bundle that is the first version of a function.
use Rattle.std.proofs.Common.{◌≡◌, ℕ, false, IsTrue, List, [], ◌∷◌, ◌++◌, Some, slice_get, refl, sym, ap, subst, ◌∙◌, arith}
use Rattle.std.specs.List.{AllByRecursion}
use Rattle.sour_syntax.specs.declared.instruction.Line.{Line}
use Rattle.sour_syntax.specs.declared.literal.FunId.{FunId}
use Rattle.sour_syntax.specs.declared.program.Version.{Version}
use Rattle.sour_syntax.specs.BodyView.{BodyView}
use Rattle.sour_syntax.specs.Program.{ProgramView, BeginsAsWord, IsUnqualifiedName, IsVersion}
use Rattle.sour_syntax.specs.Targets.{text_body}
use Rattle.sour_syntax.proofs.UnqualifiedNames.{unqualified_labels, unqualified_variables}
use Rattle.sour_semantics.specs.Step.{is_anchor}
use Rattle.sour_semantics.specs.Shape.{without_at, BeginsWith, IsAnchorInstr, IsCallOrReturn, HasMadeLabel, IsFreeFor, HasSomeScope, HasShape}
use Rattle.laws_agreement.specs.Laws.{TextAloneIsLawful}
use Rattle.sour_semantics.proofs.Anchors.{word-no_anchor}
use Rattle.laws_agreement.proofs.TextBodies.{IsVersionBody, IsVersionBody-program, word-without_at, whole-no_front}
use Rattle.laws_agreement.proofs.TextAlone.{text_alone_agrees}

-- lines with unqualified labels have labels that a made body may have
are-made_labels : (lines : List Line) → AllByRecursion (λ line. IsUnqualifiedName line.label) lines → AllByRecursion
    HasMadeLabel lines
are-made_labels [] unqualified = tt
are-made_labels (line ∷ lines) unqualified =
    let none : is_anchor line.label ≡ false = word-no_anchor line.label unqualified.0.begins in
    let no_anchor : IsTrue (is_anchor line.label) → IsAnchorInstr line.instr = λ anchor. absurd (cc) in (
      record {
        begins = subst BeginsAsWord (sym (word-without_at line.label unqualified.0.begins))
            unqualified.0.begins;
        anchor = no_anchor;
      },
      are-made_labels lines unqualified.1,
    )

-- none of them begins with a label and `/`
labels-free : (label : List ℕ) (lines : List Line) → AllByRecursion (λ line. IsUnqualifiedName line.label) lines
    → AllByRecursion (λ line. ¬ BeginsWith (label ++ 47 ∷ []) (without_at line.label)) lines
labels-free label [] unqualified = tt
labels-free label (line ∷ lines) unqualified =
    let Free : List ℕ → Type 0 = λ name. ¬ BeginsWith (label ++ 47 ∷ []) name in (
      subst Free (sym (word-without_at line.label unqualified.0.begins))
          (whole-no_front line.label label unqualified.0.whole),
      labels-free label lines unqualified.1,
    )

-- nor does an unqualified name
names-free : (label : List ℕ) (names : List (List ℕ)) → AllByRecursion IsUnqualifiedName names → AllByRecursion
    (λ name. ¬ BeginsWith (label ++ 47 ∷ []) name) names
names-free label [] unqualified = tt
names-free label (name ∷ names) unqualified =
    (whole-no_front name label unqualified.0.whole, names-free label names unqualified.1)

-- so the body is free for each of its lines
each-free : (body : BodyView) (lines : List Line) → AllByRecursion (λ line. IsUnqualifiedName line.label) body.lines
    → AllByRecursion IsUnqualifiedName body.variables
    → AllByRecursion (λ line. IsCallOrReturn line.instr → IsFreeFor body line.label) lines
each-free body [] labels names = tt
each-free body (line ∷ lines) labels names = (
  (λ crosses. record { labels = labels-free line.label body.lines labels; variables = names-free line.label body.variables names }),
  each-free body lines labels names,
)

-- the body of the first version of a function is a bundle of that function
HasShape-version : (program : ProgramView) (f : FunId) (parameters : List (List ℕ)) (version : Version)
    → IsVersion program.functions f.0 parameters version → text_body (slice_get program.functions f.0) 0 ≡ Some version.body
    → AllByRecursion (λ line. HasSomeScope version.body line.label) version.body.lines
    → HasShape program (record { function = f; bodies = version.body ∷ [] })
HasShape-version program f parameters version is found scoped =
    let numbered : ℕ → FunId = λ n. record { 0 = n } in
    let own : version.body.function ≡ f = ap numbered is.numbered in
    let labels : AllByRecursion (λ (line : Line). IsUnqualifiedName line.label) version.body.lines =
    unqualified_labels program.functions f.0 parameters version is in
    record {
      each = (
        record {
          is = is.body;
          takes = record {
            text = version.body;
            found = ap (λ n. text_body (slice_get program.functions n) 0) is.numbered ∙ found;
            count = refl;
            names = refl;
          };
          differ = is.differ;
          literals = is.literals;
          scoped = scoped;
          labels = are-made_labels version.body.lines labels;
          free = each-free version.body version.body.lines labels
              (unqualified_variables program.functions f.0 parameters version is);
          exits = is.exits;
          lines = is.lines;
          few_variables = is.few_variables;
          instrs = is.instrs;
        },
        tt,
      );
      few = omega arith;
      top = version.body;
      last = refl;
      own = own;
    }

-- such a bundle is lawful where a path leads to each line
pub text_alone_is_lawful : TextAloneIsLawful
text_alone_is_lawful program f body checked found scoped =
    let of : IsVersionBody program.functions f.0 body = IsVersionBody-program program f 0 body checked found in
    let Scoped : BodyView → Type 0 = λ b. AllByRecursion (λ line. HasSomeScope b line.label) b.lines in
    let Found : BodyView → Type 0 = λ b. text_body (slice_get program.functions f.0) 0 ≡ Some b in
    let Shape : BodyView → Type 0 = λ b. HasShape program (record { function = f; bodies = b ∷ [] }) in
    record {
      shape = subst Shape of.same
          (HasShape-version program f of.parameters of.version of.is (subst Found (sym of.same) found) (subst Scoped (sym of.same) scoped));
      agrees = λ values heap rest output may. text_alone_agrees program f body checked found values heap rest output;
    }
