-- Tables keep the active versions.
use Rattle.std.proofs.Common.{◌≡◌, ◌≤◌, ◌<◌, ◌++◌, ◌∷◌, ℕ, suc, false, cond, List, [], Option, None, Some, length, map, nat_eq, slice_get, get_or, inl, inr, refl, sym, ap, subst, ◌∙◌, arith}
use Rattle.std.specs.Prelude.{IfSome, MatchOption, IsSomeAnd, slice_set}
use Rattle.std.specs.List.{AllZip}
use Rattle.std.proofs.lemmas.Slice.Zip.{AllZip-long, AllZip-right}
use Rattle.std.proofs.lemmas.Bool.{cases_Bool, eqb-true, eqb-false, eq-eqb}
use Rattle.std.proofs.lemmas.List.{map-append, length_push, length-map, length-set}
use Rattle.std.proofs.lemmas.Option.{none-some, same_Some, slice_get_read}
use Rattle.sour_syntax.specs.declared.literal.FunId.{FunId}
use Rattle.sour_syntax.specs.Program.{ProgramView}
use Rattle.sour_syntax.proofs.Everywhere.{all_push}
use Rattle.sour_syntax.proofs.PlaceLists.{set_cases, set_here}
use Rattle.sour_semantics.specs.State.{BundleView}
use Rattle.sour_semantics.specs.Step as step
use Rattle.sour_semantics.specs.Agreement.{IsLawful}
use Rattle.sour_bundle.specs.declared.entry.Entry.{Entry}
use Rattle.sour_bundle.specs.Entry.{entry_of, bundle_of}
use Rattle.sour_bundle.proofs.Entries.{same_entry, text_entry}
use Rattle.sour_versions.specs.History as history
use Rattle.sour_versions.specs.History.{History, publish, bundles_of, number_of, entry_numbered, TableRead, read_of, IsEntryOf, IsHistoryOf}
use Rattle.sour_versions.proofs.Histories.{bundles-publish, numbered-last, number-few}
use Rattle.sour_table.specs.declared.active.Active.{Active}
use Rattle.sour_table.specs.declared.history_entry.HistoryEntry.{HistoryEntry}
use Rattle.sour_table.specs.Reader.{IsOfProgram, answered}
use Rattle.sour_table.specs.Table.{TableView, published, table_view, IsActive, IsTable}

module _ (program : ProgramView) (before : History) (view : BundleView) where
  -- a published bundle is the active version of its function
  published-own : (old new : Active) → IsActive program before view.function old → new.number ≡ suc old.number
      → entry_of new.entry ≡ step.bundle view → IsOfProgram program new.entry
      → IsActive program (before ++ publish view ∷ []) view.function new
  published-own old new was next entry own =
      let earlier : List BundleView = bundles_of view.function before in
      let views : bundles_of view.function (before ++ publish view ∷ []) ≡ earlier ++ view ∷ [] =
      bundles-publish view.function before view
      ∙ ap (λ b. cond b (earlier ++ view ∷ []) earlier) (eq-eqb view.function.0 view.function.0 refl) in
      record {
        number = omega (arith, was.number, next, ap length views, length_push earlier view);
        entry = entry
            ∙ sym (ap (λ (all : List BundleView). entry_numbered all (length all)) views ∙ numbered-last earlier view);
        own = own;
      }

  -- and the active versions of other functions stay
  published-other : (f : FunId) (kept : Active) → nat_eq view.function.0 f.0 ≡ false → IsActive program before f kept
      → IsActive program (before ++ publish view ∷ []) f kept
  published-other f kept test was =
      let views : bundles_of f (before ++ publish view ∷ []) ≡ bundles_of f before =
      bundles-publish f before view ∙ ap (λ b. cond b (bundles_of f before ++ view ∷ []) (bundles_of f before)) test in
      record {
        number = was.number ∙ sym (ap length views);
        entry = was.entry ∙ sym (ap (λ (all : List BundleView). entry_numbered all (length all)) views);
        own = was.own;
      }

module _ (program : ProgramView) (entries : List HistoryEntry) (active : List Active)
    (is : IsTable program entries active) (f : FunId) (kept : Active)
    (within : f.0 < length program.functions) (at : kept ≡ get_or active f.0 kept) where
  -- what stands at the place of a function is its active version
  pub active_there : IsActive program (map published entries) f kept
  active_there = is.each f kept (slice_get_read active (length program.functions) f.0 kept (sym is.count) within at)

  -- whose number is no greater than the number of entries
  pub number_within : kept.number ≤ length entries
  number_within =
      omega (arith, active_there.number, number-few f (map published entries), length-map entries published)

-- so it is for the table as contracts see it
pub active_now : (program : ProgramView) (entries : List HistoryEntry) (active : List Active) (reads : ℕ)
    (table : TableView) → table_view program entries reads ≡ table → IsTable program entries active → (f : FunId)
    (kept : Active) → f.0 < length table.program.functions → kept ≡ get_or active f.0 kept
    → IsActive table.program table.history f kept
active_now program entries active reads table same is f kept within at =
    let within_own : f.0 < length program.functions =
    subst (λ (one : TableView). f.0 < length one.program.functions) (sym same) within in
    subst (λ (one : TableView). IsActive one.program one.history f kept) same
    (active_there program entries active is f kept within_own at)

-- a copy of the active version is what a table answers
pub active_answers : (program : ProgramView) (history : History) (f : FunId) (kept : Active) (entry : Entry)
    → IsActive program history f kept → bundle_of entry ≡ bundle_of kept.entry
    → answered f (kept.number, entry) ≡ read_of f history
active_answers program history f kept entry is same =
    let read : ℕ → step.Entry → TableRead = λ number one. record { function = f; number = number; entry = one } in
    ap (λ (number : ℕ). read number (entry_of entry)) is.number
    ∙ ap (read (number_of f history)) (same_entry kept.entry entry same ∙ is.entry)

-- which is the text version where nothing is published for the function
pub active_text : (program : ProgramView) (history : History) (f : FunId) (kept : Active)
    → IsActive program history f kept → number_of f history ≡ 0 → bundle_of kept.entry ≡ None
active_text program history f kept is none =
    text_entry kept.entry (is.entry ∙ ap (entry_numbered (bundles_of f history)) none)

-- when a bundle is published for its function, another version is kept for that function
module _ (program : ProgramView) (entries : List HistoryEntry) (active : List Active)
    (is : IsTable program entries active)
    (entry : HistoryEntry) (view : BundleView) (f : FunId) (old new : Active)
    (of_view : published entry ≡ publish view) (function : f ≡ view.function)
    (within : f.0 < length program.functions) (at : old ≡ get_or active f.0 old)
    (next : new.number ≡ suc old.number) (made : entry_of new.entry ≡ step.bundle view)
    (own : IsOfProgram program new.entry) where
  published-history : map published (entries ++ entry ∷ []) ≡ map published entries ++ publish view ∷ []
  published-history =
      map-append published entries (entry ∷ [])
      ∙ ap (λ (one : history.HistoryEntry). map published entries ++ one ∷ []) of_view

  -- the one that is kept for the function of the bundle is the active one
  pub published_active : IsActive program (map published (entries ++ entry ∷ [])) f new
  published_active =
      let before : History = map published entries in
      let was : IsActive program before view.function old =
      subst (λ (g : FunId). IsActive program before g old) function
      (active_there program entries active is f old within at) in
      subst (λ (all : History). IsActive program all f new) (sym published-history)
      (subst (λ (g : FunId). IsActive program (before ++ publish view ∷ []) g new) (sym function)
      (published-own program before view old new was next made own))

  -- and so are those of other functions
  published-each : (g : FunId) (kept : Active) → slice_get (slice_set active f.0 new) g.0 ≡ Some kept
      → IsActive program (map published (entries ++ entry ∷ [])) g kept
  published-each g kept found =
      let later : History = map published (entries ++ entry ∷ []) in
      let numbered : ℕ → FunId = λ n. record { 0 = n } in
      let place : f.0 < length active = omega (arith, within, is.count) in
      let Kept : ℕ → Option Active → Type 0 =
      λ n some. nat_eq f.0 n ≡ false → (other : Active) → some ≡ Some other
      → IsActive program later (numbered n) other
      in
      elim (cases_Bool (nat_eq f.0 g.0)) [
        | inl same ↦
            let one : f ≡ g = ap numbered (eqb-true f.0 g.0 same) in
            let it : new ≡ kept =
            same_Some new kept
            (sym (set_here active f.0 new place)
            ∙ ap (λ (h : FunId). slice_get (slice_set active f.0 new) h.0) one ∙ found) in
            subst (IsActive program later g) it
            (subst (λ (h : FunId). IsActive program later h new) one published_active)
        | inr differs ↦
            set_cases Kept active f.0 new place (λ other. absurd (eqb-false f.0 f.0 other refl))
            (λ n other one some.
            subst (λ (all : History). IsActive program all (numbered n) one) (sym published-history)
            (published-other program (map published entries) view (numbered n) one
            (ap (λ (h : FunId). nat_eq h.0 n) (sym function) ∙ other) (is.each (numbered n) one some)))
            g.0 differs kept found
      ]

  -- so it is the table of one entry more
  pub published_table : length entries < 4294967294 → IsLawful program view
      → IsTable program (entries ++ entry ∷ []) (slice_set active f.0 new)
  published_table room lawful = record {
    count = length-set active f.0 new ∙ is.count;
    each = published-each;
    lawful =
        subst (IsHistoryOf program) (sym published-history)
        (all_push (IsEntryOf program) (map published entries) (publish view) is.lawful lawful);
    few = omega (arith, room, length_push entries entry);
  }

-- entries that are the same as contracts see them
abbrev SamePublished : HistoryEntry → HistoryEntry → Type 0
SamePublished entry copy = published copy ≡ published entry

-- versions with the same number and the same bundle
abbrev SameVersion : Active → Active → Type 0
SameVersion kept copy = (copy.number ≡ kept.number) × (bundle_of copy.entry ≡ bundle_of kept.entry)

-- the same entries make the same history
pub copied_history : (entries copies : List HistoryEntry) → AllZip SamePublished entries copies
    → map published copies ≡ map published entries
copied_history [] [] all = refl
copied_history [] (copy ∷ copies) all = absurd all
copied_history (entry ∷ entries) [] all = absurd all
copied_history (entry ∷ entries) (copy ∷ copies) all =
    ap (λ (one : history.HistoryEntry). one ∷ map published copies) all.0
    ∙ ap (λ (others : History). published entry ∷ others) (copied_history entries copies all.1)

module _ (program : ProgramView) (history : History) (f : FunId) where
  -- the same version is active
  copied-version : (kept copy : Active) → SameVersion kept copy → IsActive program history f kept
      → IsActive program history f copy
  copied-version kept copy same is = record {
    number = same.0 ∙ is.number;
    entry = same_entry kept.entry copy.entry same.1 ∙ is.entry;
    own = subst (λ found. IfSome found (λ bundle. bundle.program ≡ program)) (sym same.1) is.own;
  }

  copied-found : (found copies : Option Active) (copy : Active) → copies ≡ Some copy
      → MatchOption copies (Unit {0}) (λ one. IsSomeAnd found (λ kept. SameVersion kept one))
      → ((kept : Active) → found ≡ Some kept → IsActive program history f kept) → IsActive program history f copy
  copied-found found None copy is same was = absurd (none-some copy is)
  copied-found None (Some one) copy is same was = absurd same
  copied-found (Some kept) (Some one) copy is same was =
      subst (IsActive program history f) (same_Some one copy is) (copied-version kept one same (was kept refl))

-- a table with the same entries and the same versions is one
pub copied_table : (program : ProgramView) (entries copies : List HistoryEntry) (active versions : List Active)
    → AllZip SamePublished entries copies → AllZip SameVersion active versions → IsTable program entries active
    → IsTable program copies versions
copied_table program entries copies active versions same each is =
    let history : map published copies ≡ map published entries = copied_history entries copies same in
    record {
      count = AllZip-long SameVersion active versions each ∙ is.count;
      each = λ f copy found.
          subst (λ (them : History). IsActive program them f copy) (sym history)
          (copied-found program (map published entries) f (slice_get active f.0) (slice_get versions f.0) copy found
          (AllZip-right SameVersion active versions each f.0) (is.each f));
      lawful = subst (IsHistoryOf program) (sym history) is.lawful;
      few = omega (arith, is.few, AllZip-long SamePublished entries copies same);
    }
