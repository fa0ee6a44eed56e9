-- What is known of an entry.
use Rattle.std.proofs.Common.{◌≡◌, None, ap, refl}
use Rattle.std.proofs.lemmas.Option.{same_Some}
use Rattle.sour_bundle.specs.declared.entry.Entry.{Entry}
use Rattle.sour_bundle.specs.declared.entry.Entry.TheVariants.{Text, Made}
use Rattle.sour_bundle.specs.ProgramBundle.{ProgramBundle}
use Rattle.sour_bundle.specs.Entry.{entry_of, bundle_of}
use Rattle.sour_semantics.specs.Step as step

-- entries of the same bundle are the same in the language
pub same_entry : (entry other : Entry) → bundle_of other ≡ bundle_of entry → entry_of other ≡ entry_of entry
same_entry Text Text same = refl
same_entry Text (Made other) same = cc
same_entry (Made bundle) Text same = cc
same_entry (Made bundle) (Made other) same =
    ap (λ (one : ProgramBundle). step.bundle one.view) (same_Some other.value bundle.value same)

-- the text version has no bundle
pub text_entry : (entry : Entry) → entry_of entry ≡ step.text_version → bundle_of entry ≡ None
text_entry Text text = refl
text_entry (Made bundle) text = cc
