-- What an entry of the code is in the language.
use Rattle.std.specs.Prelude.{Option, None, Some}
use Rattle.sour_bundle.specs.declared.entry.Entry.{Entry}
use Rattle.sour_bundle.specs.declared.entry.Entry.TheVariants.{Text, Made}
use Rattle.sour_bundle.specs.ProgramBundle.{ProgramBundle}
use Rattle.sour_semantics.specs.Step as step

abbrev pub entry_of : Entry → step.Entry
entry_of Text = step.text_version
entry_of (Made bundle) = step.bundle bundle.value.view

-- the bundle of a made version
abbrev pub bundle_of : Entry → Option ProgramBundle
bundle_of Text = None
bundle_of (Made bundle) = Some bundle.value
