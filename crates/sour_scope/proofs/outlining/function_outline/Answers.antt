use Rattle.std.proofs.Common.{◌≡◌, ◌<◌, List, length, get_or, sym, ap, ◌∙◌, subst}
use Rattle.sour_raw.specs.declared.raw.RawVersion.{RawVersion}
use Rattle.sour_checked.specs.Outline.{VersionNames}
use Rattle.sour_scope.specs.declared.version_outline.VersionOutline.{VersionOutline}
use Rattle.sour_scope.specs.Outlined.{outlined_version, names_of_version, version_names}
use Rattle.sour_scope.proofs.OutliningLaws.{next_number, numbered_more, made_more}
use Rattle.sour_scope.proofs.outlining.function_outline.Goals as goal

pub loop-number-preserved : goal.loop-number-preserved
loop-number-preserved c =
    let raw = c.args.raw.now in
    let number = c.loop-number.number in
    let version = c.version-item.result in
    let versions = c.loop-number.versions in
    let outline = c.in_ok-version_outline.field-0 in
    let make = outlined_version raw.parameters in
    let items = c.as_slice-version-items.ensures in
    let within : number < length raw.versions =
    subst (λ (raw : List RawVersion). number < length raw) items c.loop-number-test.true in
    let at : version ≡ get_or raw.versions number version =
    c.version-item.is ∙ ap (λ (raw : List RawVersion). get_or raw number version) items in
    let is : outline ≡ make version =
    c.in_ok-version_outline.ensures ∙ ap (λ parameters. outlined_version parameters version) c.as_slice.ensures in
    let named = c.in_ok-bytes_of.ensures ∙ sym (ap (λ (made : VersionOutline). made.name) is) in
    let name = λ (version : VersionNames). version.name in
    let count = next_number names_of_version name make raw.versions number versions within
    c.loop-number.invariant.versions in
    record {
      numbers = numbered_more names_of_version name c.put.new.self versions c.push.new.self outline
          c.in_ok-bytes_of.field-0.items c.in_ok-push.ensures.ok named
          (c.in_ok-put.ensures (version_names versions) c.loop-number.invariant.numbers count);
      versions = made_more make raw.versions number version versions c.push.new.self outline within at
          c.loop-number.invariant.versions c.in_ok-push.ensures.ok is;
    }
