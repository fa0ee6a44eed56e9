use Rattle.std.proofs.Common.{refl}
use Rattle.std.proofs.lemmas.Option.{slice_get_read}
use Rattle.sour_printing.proofs.Blocks.{are_versions, blocks_more, blocks_all}
use Rattle.sour_printing.proofs.functions.put_versions.Goals as goal

pub loop-version-preserved : goal.loop-version-preserved
loop-version-preserved c =
    blocks_more (are_versions c.args.functions.now) c.args.versions.now c.loop-version.version-index
    c.version-item.result c.args.text.now.items c.loop-version.text.items _
    (slice_get_read c.args.versions.now _ c.loop-version.version-index c.version-item.result refl
    c.loop-version-test.true c.version-item.is)
    c.loop-version.invariant c.in_ok-put_version.ensures

pub returns : goal.returns
returns c =
    blocks_all (are_versions c.args.functions.now) c.args.versions.now c.loop-version.version-index
    c.args.text.now.items c.loop-version.text.items c.loop-version-test.false c.loop-version.invariant
