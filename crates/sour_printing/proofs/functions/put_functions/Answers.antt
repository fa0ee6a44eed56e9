use Rattle.std.proofs.Common.{refl}
use Rattle.std.proofs.lemmas.Option.{slice_get_read}
use Rattle.sour_printing.proofs.Blocks.{are_functions, blocks_more, blocks_all}
use Rattle.sour_printing.proofs.functions.put_functions.Goals as goal

pub loop-function-preserved : goal.loop-function-preserved
loop-function-preserved c =
    blocks_more (are_functions c.args.functions.now) c.args.functions.now c.loop-function.function-index
    c.function-item.result c.args.text.now.items c.loop-function.text.items _
    (slice_get_read c.args.functions.now _ c.loop-function.function-index c.function-item.result refl
    c.loop-function-test.true c.function-item.is)
    c.loop-function.invariant c.in_ok-put_function.ensures

pub returns : goal.returns
returns c =
    blocks_all (are_functions c.args.functions.now) c.args.functions.now c.loop-function.function-index
    c.args.text.now.items c.loop-function.text.items c.loop-function-test.false c.loop-function.invariant
