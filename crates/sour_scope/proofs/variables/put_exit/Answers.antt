use Rattle.sour_raw.specs.Mentions.{map_names, extra_names, all_names}
use Rattle.sour_scope.proofs.VariableLaws.{then_put}
use Rattle.sour_scope.proofs.variables.put_exit.Goals as goal

pub returns : goal.returns
returns c =
    then_put c.put_extras.result c.args.names.now c.put_map.new.names c.put_extras.new.names (map_names c.args.raw.now.map) (all_names extra_names c.args.raw.now.extras)
    (rw c.as_slice.ensures at c.in_ok-put_map.ensures) (rw c.as_slice-2.ensures at c.put_extras.ensures)
