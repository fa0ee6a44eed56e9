-- What is kept of the blocks that were written.
use Rattle.std.specs.Prelude.{◌≡◌, List}
use Rattle.std.specs.List.{list_any}
use Rattle.sour_semantics.specs.Block.{BlockEnd}
use Rattle.sour_commands.specs.Status.{is_memory, is_cut, is_trap}
use Rattle.sour_commands.specs.declared.tally.Tally.{Tally}

-- the tally says of which kinds these ends are
pub record Counts (ends : List BlockEnd) (tally : Tally) : Type 0 where
  pub memory : tally.memory ≡ list_any is_memory ends
  pub cut : tally.cut ≡ list_any is_cut ends
  pub trap : tally.trap ≡ list_any is_trap ends
