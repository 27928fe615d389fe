-- `lent_tiles::take_tile` meets its contract.
-- Assumes nothing.
use Rattle.std.proofs.Common.{sym, ◌∙◌}
use Rattle.lent_tiles.proofs.LentLaws.{take_places}
use Rattle.lent_tiles.proofs.take_tile.Goals as goal

pub write_held-requires : goal.write_held-requires
write_held-requires c = take_places _ _ _ c.in_ok-taken.taken (sym c.take_in.ensures ∙ c.in_ok-taken.was)
