-- `planner::held::is_valid` meets its contract. The invariant, from the last tile back: the tiles from i on are valid.
-- Assumes nothing.
use Rattle.std.proofs.Common.{◌≡◌, true, drop}
use Rattle.planner.specs.Tile.{is_valid}
use Rattle.planner.proofs.held.is_valid.Given as goal

abbrev pub invariant-loop-i : goal.invariant-loop-i
invariant-loop-i l = is_valid (drop l.i l.tiles) ≡ true
