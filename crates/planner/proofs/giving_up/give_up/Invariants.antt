-- `planner::giving_up::give_up` meets its contract. The invariant: what is kept is the first i tiles but the one given up.
-- Assumes nothing.
use Rattle.std.proofs.Common.{◌≡◌, take}
use Rattle.planner.specs.Tile.{without}
use Rattle.planner.specs.Held.{held_from}
use Rattle.planner.proofs.giving_up.give_up.Given as goal

abbrev pub invariant-loop-y : goal.invariant-loop-y
invariant-loop-y l = l.kept ≡ held_from (without (take l.y-index l.y-items) l.x)
