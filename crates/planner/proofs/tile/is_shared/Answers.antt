-- `planner::tile::is_shared` meets its contract: of two tiles that exist, one lies inside the other or they share no part.
-- Assumes nothing.
use native.Mathlib.Omega.{arith}
use mathlib.Core.Path.{sym, ◌∙◌}
use Rattle.planner.proofs.TileLaws.{tile_exists, shares_inside, shares_sym}
use Rattle.planner.proofs.tile.is_shared.Goals as goal

pub returns-then-a-b : goal.returns-then-a-b
returns-then-a-b c = sym (shares_inside _ _ (tile_exists _ c.requires.0) (tile_exists _ c.requires.1) (omega arith))

pub returns-else-a-b : goal.returns-else-a-b
returns-else-a-b c = sym (shares_sym _ _ (tile_exists _ c.requires.0) (tile_exists _ c.requires.1) ∙ shares_inside _ _ (tile_exists _ c.requires.1) (tile_exists _ c.requires.0) (omega arith))
