-- What only the contracts of inner functions cite.
-- Assumes nothing.
use Rattle.std.specs.Prelude.{ℕ, ◌%◌, ◌&&◌, List, eqb, Option, Some, None}
use Rattle.std.proofs.Math.Option as maybe
use Rattle.general.specs.Least.{least}
use Rattle.planner.specs.Tile.{tile_of, is_free}
use Rattle.planner.specs.declared.tile.Tile.{Tile}

-- what `least` found, as code has it
abbrev pub found : maybe.Option ℕ → Option ℕ
found maybe.none = None
found (maybe.some t) = Some t

-- the lowest-numbered free tile of `asked` bytes inside tile n of m bytes: those inside have remainder n by m
unfoldable pub lowest_in : List Tile → ℕ → ℕ → ℕ → Option ℕ
lowest_in l asked m n = found (least (λ t. eqb (t % m) n && is_free l (tile_of asked t)) asked)
