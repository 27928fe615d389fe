-- `lent_tiles::held_in` meets its contract: each call gives the tile at its place.
-- Assumes nothing.
use Rattle.std.proofs.Common.{rules, tests}
use Rattle.planner.specs.Tile.{no_tile}
use Rattle.lent_tiles.specs.Lent.{tile_at_place}
use Rattle.lent_tiles.proofs.LentLaws.{made_at, sixteen_in}
use Rattle.lent_tiles.proofs.held_in.Goals as goal

pub returns : goal.returns
returns c =
    let ns = c.args.tiles.now in
    let e = sixteen_in ns c.from_fn.result c.from_fn.ensures.items.long (λ k w. made_at _ (tile_at_place ns) _ (λ i y q h. search (rules, tests)) c.from_fn.result 16 k no_tile c.from_fn.ensures.items w) in
    λ i. record { tiles = e i; count = c.args.count }
