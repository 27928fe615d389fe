-- `planner::held::is_valid` meets its contract. The invariant, from the last tile back: the tiles from i on are valid.
-- Assumes nothing.
use Rattle.std.proofs.Common.{◌-◌, sym, ◌∙◌, arith}
use Rattle.planner.proofs.HeldLaws.{valid_exists, nothing_valid, others_lem, valid_back, invalid_tile, invalid_shared}
use Rattle.planner.proofs.held.is_valid.Goals.{then-not-is_tile-via-then-not-is_tile, then-not-is_tile-via-else-not-is_tile+then-not-is_free}
use Rattle.planner.proofs.held.is_valid.Goals as goal

pub loop-i-init : goal.loop-i-init
loop-i-init c = nothing_valid c.args.tiles.now

pub is_free-requires : goal.is_free-requires
is_free-requires c =
    let i = c.loop-i.i in
    (sym c.is_tile.ensures ∙ c.if-not-is_tile.false, valid_exists _ (rw (others_lem c.args.tiles.now (i - 1) i (omega arith) (omega arith)) c.loop-i.invariant))

pub returns-then-not-is_tile : goal.returns-then-not-is_tile
returns-then-not-is_tile c =
    let ts = c.args.tiles.now in
    let i = c.loop-i.i in
    elim c.then-not-is_tile.branch [
      | then-not-is_tile-via-then-not-is_tile w ↦ sym (invalid_tile ts (i - 1) i (omega arith) (omega arith) (sym c.is_tile.ensures ∙ w.if-not-is_tile.true))
      | then-not-is_tile-via-else-not-is_tile+then-not-is_free w ↦ sym (invalid_shared ts (i - 1) i (omega arith) (omega arith) (sym w.is_free.ensures ∙ w.if-not-is_free.true))
    ]

pub loop-i-preserved : goal.loop-i-preserved
loop-i-preserved c =
    let i = c.loop-i.i in
    valid_back c.args.tiles.now (i - 1) i (omega arith) (omega arith) (sym c.is_tile.ensures ∙ c.if-not-is_tile.false) (sym c.is_free.ensures ∙ c.if-not-is_free.false) c.loop-i.invariant
