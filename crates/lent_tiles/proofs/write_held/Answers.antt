-- `lent_tiles::write_held` meets its contract. The invariant: the tiles before place i are written.
-- Assumes nothing.
use Rattle.std.proofs.Common.{◌+◌, ◌*◌, refl, ap, ◌∙◌, arith, set}
use lib.Seq.{get_or-take, length-take-le}
use Rattle.general.specs.Scatter.{all}
use Rattle.general.proofs.ScatterLaws.{scatter_none, scatter_end}
use Rattle.planner.specs.Tile.{no_tile}
use Rattle.planner.specs.declared.tile.Tile.{Tile}
use Rattle.lent_tiles.specs.Lent.{held_out}
use Rattle.lent_tiles.proofs.LentLaws.{written_more}
use Rattle.lent_tiles.proofs.write_held.Goals as goal

pub loop-i-init : goal.loop-i-init
loop-i-init c = scatter_none _ _ _

pub loop-i-preserved : goal.loop-i-preserved
loop-i-preserved c =
    let h = c.args.held in
    let i = c.loop-i.i in
    ap (λ (x : Tile). set (set c.loop-i.tiles (2 * i) x.bytes) (2 * i + 1) x.number) (get_or-take h.count h.tiles i no_tile (omega (arith, length-take-le h.count h.tiles (omega arith))))
    ∙ written_more h i c.args.tiles.now c.loop-i.tiles c.loop-i.invariant

pub returns : goal.returns
unfolding held_out
returns c =
    let h = c.args.held in
    (scatter_end (λ k. k) all _ _ c.loop-i.invariant (omega (arith, length-take-le h.count h.tiles (omega arith))) (omega (arith, length-take-le h.count h.tiles (omega arith))), refl)
