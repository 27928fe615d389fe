-- `execute::perform::operate` meets its contract: each class has the effect of its operation.
-- Assumes nothing.
use mathlib.Core.Path.{refl}
use lib.Dec.{eqb}
use lib.ListN.{length}
use Rattle.encoding.specs.declared.operation.Operation.TheVariants.{MovaToTile, MovazFromTile, MovaFromTile}
use Rattle.encoding.specs.Steps.{array_move}
use Rattle.encoding.specs.Word.{bits_at}
use Rattle.decoder.specs.Steps.{array_in, access_in}
use Rattle.execute.proofs.PerformLaws.{without_memory, without_z, array_range, access_range, array_done, moves_perform}
use Rattle.execute.proofs.perform.operate.Goals as goal

pub move_to_tile-requires : goal.move_to_tile-requires
move_to_tile-requires c =
    (without_memory c.args.settings _ _ _ _ _ c.requires.0, rw c.to_tile_in.ensures (rw c.in-ToTile.is at c.requires.1))

pub move_from_tile-requires : goal.move_from_tile-requires
move_from_tile-requires c =
    (without_memory c.args.settings _ _ _ _ _ c.requires.0, rw c.predicated_in.ensures (rw c.in-FromTile.is at c.requires.1))

pub take_from_tile-requires : goal.take_from_tile-requires
take_from_tile-requires c =
    (without_memory c.args.settings _ _ _ _ _ c.requires.0, rw c.whole_in.ensures (rw c.in-Take.is at c.requires.1))

pub take_from_array-requires : goal.take_from_array-requires
take_from_array-requires c =
    (without_memory c.args.settings _ _ _ _ _ c.requires.0, rw c.array_in-group.ensures (array_range (eqb (bits_at 9 1 c.args.word) 1) (array_in c.in-Array.registers c.args.word) (rw c.in-Array.is at c.requires.1)))

pub access-requires : goal.access-requires
access-requires c =
    (without_z c.args.settings _ _ _ _ _ c.requires.0, rw c.access_in-o.ensures (access_range (eqb (bits_at 21 1 c.args.word) 1) (access_in c.in-Access.size c.args.word) (rw c.in-Access.is at c.requires.1)))

pub returns-in-ToTile : goal.returns-in-ToTile
returns-in-ToTile c =
    let a = c.args in
    moves_perform a.settings _ (MovaToTile c.to_tile_in.result) _ _ _ _ _ (rw (c.in-ToTile.is, c.to_tile_in.ensures)) refl c.move_to_tile.ensures

pub returns-in-FromTile : goal.returns-in-FromTile
returns-in-FromTile c =
    let a = c.args in
    moves_perform a.settings _ (MovaFromTile c.predicated_in.result) _ _ _ _ _ (rw (c.in-FromTile.is, c.predicated_in.ensures)) refl c.move_from_tile.ensures

pub returns-in-Take : goal.returns-in-Take
returns-in-Take c =
    let a = c.args in
    moves_perform a.settings _ (MovazFromTile c.whole_in.result) _ _ _ _ _ (rw (c.in-Take.is, c.whole_in.ensures)) refl c.take_from_tile.ensures

pub returns-in-Array : goal.returns-in-Array
returns-in-Array c =
    let a = c.args in
    moves_perform a.settings _ (array_move c.zeroes_in-zeroes.result c.array_in-group.result) _ _ _ _ _ (rw (c.in-Array.is, c.zeroes_in-zeroes.ensures, c.array_in-group.ensures)) (array_done a.settings a.x.now a.p.now (length a.memory.now) c.zeroes_in-zeroes.result c.array_in-group.result) c.take_from_array.ensures

pub returns-in-Access : goal.returns-in-Access
returns-in-Access c = rw c.in-Access.is (rw (c.stores_in-stores.ensures, c.access_in-o.ensures) at (c.access.ensures c.args.z.now))
