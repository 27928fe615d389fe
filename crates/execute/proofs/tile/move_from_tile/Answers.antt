-- `execute::tile::move_from_tile` meets its contract: both spans and the predicate's bytes are what the leaf asks for, and it writes what the definition says.
-- Assumes nothing.
use Rattle.execute.proofs.MoveLaws.{from_slice, register_governed, merged_from, moved_from_tile}
use Rattle.execute.proofs.tile.move_from_tile.Goals as goal

pub merge-requires : goal.merge-requires
merge-requires c =
    let e = c.requires in
    let a = c.args in (
      from_slice a.settings a.x.now a.z.now a.p.now a.za.now e.0 a.operation.whole.slice e.1.whole.slice a.operation.whole.zd e.1.whole.vector c.slice_span-from.ensures c.vector_span-to.ensures,
      register_governed a.settings a.x.now a.z.now a.p.now a.za.now e.0 a.operation.whole.slice e.1.whole.slice a.operation.whole.zd e.1.whole.vector c.slice_span-from.ensures c.vector_span-to.ensures a.operation.pg e.1.predicate c.governing_bytes-governing.ensures,
    )

pub returns : goal.returns
returns c =
    let e = c.requires in
    let a = c.args in
    moved_from_tile a.settings a.x.now a.z.now a.p.now a.za.now a.operation
    (merged_from a.settings a.x.now a.z.now a.p.now a.za.now e.0 a.operation.whole.slice e.1.whole.slice a.operation.whole.zd e.1.whole.vector c.slice_span-from.ensures c.vector_span-to.ensures a.operation.pg e.1.predicate c.governing_bytes-governing.ensures c.merge.ensures)
