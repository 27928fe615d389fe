-- `execute::tile::move_to_tile` meets its contract: both spans and the predicate's bytes are what the leaf asks for, and it writes what the definition says.
-- Assumes nothing.
use Rattle.execute.proofs.MoveLaws.{to_slice, slice_governed, merged_to, moved_to_tile}
use Rattle.execute.proofs.tile.move_to_tile.Goals as goal

pub merge-requires : goal.merge-requires
merge-requires c =
    let e = c.requires in
    let a = c.args in (
      to_slice a.settings a.x.now a.z.now a.p.now a.za.now e.0 a.operation.slice e.1.slice a.operation.zn e.1.vector c.slice_span-to.ensures c.vector_span-from.ensures,
      slice_governed a.settings a.x.now a.z.now a.p.now a.za.now e.0 a.operation.slice e.1.slice a.operation.zn e.1.vector c.slice_span-to.ensures c.vector_span-from.ensures a.operation.pg e.1.predicate c.governing_bytes-governing.ensures,
    )

pub returns : goal.returns
returns c =
    let e = c.requires in
    let a = c.args in
    moved_to_tile a.settings a.x.now a.z.now a.p.now a.za.now a.operation
    (merged_to a.settings a.x.now a.z.now a.p.now a.za.now e.0 a.operation.slice e.1.slice a.operation.zn e.1.vector c.slice_span-to.ensures c.vector_span-from.ensures a.operation.pg e.1.predicate c.governing_bytes-governing.ensures c.merge.ensures)
