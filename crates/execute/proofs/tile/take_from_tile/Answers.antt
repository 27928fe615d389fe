-- `execute::tile::take_from_tile` meets its contract: both spans are what the leaf asks for, and it writes what the definition says.
-- Assumes nothing.
use Rattle.execute.proofs.MoveLaws.{from_slice, slice_apart, taken_slice, zeroed_slice, taken_from_tile}
use Rattle.execute.proofs.tile.take_from_tile.Goals as goal

pub take-requires : goal.take-requires
take-requires c =
    let e = c.requires in
    let a = c.args in (
      from_slice a.settings a.x.now a.z.now a.p.now a.za.now e.0 a.operation.slice e.1.slice a.operation.zd e.1.vector c.slice_span-from.ensures c.vector_span-to.ensures,
      slice_apart a.settings a.x.now a.z.now a.p.now a.za.now e.0 a.operation.slice e.1.slice a.operation.zd e.1.vector c.slice_span-from.ensures c.vector_span-to.ensures,
    )

pub returns : goal.returns
returns c =
    let e = c.requires in
    let a = c.args in
    taken_from_tile a.settings a.x.now a.z.now a.p.now a.za.now a.operation
    (taken_slice a.settings a.x.now a.z.now a.p.now a.za.now e.0 a.operation.slice e.1.slice a.operation.zd e.1.vector c.slice_span-from.ensures c.vector_span-to.ensures c.take.ensures.dst_after)
    (zeroed_slice a.settings a.x.now a.z.now a.p.now a.za.now e.0 a.operation.slice e.1.slice a.operation.zd e.1.vector c.slice_span-from.ensures c.vector_span-to.ensures c.take.ensures.src_after)
