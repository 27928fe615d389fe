-- `execute::array::take_from_array` meets its contract: the group is the one that the definition names.
-- Assumes nothing.
use native.Mathlib.Nat.{mod-lt}
use Rattle.settings.proofs.SettingsLaws.{vector_valid}
use Rattle.execute.proofs.MoveLaws.{groups, taken_from_array}
use Rattle.execute.proofs.array.take_from_array.Goals as goal

pub take_group-requires : goal.take_group-requires
take_group-requires c =
    let e = c.requires in
    let a = c.args in
    let g = groups a.operation.registers a.settings.vector_bytes (vector_valid a.settings e.0.vectors) in
    (rw (e.0.x, e.0.p) at e.0, e.1.vectors, (_, mod-lt _ g.some, c.group_of-group.ensures))

pub returns : goal.returns
returns c =
    let a = c.args in
    taken_from_array a.settings a.x.now a.z.now a.p.now a.za.now a.zeroes a.operation c.group_of-group.ensures c.take_group.ensures
