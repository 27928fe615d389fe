-- `execute::array::take_group` meets its contract: one vector more is taken with each turn.
-- Assumes nothing.
use Rattle.std.proofs.Common.{◌<◌, arith, length-take}
use lib.Seq.{get_or-take}
use Rattle.encoding.specs.Flat.{registers_of}
use Rattle.execute.proofs.MoveLaws.{taken_none, one_more}
use Rattle.execute.proofs.array.take_group.Goals as goal

pub loop-i-init : goal.loop-i-init
loop-i-init c =
    let e = c.requires in
    let a = c.args in
    taken_none a.settings a.zeroes a.zd a.registers a.group a.z.now a.za.now e.0 e.1 e.2

pub loop-i-preserved : goal.loop-i-preserved
loop-i-preserved c =
    let e = c.requires in
    let a = c.args in
    let below : c.loop-i.i < registers_of a.registers = omega (arith, c.loop-i-test.true, c.number.ensures.0, length-take c.number.result a.group) in
    one_more a.settings a.zeroes a.zd a.registers a.group a.z.now a.za.now e.0 e.1 e.2 c.loop-i.i below c.loop-i.invariant (rw (get_or-take c.number.result a.group c.loop-i.i 0 (omega (arith, below, c.number.ensures.0))) at c.take_vector.ensures)
