-- `execute::array::take_group` meets its contract. The invariant: before turn i as many vectors are taken.
-- Assumes nothing.
use Rattle.execute.specs.Promise.{GroupTaken}
use Rattle.execute.proofs.array.take_group.Given as goal

abbrev pub invariant-loop-i : goal.invariant-loop-i
invariant-loop-i l = GroupTaken l.fn.settings l.fn.zeroes l.fn.zd l.fn.group l.initial.z l.initial.za l.i l.z l.za
