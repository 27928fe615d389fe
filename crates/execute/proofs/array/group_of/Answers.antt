-- `execute::array::group_of` meets its contract: the first vector is the one that index and offset select.
-- Assumes nothing.
use Prim.Native.Nat.{◌≤◌}
use native.Mathlib.Omega.{arith}
use Rattle.execute.proofs.MoveLaws.{groups, groups_power}
use Rattle.execute.proofs.array.group_of.Goals.{After-selected-first}
use Rattle.execute.proofs.array.group_of.Goals as goal

small : (c : After-selected-first) → c.group_stride-apart.result ≤ 256
small c =
    let g = groups c.args.registers c.args.vector_bytes c.requires.0 in
    omega (arith, c.group_stride-apart.ensures, g.most)

pub selected-first-requires : goal.selected-first-requires
selected-first-requires c =
    let a = c.args in
    let valid = c.requires.0 in
    let g = groups a.registers a.vector_bytes valid in
    (rw c.group_stride-apart.ensures (groups_power a.registers a.vector_bytes valid), omega (arith, c.group_stride-apart.ensures, g.most), c.requires.1)

pub overflow_add-third : goal.overflow_add-third
overflow_add-third c = omega (arith, small (goal.at.overflow_add-third c).After-selected-first, c.selected-first.ensures.1)

pub overflow_add-result : goal.overflow_add-result
overflow_add-result c = omega (arith, small (goal.at.overflow_add-result c).After-selected-first, c.selected-first.ensures.1)
