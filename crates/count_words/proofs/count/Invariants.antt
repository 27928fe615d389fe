-- `count_words::count` meets its contract. The loop's invariant: `found` counts the words of the first `top` blocks.
-- The measure is how many blocks are left.
-- Assumes nothing.
use mathlib.Core.Path.{◌≡◌}
use Prim.Native.Nat.{◌*◌, ◌-◌, ◌≤◌}
use Rattle.count_words.specs.Count.{decode_count}
use Rattle.count_words.proofs.count.Given as goal

abbrev pub invariant-loop-top : goal.invariant-loop-top
invariant-loop-top l = (l.found ≡ decode_count l.level 0 (l.top * 16777216)) × (l.top ≤ 256)

abbrev pub decreases-loop-top : goal.decreases-loop-top
decreases-loop-top l = 256 - l.top
