-- `count_words::count_block` meets its contract. The loop's invariant: `found` counts the first `low` words of the block.
-- The measure is how many words are left.
-- Assumes nothing.
use mathlib.Core.Path.{◌≡◌}
use Prim.Native.Nat.{◌*◌, ◌-◌, ◌≤◌}
use Rattle.count_words.specs.Count.{decode_count}
use Rattle.count_words.proofs.count_block.Given as goal

abbrev pub invariant-loop-low : goal.invariant-loop-low
invariant-loop-low l = (l.found ≡ decode_count l.level (l.top * 16777216) l.low) × (l.low ≤ 16777216)

abbrev pub decreases-loop-low : goal.decreases-loop-low
decreases-loop-low l = 16777216 - l.low
