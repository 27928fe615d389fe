-- `count_words::count` meets its contract. The loop's invariant: `found` counts the words of the first `top` blocks.
-- The measure is how many blocks are left.
-- Assumes nothing.
use mathlib.Core.Path.{◌≡◌, refl}
use Prim.Native.Nat.{◌+◌, ◌*◌}
use native.Mathlib.Omega.{arith}
use Rattle.count_words.specs.Count.{decode_count}
use Rattle.count_words.proofs.CountLaws.{decode_count-below, decode_count-block}
use Rattle.count_words.proofs.count.Goals.{After-count_block-found}
use Rattle.count_words.proofs.count.Goals as goal

-- a turn adds a block
counted : (c : After-count_block-found) → c.loop-top.found + c.count_block-found.result ≡ decode_count c.args.level 0 ((c.loop-top.top + 1) * 16777216)
counted c = rw (decode_count-block, c.loop-top.invariant.0, c.count_block-found.ensures)

pub loop-top-init : goal.loop-top-init
unfolding decode_count
loop-top-init c = (refl, omega arith)

pub overflow_add-found : goal.overflow_add-found
overflow_add-found c = omega (arith, counted (goal.at.overflow_add-found c).After-count_block-found, decode_count-below c.args.level 0 ((c.loop-top.top + 1) * 16777216))

pub loop-top-preserved : goal.loop-top-preserved
loop-top-preserved c = (counted (goal.at.loop-top-preserved c).After-count_block-found, omega arith)
