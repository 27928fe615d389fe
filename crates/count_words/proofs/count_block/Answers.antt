-- `count_words::count_block` meets its contract. The loop's invariant: `found` counts the first `low` words of the block.
-- The measure is how many words are left.
-- Assumes nothing.
use mathlib.Core.Path.{◌≡◌, refl}
use Prim.Native.Nat.{◌+◌, ◌*◌}
use native.Mathlib.Numerals.{add-one}
use native.Mathlib.Omega.{arith}
use mir.Val.{bool_byte}
use Rattle.count_words.specs.Count.{decode_count}
use Rattle.count_words.proofs.CountLaws.{decode_count-below, counted}
use Rattle.count_words.proofs.count_block.Goals.{After-is_ok}
use Rattle.count_words.proofs.count_block.Goals as goal

-- a turn adds a word
turn : (c : After-is_ok) → c.loop-low.found + bool_byte c.is_ok.result ≡ decode_count c.args.level (c.args.top * 16777216) (c.loop-low.low + 1)
unfolding decode_count
turn c = rw (add-one, ← c.loop-low.invariant.0, c.is_ok.ensures.value, counted, c.decode.ensures.equal)

pub loop-low-init : goal.loop-low-init
unfolding decode_count
loop-low-init c = (refl, omega arith)

pub overflow_add-found : goal.overflow_add-found
overflow_add-found c = omega (arith, turn (goal.at.overflow_add-found c).After-is_ok, decode_count-below c.args.level (c.args.top * 16777216) (c.loop-low.low + 1))

pub loop-low-preserved : goal.loop-low-preserved
loop-low-preserved c = (turn (goal.at.loop-low-preserved c).After-is_ok, omega arith)
