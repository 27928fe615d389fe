-- `text::put` meets its contract.
-- Assumes nothing.
use Prim.Native.Nat.{ℕ}
use native.Mathlib.Numerals.{add-one}
use lib.Seq.{take-suc, take_all}
use Rattle.text.proofs.LineLaws.{puts_nothing, puts_append}
use Rattle.text.proofs.line.put.Goals as goal

pub loop-byte-preserved : goal.loop-byte-preserved
loop-byte-preserved c = rw (add-one, take-suc {A = ℕ} _ _ 0 c.loop-byte-test.true) (puts_append c.loop-byte.invariant c.put_byte-next.ensures)
