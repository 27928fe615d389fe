-- `decode_words::put_numbers` meets its contract.
-- Assumes nothing.
use mathlib.Core.Path.{sym}
use native.Mathlib.Omega.{arith}
use lib.Seq.{take_all}
use Rattle.text.proofs.LineLaws.{puts_cong, puts_nothing, puts_append}
use Rattle.decode_words.proofs.LineLaws.{numbers_text-next}
use Rattle.decode_words.proofs.put_numbers.Goals as goal

pub loop-number-preserved : goal.loop-number-preserved
loop-number-preserved c =
    let turn = puts_append c.put_decimal-next.ensures c.put_byte-next.ensures in
    puts_cong (sym (numbers_text-next _ _ c.loop-number-test.true)) (puts_append c.loop-number.invariant turn)
