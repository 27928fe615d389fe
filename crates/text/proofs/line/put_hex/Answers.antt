-- `text::put_hex` meets its contract: a part of the eight digits is put.
-- Assumes nothing.
use native.Mathlib.Omega.{arith}
use Rattle.text.proofs.DigitLaws.{hex_digits-last}
use Rattle.text.proofs.LineLaws.{puts_cong}
use Rattle.text.proofs.line.put_hex.Goals as goal

pub returns : goal.returns
returns c =
    puts_cong (rw (c.hex_digits-digits.ensures, hex_digits-last c.min-skipped.result _ (omega arith), c.min-skipped.ensures)) c.put.ensures
