-- `text::put_decimal` meets its contract: what `io::decimal` puts are the decimal digits.
-- Assumes nothing.
use mathlib.Core.Path.{◌∙◌}
use Rattle.text.proofs.DigitLaws.{decimal_of-fewest}
use Rattle.text.proofs.LineLaws.{puts_cong}
use Rattle.text.proofs.line.put_decimal.Goals as goal

pub returns : goal.returns
returns c =
    let number = c.ranges.number.fits in
    puts_cong (c.decimal-count.ensures.digits ∙ decimal_of-fewest _ _ number c.decimal-count.ensures.len) c.put.ensures
