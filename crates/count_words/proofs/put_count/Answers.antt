-- `count_words::put_count` meets its contract: four texts are put one after the other.
-- Assumes nothing.
use mathlib.Core.Path.{ap}
use Rattle.text.specs.Digits.{decimal_of}
use Rattle.text.proofs.LineLaws.{puts_append, puts_cong}
use Rattle.count_words.specs.Count.{line_of}
use Rattle.count_words.proofs.put_count.Goals as goal

pub returns : goal.returns
unfolding line_of
returns c =
    puts_append
    (puts_append
    (puts_append c.put_decimal-next.ensures c.put_byte-next.ensures)
    (puts_cong (ap decimal_of c.count.ensures) c.put_decimal-next-2.ensures))
    c.put_byte.ensures
