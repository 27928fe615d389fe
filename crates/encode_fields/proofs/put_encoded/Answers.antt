-- `encode_fields::put_encoded` meets its contract: five texts are put one after the other.
-- Assumes nothing.
use mathlib.Core.Path.{ap}
use Rattle.text.specs.Digits.{hex_digits, decimal_of}
use Rattle.text.proofs.LineLaws.{puts_append, puts_cong}
use Rattle.encode_fields.specs.Line.{encoded_text}
use Rattle.encode_fields.proofs.LineLaws.{worded, numbered}
use Rattle.encode_fields.proofs.put_encoded.Goals as goal

pub returns : goal.returns
unfolding encoded_text
returns c =
    puts_append
    (puts_append
    (puts_append
    (puts_append c.put_byte-next.ensures (puts_cong (ap decimal_of (numbered c.args.encoded _ c.answer_number.ensures)) c.put_decimal-next.ensures))
    c.put_byte-next-2.ensures)
    (puts_cong (ap (hex_digits 8) (worded c.args.encoded _ c.unwrap_or.ensures)) c.put_hex-next.ensures))
    c.put_byte.ensures
