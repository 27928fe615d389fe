-- `decode_words::put_operation` meets its contract: three texts are put one after the other.
-- Assumes nothing.
use mathlib.Core.Path.{ap, ◌∙◌}
use Rattle.encoding.specs.Answer.{encoded_word}
use Rattle.encoding.specs.Codec.{encode_flat_of}
use Rattle.text.specs.Digits.{hex_digits}
use Rattle.text.proofs.LineLaws.{puts_append, puts_cong}
use Rattle.decode_words.specs.Line.{numbers_text, operation_text}
use Rattle.decode_words.proofs.LineLaws.{worded}
use Rattle.decode_words.proofs.put_operation.Goals as goal

pub returns : goal.returns
unfolding operation_text
returns c =
    let flat = c.flatten-numbers.ensures in
    let word = worded c.encode_flat.result _ c.unwrap_or-word.ensures ∙ ap encoded_word (c.encode_flat.ensures.equal ∙ ap encode_flat_of flat) in
    puts_append
    (puts_append c.put_byte-next.ensures (puts_cong (ap numbers_text flat) c.put_numbers-next.ensures))
    (puts_cong (ap (hex_digits 8) word) c.put_hex.ensures)
