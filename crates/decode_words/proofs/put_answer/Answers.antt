-- `decode_words::put_answer` meets its contract: six texts are put one after the other.
-- Assumes nothing.
use mathlib.Core.Path.{ap, ◌∙◌}
use Rattle.encoding.specs.Answer.{decoded_answer}
use Rattle.std.proofs.Common.{Result}
use Rattle.encoding.specs.declared.operation.Operation.{Operation}
use Rattle.encoding.specs.declared.operation.DecodeRefusal.{DecodeRefusal}
use Rattle.text.specs.Digits.{decimal_of}
use Rattle.text.proofs.LineLaws.{puts_append, puts_cong}
use Rattle.decode_words.specs.Line.{rest_text, line_of}
use Rattle.decode_words.proofs.LineLaws.{numbered}
use Rattle.decode_words.proofs.put_answer.Goals as goal

pub returns : goal.returns
unfolding line_of
returns c =
    let decoded = c.decode-decoded.ensures.equal in
    let number = numbered c.decode-decoded.result _ c.answer_number.ensures ∙ ap (λ (d : Result Operation DecodeRefusal). (decoded_answer d).number) decoded in
    puts_append
    (puts_append
    (puts_append
    (puts_append (puts_append c.put_hex-next.ensures c.put_byte-next.ensures) c.put_hex-next-2.ensures)
    c.put_byte-next-2.ensures)
    (puts_cong (ap decimal_of number) c.put_decimal-next.ensures))
    (puts_cong (ap rest_text decoded) c.put_rest.ensures)
