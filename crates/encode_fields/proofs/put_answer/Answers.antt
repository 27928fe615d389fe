-- `encode_fields::put_answer` meets its contract: two texts are put one after the other.
-- Assumes nothing.
use mathlib.Core.Path.{ap, ◌∙◌}
use Rattle.encoding.specs.Codec.{encode_flat_of}
use Rattle.text.proofs.LineLaws.{puts_append, puts_cong}
use Rattle.encode_fields.specs.Line.{encoded_text, line_of}
use Rattle.encode_fields.proofs.put_answer.Goals as goal

pub returns : goal.returns
unfolding line_of
returns c =
    let numbers = c.numbers-numbers.ensures in
    let encoded = c.encode_flat.ensures.equal ∙ ap encode_flat_of numbers in
    puts_append c.put_question-next.ensures (puts_cong (ap encoded_text encoded) c.put_encoded.ensures)
