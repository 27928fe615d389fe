-- `encode_fields::put_question` meets its contract: three texts are put one after the other.
-- Assumes nothing.
use Rattle.text.proofs.LineLaws.{puts_append}
use Rattle.encode_fields.specs.Line.{question_text}
use Rattle.encode_fields.proofs.put_question.Goals as goal

pub returns : goal.returns
unfolding question_text
returns c =
    puts_append (puts_append c.put_hex-next.ensures c.put_hex-next-2.ensures) c.put_hex.ensures
