-- `decode_words::put_rest` meets its contract, by what decoding gave.
-- Assumes nothing.
use Rattle.text.proofs.LineLaws.{puts_append}
use Rattle.decode_words.proofs.put_rest.Goals as goal

pub returns-in-Ok : goal.returns-in-Ok
returns-in-Ok c =
    rw c.in-Ok.is (puts_append c.put_operation-next.ensures c.put_byte.ensures)
