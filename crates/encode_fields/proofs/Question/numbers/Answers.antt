-- `encode_fields::Question::numbers` meets its contract, byte by byte.
-- Assumes nothing.
use native.Mathlib.Nat.{div-one}
use Rattle.encode_fields.proofs.Question.numbers.Goals as goal

pub returns : goal.returns
returns c = rw (c.to_be_bytes.ensures, c.to_be_bytes-2.ensures, c.to_be_bytes-3.ensures) (simp div-one)
