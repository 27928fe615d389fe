-- `decode_words::put_numbers` meets its contract. The loop's invariant: the numbers before are put.
-- Assumes nothing.
use lib.ListN.{take}
use Rattle.text.specs.Line.{Puts}
use Rattle.decode_words.specs.Line.{numbers_text}
use Rattle.decode_words.proofs.put_numbers.Given as goal

abbrev pub invariant-loop-number : goal.invariant-loop-number
invariant-loop-number l = Puts l.initial.line l.at (numbers_text (take l.number-index l.numbers)) l.line l.next
