-- `text::put` meets its contract. The loop's invariant: the bytes before are put.
-- Assumes nothing.
use lib.ListN.{take}
use Rattle.text.specs.Line.{Puts}
use Rattle.text.proofs.line.put.Given as goal

abbrev pub invariant-loop-byte : goal.invariant-loop-byte
invariant-loop-byte l = Puts l.initial.line l.at (take l.byte-index l.bytes) l.line l.next
