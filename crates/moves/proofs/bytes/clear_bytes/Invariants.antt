-- `moves::bytes::clear_bytes` meets its contract: after i turns the first i bytes of the part that is lent are zero.
-- Assumes nothing.
use Rattle.general.specs.Scatter.{all, zeros, onwards}
use Rattle.moves.proofs.BlockLaws.{WrittenTo}
use Rattle.moves.proofs.bytes.clear_bytes.Given as goal

abbrev pub invariant-loop-byte : goal.invariant-loop-byte
invariant-loop-byte l = WrittenTo (onwards 0) all zeros l.initial.byte-items l.byte-index l.byte-items
