-- `moves::size_bits::SizeBits::one` meets its contract: the lowest of the eight bytes is that of a single one.
-- Assumes nothing.
use Rattle.moves.proofs.RunLaws.{first_bits}
use Rattle.moves.proofs.size_bits.SizeBits.one.Goals as goal

pub returns : goal.returns
returns c = rw c.args.self.all (first_bits c.args.self.size)
