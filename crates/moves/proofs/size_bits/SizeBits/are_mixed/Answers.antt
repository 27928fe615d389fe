-- `moves::size_bits::SizeBits::are_mixed` meets its contract: the test is that of EightLaws.
-- Assumes nothing.
use borrow.Author.Tests.{eqb-true}
use Rattle.moves.proofs.EightLaws.{tests_mixed}
use Rattle.moves.proofs.size_bits.SizeBits.are_mixed.Goals as goal

pub returns : goal.returns
returns c e = tests_mixed c.args.v c.args.self.eight c.args.self.size c.args.self.all (eqb-true _ _ e)
