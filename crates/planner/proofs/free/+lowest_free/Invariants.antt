-- The measure of the search by halves: the parts.
-- Assumes nothing.
use Rattle.planner.proofs.free.+lowest_free.Given as goal

abbrev pub decreases-lowest_free : goal.decreases-lowest_free
decreases-lowest_free l = l.parts
