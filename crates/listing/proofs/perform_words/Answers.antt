-- `listing::perform_words` meets its contract: before each turn i words are done, and what is left of the run goes on from the state that they left.
-- Assumes nothing.
use native.Mathlib.Omega.{arith}
use Rattle.listing.proofs.RunLaws.{onward_begins, onward_sized, onward_done, onward_refused, onward_ends}
use Rattle.listing.proofs.perform_words.Goals as goal

pub loop-i-init : goal.loop-i-init
loop-i-init c = (omega arith, onward_begins _ _ _ _)

pub perform-requires : goal.perform-requires
perform-requires c = onward_sized _ _ _ _ _ _ c.loop-i.invariant.1 c.requires.0

pub returns-in-Err : goal.returns-in-Err
returns-in-Err c =
    rw c.into.ensures (onward_refused _ _ _ _ _ _ c.loop-i.invariant.1 _ _ _ c.loop-i-test.true c.word_at-word.ensures c.perform.ensures _ c.in-Err.is)

pub loop-i-preserved : goal.loop-i-preserved
loop-i-preserved c = (
  omega arith,
  onward_done _ _ _ _ _ _ c.loop-i.invariant.1 _ _ _ c.loop-i-test.true c.word_at-word.ensures c.perform.ensures c.in_default.is,
)

pub returns : goal.returns
returns c = onward_ends _ _ _ _ _ _ c.loop-i.invariant.1 c.loop-i.invariant.0 c.loop-i-test.false
