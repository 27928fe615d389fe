-- `listing::perform_words` meets its contract: before each turn i words are done, and what is left of the run goes on from the state that they left.
-- Assumes nothing.
use Prim.Native.Nat.{◌≤◌}
use Rattle.semantics.specs.State.{state_of}
use Rattle.listing.proofs.RunLaws.{Onward}
use Rattle.listing.proofs.perform_words.Given as goal

abbrev pub invariant-loop-i : goal.invariant-loop-i
invariant-loop-i l =
    (l.i ≤ l.n) × Onward l.settings l.listing l.n (state_of l.x l.initial.z l.p l.initial.za l.initial.memory) l.i (state_of l.x l.z l.p l.za l.memory)
