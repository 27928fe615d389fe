-- `moves::run::merge_eight` meets its contract: after j turns what goes by 2 j predicate bytes is merged.
-- Assumes nothing.
use mathlib.Core.Path.{◌≡◌}
use Prim.Native.Nat.{◌*◌}
use Rattle.moves.specs.Mask.{merged_by}
use Rattle.moves.proofs.run.merge_eight.Given as goal

abbrev pub invariant-loop-j : goal.invariant-loop-j
invariant-loop-j l = l.dst ≡ merged_by l.p l.bits.size l.src l.first (l.j * 2) l.initial.dst
