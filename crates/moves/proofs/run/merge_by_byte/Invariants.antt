-- `moves::run::merge_by_byte` meets its contract: up to predicate byte i what goes by those from the first on is merged.
-- Assumes nothing.
use mathlib.Core.Path.{◌≡◌}
use Prim.Native.Nat.{◌-◌}
use Rattle.moves.specs.Mask.{merged_by}
use Rattle.moves.proofs.run.merge_by_byte.Given as goal

abbrev pub invariant-loop-i : goal.invariant-loop-i
invariant-loop-i l = l.dst ≡ merged_by l.p l.bits.size l.src l.first (l.i - l.first) l.initial.dst
