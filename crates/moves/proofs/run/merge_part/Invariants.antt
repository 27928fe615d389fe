-- `moves::run::merge_part` meets its contract: after g turns what goes by g eights of predicate bytes is merged.
-- Assumes nothing.
use mathlib.Core.Path.{◌≡◌}
use Prim.Native.Nat.{◌*◌}
use Rattle.moves.specs.Mask.{merged_by}
use Rattle.moves.proofs.run.merge_part.Given as goal

abbrev pub invariant-loop-g : goal.invariant-loop-g
invariant-loop-g l = l.dst ≡ merged_by l.p l.bits.size l.src 0 (l.g * 8) l.initial.dst
