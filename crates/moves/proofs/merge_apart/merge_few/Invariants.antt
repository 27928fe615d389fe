-- `moves::merge_apart::merge_few` meets its contract: after j turns j elements are written or kept.
-- Assumes nothing.
use mathlib.Core.Bool.{cond, ◌||◌}
use Prim.Native.Nat.{ℕ, ◌*◌}
use Rattle.tiles.specs.Span.{span_at}
use Rattle.moves.specs.Paired.{value_at, set_in}
use Rattle.moves.proofs.BlockLaws.{WrittenTo}
use Rattle.moves.proofs.merge_apart.merge_few.Given as goal

abbrev pub invariant-loop-j : goal.invariant-loop-j
invariant-loop-j l =
    WrittenTo (span_at l.to l.m) (λ (k : ℕ). l.zeroing || set_in l.b l.m k) (λ (k : ℕ). cond (set_in l.b l.m k) (value_at l.src l.from l.m k) 0) l.initial.dst (l.j * l.m) l.dst
