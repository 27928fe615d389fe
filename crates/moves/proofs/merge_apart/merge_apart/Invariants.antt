-- `moves::merge_apart::merge_apart` meets its contract: after g turns the elements of g groups are written or kept, and those of a predicate
-- byte that is zero passed over.
-- Assumes nothing.
use mathlib.Core.Path.{◌≡◌}
use mathlib.Core.Bool.{cond, ◌||◌}
use Prim.Native.Nat.{ℕ, ◌*◌}
use Rattle.tiles.specs.Predicate.{active}
use Rattle.tiles.specs.Span.{span_at}
use Rattle.moves.specs.Paired.{value_at}
use Rattle.moves.proofs.BlockLaws.{WrittenTo}
use Rattle.moves.proofs.merge_apart.merge_apart.Given as goal

abbrev pub invariant-loop-g : goal.invariant-loop-g
invariant-loop-g l =
    (l.n * l.per ≡ l.to.count) × WrittenTo (span_at l.to l.m) (λ (k : ℕ). l.zeroing || active l.p 0 l.m k) (λ (k : ℕ). cond (active l.p 0 l.m k) (value_at l.src l.from l.m k) 0) l.initial.dst (l.g * (l.per * l.m)) l.dst
