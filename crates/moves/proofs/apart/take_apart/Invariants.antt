-- `moves::apart::take_apart` meets its contract: after e turns e elements are copied and zero where they were; those to come are as they were.
-- Assumes nothing.
use Prim.Native.Nat.{◌*◌}
use Rattle.tiles.specs.Element.{bytes_of}
use Rattle.general.specs.Scatter.{all, zeros}
use Rattle.tiles.specs.Span.{span_at}
use Rattle.moves.specs.Paired.{value_at}
use Rattle.moves.proofs.BlockLaws.{WrittenTo}
use Rattle.moves.proofs.apart.take_apart.Given as goal

abbrev pub invariant-loop-e : goal.invariant-loop-e
invariant-loop-e l =
    WrittenTo (span_at l.to (bytes_of l.size)) all (value_at l.initial.src l.from (bytes_of l.size)) l.initial.dst (l.e * bytes_of l.size) l.dst × WrittenTo (span_at l.from (bytes_of l.size)) all zeros l.initial.src (l.e * bytes_of l.size) l.src
