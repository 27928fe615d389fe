-- `moves::apart::copy_apart` meets its contract: after e turns the first e elements are copied.
-- Assumes nothing.
use Prim.Native.Nat.{◌*◌}
use Rattle.tiles.specs.Element.{bytes_of}
use Rattle.general.specs.Scatter.{all}
use Rattle.tiles.specs.Span.{span_at}
use Rattle.moves.specs.Paired.{value_at}
use Rattle.moves.proofs.BlockLaws.{WrittenTo}
use Rattle.moves.proofs.apart.copy_apart.Given as goal

abbrev pub invariant-loop-e : goal.invariant-loop-e
invariant-loop-e l =
    WrittenTo (span_at l.to (bytes_of l.size)) all (value_at l.src l.from (bytes_of l.size)) l.initial.dst (l.e * bytes_of l.size) l.dst
