-- `moves::element::merge_bytes` meets its contract: after i turns the first i bytes are chosen; then all are written.
-- Assumes nothing.
use mathlib.Core.Bool.{cond}
use Prim.Native.Nat.{ℕ, ◌+◌}
use lib.ListN.{get_or}
use Rattle.general.specs.Scatter.{all}
use Rattle.moves.proofs.BlockLaws.{WrittenTo}
use Rattle.moves.proofs.PartLaws.{each}
use Rattle.moves.proofs.element.merge_bytes.Given as goal

abbrev pub invariant-loop-i : goal.invariant-loop-i
invariant-loop-i l =
    WrittenTo each all (λ (k : ℕ). cond l.on (get_or l.src (l.at_src + k) 0) (cond l.zeroing 0 (get_or l.dst (l.at_dst + k) 0))) l.initial.part l.i l.part
