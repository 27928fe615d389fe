-- `moves::run::merge_mixed` meets its contract: after i turns the first i bytes are chosen; then all are written.
-- Assumes nothing.
use mathlib.Core.Bool.{cond, not}
use Prim.Native.Nat.{ℕ, ◌+◌, ◌/◌}
use lib.Bits.{bit_and}
use lib.Dec.{eqb}
use lib.ListN.{get_or}
use Rattle.general.specs.Scatter.{all}
use Rattle.moves.proofs.BlockLaws.{WrittenTo}
use Rattle.moves.proofs.PartLaws.{each}
use Rattle.moves.proofs.run.merge_mixed.Given as goal

abbrev pub invariant-loop-i : goal.invariant-loop-i
invariant-loop-i g l =
    WrittenTo each all (λ (k : ℕ). cond (not (eqb (bit_and (get_or l.by (k / 8) 0) (get_or l.bits.masks k 0)) 0)) (get_or l.src (l.at_src + k) 0) (get_or l.dst (l.at_dst + k) 0)) l.initial.part l.i l.part
