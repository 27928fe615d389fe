-- `moves::run::merge_part` meets its contract: after g turns what goes by g eights of predicate bytes is merged.
-- Assumes nothing.
use native.Mathlib.Nat.{zero-add}
use Prim.Native.Nat.{◌*◌}
use Rattle.general.proofs.ScatterLaws.{scatter_none}
use Rattle.moves.proofs.BlockLaws.{block_next}
use Rattle.moves.proofs.RunLaws.{merged_more}
use Rattle.moves.proofs.run.merge_part.Goals as goal

pub loop-g-init : goal.loop-g-init
loop-g-init c = scatter_none _ _ _

pub loop-g-preserved : goal.loop-g-preserved
loop-g-preserved c =
    let l = c.loop-g in
    let a = c.args in
    rw (block_next l.g 8) (merged_more a.p.now a.bits.size a.src.now 0 (l.g * 8) 8 a.dst.now l.invariant (rw (zero-add (l.g * 8)) c.merge_block.ensures))
