-- `moves::bytes::copy_bytes` meets its contract: after i turns the first i bytes are copied.
-- Assumes nothing.
use mathlib.Core.Path.{refl}
use Rattle.general.proofs.ScatterLaws.{scatter_none, scatter_more}
use Rattle.moves.proofs.bytes.copy_bytes.Goals as goal

pub loop-i-init : goal.loop-i-init
loop-i-init c = scatter_none _ _ _

pub loop-i-preserved : goal.loop-i-preserved
loop-i-preserved c = scatter_more _ _ _ _ _ c.loop-i.invariant refl
