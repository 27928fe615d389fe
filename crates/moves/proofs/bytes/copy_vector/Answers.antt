-- `moves::bytes::copy_vector` meets its contract: the array between the two copies holds the bytes of the source.
-- Assumes nothing.
use mathlib.Core.Path.{◌∙◌}
use Prim.Native.Nat.{◌+◌}
use native.Mathlib.Omega.{arith}
use lib.ListN.{get_or}
use Rattle.moves.proofs.PartLaws.{from_zero, scatter_by_part}
use Rattle.moves.proofs.bytes.copy_vector.Goals as goal

pub returns : goal.returns
returns c =
    let a = c.args in
    c.copy_bytes-2.ensures
    ∙ scatter_by_part _ _ (λ k. get_or a.src.now (a.at_src + k) 0) a.n _ _ _ (omega arith) (from_zero _ _ _ c.copy_bytes.ensures)
