-- `moves::bytes::clear_bytes` meets its contract: after i turns the first i bytes of the part that is lent are zero.
-- Assumes nothing.
use mathlib.Core.Path.{refl, ap, ◌∙◌}
use native.Mathlib.Nat.{zero-add}
use native.Mathlib.Omega.{arith}
use lib.ListN.{length-set}
use borrow.Rule.Slice.PartMut.{put_mid}
use Prim.Native.Nat.{◌+◌, ◌-◌}
use Rattle.general.specs.Scatter.{all, zeros}
use Rattle.general.proofs.ScatterLaws.{scatter_none, scatter_more, scatter_end}
use Rattle.moves.proofs.PartLaws.{lent_length, lent_scatter}
use Rattle.moves.proofs.bytes.clear_bytes.Goals as goal

pub loop-byte-init : goal.loop-byte-init
loop-byte-init c = (refl, scatter_none _ _ _)

pub loop-byte-preserved : goal.loop-byte-preserved
loop-byte-preserved c =
    let l = c.loop-byte in
    (simp length-set l.invariant.0, rw (zero-add l.byte-index) at (scatter_more _ _ _ _ _ l.invariant.1 refl))

pub returns : goal.returns
returns c =
    let a = c.args in
    let l = c.loop-byte in
    let long = lent_length a.at a.n a.dst.now c.requires in
    ap (put_mid a.at (a.at + a.n - a.at) a.dst.now) (scatter_end _ _ _ _ l.invariant.1 (omega arith) (omega arith))
    ∙ lent_scatter all zeros a.at a.n a.dst.now c.requires a.n (omega arith)
