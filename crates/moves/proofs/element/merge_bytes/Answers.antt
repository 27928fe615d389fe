-- `moves::element::merge_bytes` meets its contract: after i turns the first i bytes are chosen; then all are written.
-- Assumes nothing.
use mathlib.Core.Bool.{cond}
use mathlib.Core.Path.{refl, ◌∙◌}
use Prim.Native.Nat.{ℕ, ◌+◌}
use native.Mathlib.Omega.{arith}
use lib.ListN.{get_or, length-set, length-replicate}
use Rattle.general.proofs.ScatterLaws.{scatter_none, scatter_more, scatter_end}
use Rattle.moves.proofs.PartLaws.{scatter_by_part, scatter_merged}
use Rattle.moves.proofs.element.merge_bytes.Goals as goal

pub loop-i-init : goal.loop-i-init
loop-i-init c = (refl, scatter_none _ _ _)

pub loop-i-preserved : goal.loop-i-preserved
loop-i-preserved c =
    let l = c.loop-i in
    (simp length-set l.invariant.0, rw (c.choose.ensures, c.choose-other.ensures) (scatter_more _ _ _ _ _ l.invariant.1 refl))

pub returns : goal.returns
returns c =
    let l = c.loop-i in
    let a = c.args in
    let val : ℕ → ℕ = λ k. get_or a.src.now (a.at_src + k) 0 in
    c.copy_bytes.ensures
    ∙ scatter_by_part _ _ (λ k. cond a.on (val k) (cond a.zeroing 0 (get_or a.dst.now (a.at_dst + k) 0))) _ _ _ _ (omega (arith, length-replicate {A = ℕ} 16 0)) (scatter_end _ _ _ _ l.invariant.1 l.auto.i-end c.loop-i-test.false)
    ∙ scatter_merged a.at_dst a.on a.zeroing val a.dst.now _
