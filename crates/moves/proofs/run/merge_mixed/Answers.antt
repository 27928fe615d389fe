-- `moves::run::merge_mixed` meets its contract: after i turns the first i bytes are chosen; then all are written.
-- Assumes nothing.
use mathlib.Core.Bool.{Bool, cond, not}
use mathlib.Core.Path.{refl, ◌∙◌}
use Prim.Native.Nat.{ℕ, ◌+◌, ◌/◌}
use native.Mathlib.Omega.{arith}
use lib.Bits.{bit_and}
use lib.Dec.{eqb}
use lib.ListN.{get_or, length-set, length-replicate}
use Rattle.general.proofs.ScatterLaws.{scatter_none, scatter_more, scatter_end, scatter_tests}
use Rattle.moves.proofs.MaskLaws.{masked_among}
use Rattle.moves.proofs.PartLaws.{scatter_by_part, scatter_picked}
use Rattle.moves.proofs.run.merge_mixed.Goals as goal

pub loop-i-init : goal.loop-i-init
loop-i-init g c = (refl, scatter_none _ _ _)

pub loop-i-preserved : goal.loop-i-preserved
loop-i-preserved g c =
    let l = c.loop-i in
    (simp length-set l.invariant.0, rw c.choose.ensures (scatter_more _ _ _ _ _ l.invariant.1 refl))

pub returns : goal.returns
returns g c =
    let l = c.loop-i in
    let a = c.args in
    let val : ℕ → ℕ = λ k. get_or a.src.now (a.at_src + k) 0 in
    let on : ℕ → Bool = λ k. not (eqb (bit_and (get_or a.by.now (k / 8) 0) (get_or a.bits.masks k 0)) 0) in
    c.copy_bytes.ensures
    ∙ scatter_by_part _ _ (λ k. cond (on k) (val k) (get_or a.dst.now (a.at_dst + k) 0)) g.row.N _ _ _ (omega (arith, length-replicate {A = ℕ} g.row.N 0)) (scatter_end _ _ _ _ l.invariant.1 l.auto.i-end c.loop-i-test.false)
    ∙ scatter_picked a.at_dst on val a.dst.now g.row.N
    ∙ scatter_tests _ _ _ _ g.row.N _ (λ k w. masked_among a.by.now a.bits.size a.bits.masks a.bits.few a.bits.table k (omega (arith, c.requires.lengths)))
