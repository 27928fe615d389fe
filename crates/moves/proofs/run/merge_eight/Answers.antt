-- `moves::run::merge_eight` meets its contract: after j turns what goes by 2 j predicate bytes is merged.
-- Assumes nothing.
use mathlib.Core.Path.{◌≡◌}
use Prim.Native.Nat.{◌+◌, ◌*◌, ◌<◌}
use native.Mathlib.Omega.{arith}
use Rattle.general.proofs.ScatterLaws.{scatter_none}
use Rattle.moves.proofs.BlockLaws.{block_next}
use Rattle.moves.proofs.PartLaws.{lent_length, lent_byte}
use Rattle.moves.proofs.RunLaws.{some_bits, merged_more, merged_two}
use Rattle.moves.proofs.run.merge_eight.Goals as goal

pub loop-j-init : goal.loop-j-init
loop-j-init c = scatter_none _ _ _

pub merge_mixed-requires-clause-mixed : goal.merge_mixed-requires-clause-mixed
merge_mixed-requires-clause-mixed c i w =
    let a = c.args in
    let p = a.p.now in
    let at = a.first + c.loop-j.j * 2 in
    let within : i < 2 = omega (arith, lent_length at 2 p (omega arith)) in
    let place : at + i ≡ a.first + (c.loop-j.j * 2 + i) = omega arith in
    rw (lent_byte at 2 p i within, place) (some_bits p (λ k. (c.type_inv.p k).fits) a.bits.size a.bits.few a.first c.requires.mixed (c.loop-j.j * 2 + i) (omega arith))

pub loop-j-preserved : goal.loop-j-preserved
loop-j-preserved c =
    let l = c.loop-j in
    let a = c.args in
    rw (block_next l.j 2) (merged_more a.p.now a.bits.size a.src.now a.first (l.j * 2) 2 a.dst.now l.invariant (merged_two a.p.now a.bits.size a.src.now (a.first + l.j * 2) _ a.bits.few c.merge_mixed.ensures))
