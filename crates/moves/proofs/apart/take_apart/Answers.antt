-- `moves::apart::take_apart` meets its contract: after e turns e elements are copied and zero where they were; those to come are as they were.
-- Assumes nothing.
use mathlib.Core.Path.{refl, sym}
use Prim.Native.Nat.{◌+◌, ◌*◌}
use native.Mathlib.Omega.{arith}
use lib.ListN.{get_or, get_or-replicate}
use Rattle.tiles.specs.Element.{bytes_of}
use Rattle.tiles.proofs.SpanLaws.{strided_element}
use Rattle.moves.proofs.BlockLaws.{written_none, written_block}
use Rattle.moves.proofs.SpanLaws.{bytes_of_range, cleared_later}
use Rattle.moves.proofs.apart.take_apart.Goals as goal

pub loop-e-init : goal.loop-e-init
loop-e-init c = (written_none _ _ _ _ _, written_none _ _ _ _ _)

pub loop-e-preserved : goal.loop-e-preserved
loop-e-preserved c =
    let l = c.loop-e in
    let a = c.args in
    let m = bytes_of a.size in
    let at = a.from.start + l.e * a.from.step in
    let taken =
    written_block _ _ _ _ l.e m _ _
    (λ i. get_or l.src (at + i) 0) l.invariant.0.1
    (λ i w. (refl, strided_element a.to.start a.to.step m l.e i w, cleared_later a.from.start a.from.step m (bytes_of_range a.size).0 c.requires.1 l.e i a.src.now l.src w l.invariant.1.1))
    (rw (c.element_start-at.ensures, c.element_start.ensures) at c.copy_element.ensures) in
    let cleared =
    written_block _ _ _ _ l.e m _ _ _ l.invariant.1.1 (λ i w. (refl, strided_element a.from.start a.from.step m l.e i w, sym (get_or-replicate 16 (0 + i) 0 0 (omega (arith, bytes_of_range a.size)))))
    (rw c.element_start-at.ensures at c.copy_element-in-loop-e.ensures) in
    (taken, cleared)
