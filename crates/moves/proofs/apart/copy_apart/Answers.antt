-- `moves::apart::copy_apart` meets its contract: after e turns the first e elements are copied.
-- Assumes nothing.
use mathlib.Core.Path.{refl, ap}
use Prim.Native.Nat.{ℕ}
use lib.ListN.{get_or}
use Rattle.tiles.specs.Element.{bytes_of}
use Rattle.tiles.proofs.SpanLaws.{strided_element}
use Rattle.moves.proofs.BlockLaws.{written_none, written_block}
use Rattle.moves.proofs.apart.copy_apart.Goals as goal

pub loop-e-init : goal.loop-e-init
loop-e-init c = written_none _ _ _ _ _

pub loop-e-preserved : goal.loop-e-preserved
loop-e-preserved c =
    let l = c.loop-e in
    let a = c.args in
    let m = bytes_of a.size in
    written_block _ _ _ _ l.e m _ _ _ l.invariant.1
    (λ i w. (refl, strided_element a.to.start a.to.step m l.e i w, ap (λ (k : ℕ). get_or a.src.now k 0) (strided_element a.from.start a.from.step m l.e i w)))
    (rw (c.element_start.ensures, c.element_start-in-loop-e.ensures) at c.copy_element.ensures)
