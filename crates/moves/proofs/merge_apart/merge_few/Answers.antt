-- `moves::merge_apart::merge_few` meets its contract: after j turns j elements are written or kept.
-- Assumes nothing.
use Rattle.tiles.proofs.SpanLaws.{strided_element}
use Rattle.moves.proofs.BlockLaws.{written_none, written_block}
use Rattle.moves.proofs.GroupLaws.{set_in-element}
use Rattle.moves.proofs.merge_apart.merge_few.Goals as goal

pub loop-j-init : goal.loop-j-init
loop-j-init c = written_none _ _ _ _ _

pub loop-j-preserved : goal.loop-j-preserved
loop-j-preserved c =
    let l = c.loop-j in
    let a = c.args in
    written_block _ _ _ _ l.j a.m _ _ _ l.invariant.1
    (λ i w. (rw (set_in-element a.b a.m l.j i w), strided_element a.to.start a.to.step a.m l.j i w, rw (set_in-element a.b a.m l.j i w, strided_element a.from.start a.from.step a.m l.j i w)))
    (rw (c.element_start.ensures, c.element_start-in-loop-j.ensures) at c.merge_bytes.ensures)
