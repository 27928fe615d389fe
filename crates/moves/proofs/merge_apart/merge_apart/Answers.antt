-- `moves::merge_apart::merge_apart` meets its contract: after g turns the elements of g groups are written or kept, and those of a predicate
-- byte that is zero passed over.
-- Assumes nothing.
use mathlib.Core.Path.{sym, ◌∙◌}
use native.Mathlib.Nat.{div-add-mod'}
use native.Mathlib.Omega.{arith}
use Rattle.moves.proofs.BlockLaws.{written_none}
use Rattle.moves.proofs.SpanLaws.{reads}
use Rattle.moves.proofs.GroupLaws.{group_index, group_first, part_paired, group_merged, group_passed}
use Rattle.moves.proofs.merge_apart.merge_apart.Goals.{then-are_written, else-are_written}
use Rattle.moves.proofs.merge_apart.merge_apart.Goals as goal

pub loop-g-init : goal.loop-g-init
loop-g-init c =
    let a = c.args in
    (omega (arith, div-add-mod' a.to.count a.per, c.requires.3), written_none _ _ _ _ _)

pub bounds-p-g : goal.bounds-p-g
bounds-p-g c = let h = c.requires in group_index h.2 h.0 h.1 _ c.loop-g.invariant.0 c.loop-g-test.true

pub part-requires-then-are_written : goal.part-requires-then-are_written
part-requires-then-are_written c =
    let h = c.requires in
    omega (arith, reads h.0 _ (group_first h.2 h.0 h.1 _ c.loop-g.invariant.0 c.loop-g-test.true))

pub merge_few-requires : goal.merge_few-requires
merge_few-requires c =
    let h = c.requires in
    rw (c.part.ensures, c.part-then-are_written.ensures, c.loop-g.invariant.1.0) (part_paired h.2 h.0 h.1 _ c.loop-g.invariant.0 c.loop-g-test.true, h.2)

pub loop-g-preserved : goal.loop-g-preserved
loop-g-preserved c =
    let a = c.args in
    let h = c.requires in
    let l = c.loop-g in
    elim c.if-are_written.branch [
      | then-are_written w ↦ (l.invariant.0, rw w.dst-is (group_merged h.2 a.zeroing a.p.now a.src.now a.to a.from a.dst.now l.g l.invariant.1 (rw (w.part.ensures, w.part-then-are_written.ensures) at w.merge_few.ensures)))
      | else-are_written w ↦ (l.invariant.0, rw w.dst-is (group_passed h.2 a.zeroing a.p.now a.src.now a.to a.from a.dst.now l.g l.invariant.1 (sym c.are_written.ensures ∙ w.if-are_written.false)))
    ]
